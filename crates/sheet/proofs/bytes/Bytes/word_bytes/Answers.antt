-- `Bytes::word_bytes` meets its contract. Assumes nothing.
use Rattle.std.proofs.Common.{ℕ, ◌/◌, ap, arith}
use Rattle.sheet.specs.Layout.{word_bytes}
use Rattle.sheet.proofs.bytes.Bytes.word_bytes.Goals as goal

pub returns : goal.returns
unfolding word_bytes
returns c = (ap (λ (n : ℕ). n / 8) c.width.ensures.0, omega arith)
