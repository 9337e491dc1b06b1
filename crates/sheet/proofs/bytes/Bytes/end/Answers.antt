-- `Bytes::end` meets its contract. Assumes nothing.
use Rattle.std.proofs.Common.{ℕ, ◌+◌, ◌*◌, ap₂}
use Rattle.sheet.specs.Layout.{end}
use Rattle.sheet.proofs.bytes.Bytes.end.Goals as goal

pub returns : goal.returns
unfolding end
returns c = ap₂ (λ (s n : ℕ). 8 + s * n) c.word_bytes.ensures.0 c.count.ensures.0
