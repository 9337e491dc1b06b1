-- `Bytes::width` meets its contract. Assumes nothing.
use Rattle.std.proofs.Common.{◌∙◌, arith}
use Rattle.sheet.specs.Layout.{width}
use Rattle.sheet.proofs.LittleEndian.{number_at_one}
use Rattle.sheet.proofs.bytes.Bytes.width.Goals as goal

pub returns : goal.returns
unfolding width
returns c = (c.number.ensures.0 ∙ number_at_one 1 _ (omega (arith, c.args.self.sized)), c.number.ensures.1)
