-- `Bytes::number` meets its contract. Assumes nothing.
use Rattle.sheet.specs.Layout.{block_number}
use Rattle.sheet.proofs.bytes.Bytes.number.Goals as goal

pub returns : goal.returns
unfolding block_number
returns c = c.number.ensures.0
