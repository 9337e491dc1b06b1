-- `Bytes::count` meets its contract. Assumes nothing.
use Rattle.sheet.specs.Layout.{count}
use Rattle.sheet.proofs.bytes.Bytes.count.Goals as goal

pub returns : goal.returns
unfolding count
returns c = c.number.ensures
