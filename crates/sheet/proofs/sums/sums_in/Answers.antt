-- `sums_in` meets its contract. Assumes nothing.
use Rattle.sheet.specs.Layout.{A, B}
use Rattle.sheet.proofs.sums.sums_in.Goals as goal

pub returns : goal.returns
unfolding A B
returns c = (c.number.ensures.0, c.number-2.ensures.0)
