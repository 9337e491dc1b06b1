-- The invariant of the loop of `sums_of`: a and b are the sums of the first i numbers, in that what is still to come makes them A and B. Assumes
-- nothing.
use Rattle.sheet.specs.Layout.{numbers}
use Rattle.sheet.proofs.Checks.{Summed}
use Rattle.sheet.proofs.sums.sums_of.Given as goal

abbrev pub invariant-loop-i : goal.invariant-loop-i
invariant-loop-i l = Summed (numbers l.block.all.now) l.i l.a l.b
