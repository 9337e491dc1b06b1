-- `told_by` meets its contract. Assumes nothing.
use Rattle.std.proofs.Common.{refl, ap, Some}
use Rattle.lister.specs.Told.{Tells}
use Rattle.lister.proofs.reading.told_by.Goals as goal

pub returns-in-Ok : goal.returns-in-Ok
unfolding Tells
returns-in-Ok c = rw c.in-Ok.is (ap (λ k. Some k) c.min.ensures)

pub returns-in-Err : goal.returns-in-Err
unfolding Tells
returns-in-Err c = rw c.in-Err.is refl
