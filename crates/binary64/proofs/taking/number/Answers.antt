-- `number` meets its contract: the cast and the scaling are exact. Assumes nothing.
use lib.Ieee.{of_int}
use Rattle.binary64.proofs.Scaling.{scaling_exact}
use Rattle.binary64.proofs.taking.number.Goals as goal

pub returns : goal.returns
unfolding of_int
returns c = let k = c.requires in
    scaling_exact _ _ _ c.power_of_two.result k.0 k.2 c.power_of_two.ensures
