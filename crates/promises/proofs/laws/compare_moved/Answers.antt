-- `compare_moved` meets its contract: it moves both words, then compares them, and the law follows. Assumes nothing.
use Rattle.promises.specs.Moving.{goes_on, stops, GoesCompared}
use Rattle.promises.proofs.Moving.{goes_compared, handed}
use Rattle.promises.proofs.laws.compare_moved.Goals as goal

pub returns-in_err-moved_x : goal.returns-in_err-moved_x
unfolding GoesCompared
returns-in_err-moved_x c =
    let at = c.args in
    goes_compared at.from.bits at.to.bits at.x at.y _ (stops _ c.in_err-moved_x.ensures (handed _ _ c.from_residual.ensures.1))

pub returns-in_err-moved_y : goal.returns-in_err-moved_y
unfolding GoesCompared
returns-in_err-moved_y c =
    let at = c.args in
    goes_compared at.from.bits at.to.bits at.x at.y _ (goes_on _ c.in_ok-moved_x.ensures (stops _ c.in_err-moved_y.ensures (handed _ _ c.from_residual-in_err-moved_y.ensures.1)))

pub returns : goal.returns
unfolding GoesCompared
returns c =
    let at = c.args in
    goes_compared at.from.bits at.to.bits at.x at.y _ (goes_on _ c.in_ok-moved_x.ensures (goes_on _ c.in_ok-moved_y.ensures c.compare.ensures))
