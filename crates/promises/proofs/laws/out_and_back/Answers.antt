-- `out_and_back` meets its contract: it goes from move to move, and the law follows. Assumes nothing.
use Rattle.promises.specs.Moving.{goes_on, stops, GoesOutAndBack}
use Rattle.promises.proofs.Moving.{goes_out_and_back, handed}
use Rattle.promises.proofs.laws.out_and_back.Goals as goal

pub returns-in_err-there : goal.returns-in_err-there
unfolding GoesOutAndBack
returns-in_err-there c =
    let at = c.args in
    goes_out_and_back at.from.bits at.to.bits at.middle.bits at.word _ (stops _ c.in_err-there.ensures (handed _ _ c.from_residual.ensures.1))

pub returns-in_err-out : goal.returns-in_err-out
unfolding GoesOutAndBack
returns-in_err-out c =
    let at = c.args in
    goes_out_and_back at.from.bits at.to.bits at.middle.bits at.word _ (goes_on _ c.in_ok-there.ensures (stops _ c.in_err-out.ensures (handed _ _ c.from_residual-in_err-out.ensures.1)))

pub returns : goal.returns
unfolding GoesOutAndBack
returns c =
    let at = c.args in
    goes_out_and_back at.from.bits at.to.bits at.middle.bits at.word _ (goes_on _ c.in_ok-there.ensures (goes_on _ c.in_ok-out.ensures c.move_rounded-3.ensures))
