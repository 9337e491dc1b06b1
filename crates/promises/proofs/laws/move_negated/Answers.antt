-- `move_negated` meets its contract: it negates, then moves, and the law follows. Assumes nothing.
use Rattle.promises.specs.Moving.{goes_on, stops, GoesNegated}
use Rattle.promises.proofs.Moving.{goes_negated, handed}
use Rattle.promises.proofs.laws.move_negated.Goals as goal

pub returns-in_err-opposite : goal.returns-in_err-opposite
unfolding GoesNegated
returns-in_err-opposite c =
    let at = c.args in
    goes_negated at.from.bits at.to.bits at.word _ (stops _ c.in_err-opposite.ensures (handed _ _ c.from_residual.ensures.1))

pub returns : goal.returns
unfolding GoesNegated
returns c =
    let at = c.args in
    goes_negated at.from.bits at.to.bits at.word _ (goes_on _ c.in_ok-opposite.ensures c.move_word.ensures)
