-- `call_move` meets its contract, by that of `takum_move`. Assumes nothing.
use Rattle.promises.proofs.FaceLaws.{any_rule}
use Rattle.promises.proofs.FaceNumbers.{move_hands}
use Rattle.calls.proofs.call_move.Goals as goal

pub returns : goal.returns
returns c = move_hands _ _ _ _ _ (rw (any_rule _) at c.takum_move.ensures)
