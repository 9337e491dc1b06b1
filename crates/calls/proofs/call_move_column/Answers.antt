-- `call_move_column` meets its contract, by that of `takum_move_column`. Assumes nothing.
use Rattle.promises.proofs.FaceLaws.{any_rule}
use Rattle.promises.proofs.FaceSlices.{column_hands}
use Rattle.calls.proofs.call_move_column.Goals as goal

pub returns : goal.returns
returns c = column_hands _ _ _ _ _ _ _ (rw (any_rule _) at c.takum_move_column.ensures)
