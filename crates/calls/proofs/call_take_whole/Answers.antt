-- `call_take_whole` meets its contract, by that of `takum_take_whole`. Assumes nothing.
use Rattle.promises.proofs.FaceLaws.{any_taking}
use Rattle.promises.proofs.FaceNumbers.{take_whole_hands}
use Rattle.calls.proofs.call_take_whole.Goals as goal

pub returns : goal.returns
returns c = take_whole_hands _ _ _ _ (rw (any_taking _) at c.takum_take_whole.ensures)
