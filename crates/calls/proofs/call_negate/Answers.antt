-- `call_negate` meets its contract, by that of `takum_negate`. Assumes nothing.
use Rattle.promises.proofs.FaceWords.{negate_hands}
use Rattle.calls.proofs.call_negate.Goals as goal

pub returns : goal.returns
returns c = negate_hands _ _ _ c.takum_negate.ensures
