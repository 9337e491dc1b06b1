-- `call_compare` meets its contract, by that of `takum_compare`. Assumes nothing.
use Rattle.promises.proofs.FaceWords.{compare_hands}
use Rattle.calls.proofs.call_compare.Goals as goal

pub returns : goal.returns
returns c = compare_hands _ _ _ _ c.takum_compare.ensures
