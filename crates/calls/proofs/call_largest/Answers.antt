-- `call_largest` meets its contract, by that of `takum_largest`. Assumes nothing.
use Rattle.promises.proofs.FaceWords.{largest_hands}
use Rattle.calls.proofs.call_largest.Goals as goal

pub returns : goal.returns
returns c = largest_hands _ _ c.takum_largest.ensures
