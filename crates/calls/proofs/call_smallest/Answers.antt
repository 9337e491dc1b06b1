-- `call_smallest` meets its contract, by that of `takum_smallest`. Assumes nothing.
use Rattle.promises.proofs.FaceWords.{smallest_hands}
use Rattle.calls.proofs.call_smallest.Goals as goal

pub returns : goal.returns
returns c = smallest_hands _ _ c.takum_smallest.ensures
