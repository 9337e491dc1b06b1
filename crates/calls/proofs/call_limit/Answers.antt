-- `call_limit` meets its contract, by that of `takum_limit`. Assumes nothing.
use Rattle.promises.proofs.FaceWords.{limit_hands}
use Rattle.calls.proofs.call_limit.Goals as goal

pub returns : goal.returns
returns c = limit_hands _ _ c.takum_limit.ensures
