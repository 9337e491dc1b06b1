-- `call_nar` meets its contract, by that of `takum_nar`. Assumes nothing.
use Rattle.promises.proofs.FaceWords.{NaR_hands}
use Rattle.calls.proofs.call_nar.Goals as goal

pub returns : goal.returns
returns c = NaR_hands _ _ c.takum_nar.ensures
