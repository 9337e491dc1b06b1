-- `call_read` meets its contract, by that of `takum_read`. Assumes nothing.
use Rattle.promises.proofs.FaceWords.{read_hands}
use Rattle.calls.proofs.call_read.Goals as goal

pub returns : goal.returns
returns c = read_hands _ _ _ c.takum_read.ensures
