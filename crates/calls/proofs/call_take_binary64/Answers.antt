-- `call_take_binary64` meets its contract, by that of `takum_take_binary64`. Assumes nothing.
use Rattle.promises.proofs.FaceNumbers.{take_binary64_hands}
use Rattle.calls.proofs.call_take_binary64.Goals as goal

pub returns : goal.returns
returns c = take_binary64_hands _ _ _ c.takum_take_binary64.ensures
