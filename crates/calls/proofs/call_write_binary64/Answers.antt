-- `call_write_binary64` meets its contract, by that of `takum_write_binary64`. Assumes nothing.
use Rattle.promises.proofs.FaceLaws.{any_rule}
use Rattle.promises.proofs.FaceNumbers.{write_binary64_hands}
use Rattle.calls.proofs.call_write_binary64.Goals as goal

pub returns : goal.returns
returns c = write_binary64_hands _ _ _ _ (rw (any_rule _) at c.takum_write_binary64.ensures)
