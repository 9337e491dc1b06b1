-- `call_write` meets its contract, by that of `takum_write`; the number goes through its machine form unchanged. Assumes nothing.
use mir.Facts.{to_z-of_z}
use Rattle.promises.proofs.FaceLaws.{any_rule}
use Rattle.promises.proofs.FaceNumbers.{write_hands}
use Rattle.calls.proofs.call_write.Goals as goal

pub returns : goal.returns
returns c = write_hands _ _ _ _ _ _ (rw (any_rule _, to_z-of_z c.ranges.k) at c.takum_write.ensures)
