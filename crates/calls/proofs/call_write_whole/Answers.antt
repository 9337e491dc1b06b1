-- `call_write_whole` meets its contract, by that of `takum_write_whole`; the number goes through its machine form unchanged. Assumes nothing.
use mir.Facts.{to_z-of_z}
use Rattle.promises.proofs.FaceLaws.{any_rule}
use Rattle.promises.proofs.FaceNumbers.{write_whole_hands}
use Rattle.calls.proofs.call_write_whole.Goals as goal

pub returns : goal.returns
returns c = write_whole_hands _ _ _ _ (rw (any_rule _, to_z-of_z c.ranges.x) at c.takum_write_whole.ensures)
