-- `call_shortest_width` meets its contract, by that of `takum_shortest_width`; the number goes through its machine form unchanged. Assumes nothing.
use mir.Facts.{to_z-of_z}
use Rattle.promises.proofs.FaceNumbers.{shortest_hands}
use Rattle.calls.proofs.call_shortest_width.Goals as goal

pub returns : goal.returns
returns c = shortest_hands _ _ (rw (to_z-of_z c.ranges.x) at c.takum_shortest_width.ensures)
