-- `test_room` meets its contract. Assumes nothing.
use mathlib.Core.Path.{sym}
use borrow.Author.Rules.{rules}
use Rattle.bounds.proofs.Rooms.{room_fits, room_short}
use Rattle.bounds.proofs.room.test_room.Goals as goal

pub returns-then-count-places : goal.returns-then-count-places
returns-then-count-places c = sym (room_fits _ _ (search rules))

pub returns : goal.returns
returns c = sym (room_short _ _ (search rules))
