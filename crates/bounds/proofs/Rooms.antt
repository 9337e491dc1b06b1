-- When the test of the room refuses. Assumes nothing.
use mathlib.Core.Path.{◌≡◌}
use Prim.Native.Nat.{ℕ, ◌≤◌, ◌<◌}
use lib.Dec.{leb}
use borrow.Author.Tests.{le-leb, lt-leb, leb-true}
use Rattle.std.specs.Prelude.{Err}
use Rattle.bounds.specs.declared.refusal.Refusal.{Refusal}
use Rattle.bounds.proofs.Verdicts.{open_when}
use Rattle.bounds.specs.Refusals.{passed, room_test}

pub room_fits : (count room : ℕ) → count ≤ room → room_test count room ≡ passed
unfolding room_test
room_fits count room h = rw (le-leb count room h)

pub room_short : (count room : ℕ) → room < count → room_test count room ≡ Err Refusal.Room
unfolding room_test
room_short count room h = rw (lt-leb count room h)

pub room_through : (count room : ℕ) → room_test count room ≡ passed → count ≤ room
unfolding room_test
room_through count room h = leb-true count room (open_when (leb count room) Refusal.Room h)
