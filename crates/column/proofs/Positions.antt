-- What the contract of a column says at each position, where the column was moved and where it was refused. Assumes nothing.
use Rattle.std.specs.Prelude.{Ok, Err}
use mathlib.Core.Path.{◌≡◌, refl, ap, subst}
use mathlib.Core.List.{List, []}
use Prim.Native.Nat.{ℕ, ◌^◌, ◌≤◌, ◌<◌, zero-le}
use native.Mathlib.Omega.{arith}
use lib.ListN.{length, get_or}
use Rattle.bounds.specs.declared.refusal.ListRefusal.{ListRefusal}
use Rattle.bounds.specs.declared.refusal.Refusal.{Refusal}
use Rattle.bounds.specs.Refusals.{Answer, ListAnswer, passed, width_test, ◌then◌, through, refused, room_test}
use Rattle.bounds.proofs.Verdicts.{stray_fits, then_through, answered}
use Rattle.round.specs.declared.value.Rule.{Rule}
use Rattle.write.specs.Writes.{Moves}
use Rattle.write.proofs.OneOutcome.{moves_one}
use Rattle.column.specs.Columns.{MovableUpTo, FirstRefusal, IsTried, how_many, MovesColumn, Holds}
use Rattle.column.specs.declared.moving.MovedColumn.{MovedColumn}
use Rattle.bounds.proofs.Rooms.{room_fits, room_through}
use Rattle.column.proofs.Trials.{rounded_movable, not_refused}

-- ---- an answer that is no refusal of the whole column has passed the tests
pub record Passed (n n' : ℕ) (rule : Rule) (words : List ℕ) (room : ℕ) (a : ListAnswer MovedColumn) : Type 0 where
  pub source : width_test n ≡ passed
  pub target : width_test n' ≡ passed
  pub fits : length words ≤ room
  pub is : IsTried n n' rule words a

-- a column's answer that speaks of its words
SpeaksOfWords : ListAnswer MovedColumn → Type 0
SpeaksOfWords (Err (ListRefusal.Whole q)) = ⊥
SpeaksOfWords (Ok m) = Unit {0}
SpeaksOfWords (Err (ListRefusal.At position q)) = Unit {0}

has_passed : (n n' : ℕ) (rule : Rule) (words : List ℕ) (room : ℕ) (a : ListAnswer MovedColumn) → SpeaksOfWords a → MovesColumn n n' rule words room a → Passed n n' rule words room a
unfolding MovesColumn SpeaksOfWords
has_passed n n' rule words room a s (through h x) = record { source = w.0; target = w.1; fits = room_through (length words) room t.1; is = x }
  where
    t : (width_test n then width_test n' ≡ passed) × (room_test (length words) room ≡ passed)
    t = then_through (width_test n then width_test n') (room_test (length words) room) h

    w : (width_test n ≡ passed) × (width_test n' ≡ passed)
    w = then_through (width_test n) (width_test n') t.0
has_passed n n' rule words room a s (refused h q) = absurd (subst SpeaksOfWords q s)

-- the tests let these widths and this room through
pub passes : (n n' count room : ℕ) → width_test n ≡ passed → width_test n' ≡ passed → count ≤ room → width_test n then width_test n' then room_test count room ≡ passed
passes n n' count room h h' fits = rw (h, h') (room_fits count room fits)

-- ---- an empty column moves 0 words
pub empty_column : (n n' : ℕ) (rule : Rule) (room : ℕ) (a : ListAnswer MovedColumn) → width_test n ≡ passed → width_test n' ≡ passed → MovesColumn n n' rule [] room a → how_many a ≡ Ok 0
unfolding MovesColumn IsTried
empty_column n n' rule room a h h' x = by a (answered (passes n n' 0 room h h' zero-le) x)
  where
    by : (a : ListAnswer MovedColumn) → IsTried n n' rule [] a → how_many a ≡ Ok 0
    by (Ok m) y = ap Ok y.0
    by (Err (ListRefusal.Whole q)) y = absurd y
    by (Err (ListRefusal.At position q)) y = absurd (omega (arith, y.inside))

-- ---- rounded, a column of words of the width is not refused
pub rounded_column_moves : (n n' : ℕ) (words : List ℕ) (room : ℕ) (a : ListAnswer MovedColumn) → width_test n ≡ passed → width_test n' ≡ passed → length words ≤ room → ((i : ℕ) → i < length words → get_or words i 0 < 2 ^ n) → MovesColumn n n' Rule.Rounded words room a → how_many a ≡ Ok (length words)
unfolding MovesColumn IsTried
rounded_column_moves n n' words room a h h' fits inside x = by a (answered (passes n n' (length words) room h h' fits) x)
  where
    by : (a : ListAnswer MovedColumn) → IsTried n n' Rule.Rounded words a → how_many a ≡ Ok (length words)
    by (Ok m) y = ap Ok y.0
    by (Err (ListRefusal.Whole q)) y = absurd y
    by (Err (ListRefusal.At position q)) y =
        let movable = rounded_movable n n' (get_or words position 0) h' (rw h (stray_fits n (get_or words position 0) (inside position y.inside))) in
        absurd (not_refused n n' (get_or words position 0) Rule.Rounded (Err q) y.is q movable refl)

-- ---- a column that was moved
module _ (n n' : ℕ) (rule : Rule) (words before : List ℕ) (m : MovedColumn) (after : List ℕ) (answer : MovesColumn n n' rule words (length before) (Ok m)) (held : Holds n n' rule words before (Ok m) after) where
  pub moved_passed : Passed n n' rule words (length before) (Ok m)
  unfolding SpeaksOfWords
  moved_passed = has_passed n n' rule words (length before) (Ok m) tt answer

  pub every_word_counted : m.moved ≡ length words
  unfolding IsTried
  every_word_counted = moved_passed.is.0

  pub word_at : (i : ℕ) → i < length words → Moves n n' rule (get_or words i 0) (Ok (get_or after i 0))
  unfolding Holds
  word_at i h = held.moved i (omega (arith, h, every_word_counted))

  -- demand 2: the result at each position is what `move_word` answers for the word there
  pub result_is_the_move : (i : ℕ) (r : Answer ℕ) → i < length words → Moves n n' rule (get_or words i 0) r → r ≡ Ok (get_or after i 0)
  result_is_the_move i r h x = moves_one n n' rule (get_or words i 0) r (Ok (get_or after i 0)) x (word_at i h)

  pub others_unchanged : (i : ℕ) → length words ≤ i → get_or after i 0 ≡ get_or before i 0
  unfolding Holds
  others_unchanged i h = held.others i (omega (arith, h, every_word_counted))

-- ---- a column that was refused at a position
module _ (n n' : ℕ) (rule : Rule) (words : List ℕ) (room position : ℕ) (q : Refusal) (answer : MovesColumn n n' rule words room (Err (ListRefusal.At position q))) where
  pub first : FirstRefusal n n' rule words position q
  unfolding SpeaksOfWords IsTried
  first = (has_passed n n' rule words room (Err (ListRefusal.At position q)) tt answer).is

  -- `move_word` refuses the word there so, and no word before it
  pub refusal_is_the_move : (r : Answer ℕ) → Moves n n' rule (get_or words position 0) r → r ≡ Err q
  refusal_is_the_move r x = moves_one n n' rule (get_or words position 0) r (Err q) x first.is

  pub none_refused_before : (i : ℕ) (q' : Refusal) → i < position → Moves n n' rule (get_or words i 0) (Err q') → ⊥
  unfolding MovableUpTo
  none_refused_before i q' h x = not_refused n n' (get_or words i 0) rule (Err q') x q' (first.lowest i h) refl
