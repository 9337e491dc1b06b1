-- What moving a column means (paper 01, "Columns"): the answer, and what the result slice holds afterwards.
use Rattle.std.specs.Prelude.{◌≡◌, List, ℕ, ◌≤◌, ◌<◌, length, get_or, Ok, Err}
use Rattle.bounds.specs.declared.refusal.ListRefusal.{ListRefusal}
use Rattle.bounds.specs.declared.refusal.Refusal.{Refusal}
use Rattle.bounds.specs.Refusals.{ListAnswer, width_test, room_test, ◌then◌, Decided}
use Rattle.round.specs.declared.value.Rule.{Rule}
use Rattle.write.specs.Writes.{Moves}
use Rattle.column.specs.declared.moving.MovedColumn.{MovedColumn}

-- the word is moved to some word
unfoldable pub Movable : ℕ → ℕ → Rule → ℕ → Type 0
Movable n n' rule w = (w' : ℕ) × Moves n n' rule w (Ok w')

-- every word of the column before the position is moved to some word
unfoldable pub MovableUpTo : ℕ → ℕ → Rule → List ℕ → ℕ → Type 0
MovableUpTo n n' rule words position = (i : ℕ) → i < position → Movable n n' rule (get_or words i 0)

-- the lowest position that has a refusal, and the refusal there
pub record FirstRefusal (n n' : ℕ) (rule : Rule) (words : List ℕ) (position : ℕ) (q : Refusal) : Type 0 where
  pub inside : position < length words
  pub lowest : MovableUpTo n n' rule words position
  pub is : Moves n n' rule (get_or words position 0) (Err q)

-- what trying the words in order gives: their number where every word is moved, else the first refusal
unfoldable pub IsTried : ℕ → ℕ → Rule → List ℕ → ListAnswer MovedColumn → Type 0
IsTried n n' rule words (Ok a) = (a.moved ≡ length words) × MovableUpTo n n' rule words a.moved
IsTried n n' rule words (Err (ListRefusal.At position q)) = FirstRefusal n n' rule words position q
IsTried n n' rule words (Err (ListRefusal.Whole q)) = ⊥

-- the first results are the moved words in order, the others are unchanged
pub record AreMoved (n n' : ℕ) (rule : Rule) (words : List ℕ) (count : ℕ) (before after : List ℕ) : Type 0 where
  pub room : length after ≡ length before
  pub moved : (i : ℕ) → i < count → Moves n n' rule (get_or words i 0) (Ok (get_or after i 0))
  pub others : (i : ℕ) → count ≤ i → get_or after i 0 ≡ get_or before i 0

-- the answer without its count of exact words: how many words were moved, or the refusal
abbrev pub how_many : ListAnswer MovedColumn → ListAnswer ℕ
how_many (Ok a) = Ok a.moved
how_many (Err e) = Err e

-- ---- what the call answers: WIDTH of the source, then of the target, then ROOM, then the lowest position's refusal
unfoldable pub MovesColumn : ℕ → ℕ → Rule → List ℕ → ℕ → ListAnswer MovedColumn → Type 0
MovesColumn n n' rule words room a = Decided (width_test n then width_test n' then room_test (length words) room) (λ q. a ≡ Err (ListRefusal.Whole q)) (IsTried n n' rule words a)

-- ---- and what the result slice holds afterwards: after a refusal, what it held before
unfoldable pub Holds : ℕ → ℕ → Rule → List ℕ → List ℕ → ListAnswer MovedColumn → List ℕ → Type 0
Holds n n' rule words before (Ok a) after = AreMoved n n' rule words a.moved before after
Holds n n' rule words before (Err (ListRefusal.Whole q)) after = after ≡ before
Holds n n' rule words before (Err (ListRefusal.At position q)) after = after ≡ before
