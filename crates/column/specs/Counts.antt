-- How many words of a column were moved exactly (paper 02, Wish 4), from the values alone and not from what was said of each word.
use Rattle.std.specs.Prelude.{◌≡◌, List, ℕ, suc, get_or, ⊤, Ok, Err}
use Rattle.bounds.specs.Refusals.{ListAnswer}
use Rattle.word.specs.Takum.{takum}
use Rattle.round.specs.declared.value.Rule.{Rule}
use Rattle.column.specs.declared.moving.MovedColumn.{MovedColumn}
use Rattle.column.specs.Columns.{Holds}

-- of the first `count` positions, `many` have the property
pub data Counts (Has : ℕ → Type 0) : ℕ → ℕ → Type 0 where
  none : Counts Has 0 0
  one_more : {count many : ℕ} → Counts Has count many → Has count → Counts Has (suc count) (suc many)
  no_more : {count many : ℕ} → Counts Has count many → (Has count → ⊥) → Counts Has (suc count) many

-- at this position the result means what the word means
unfoldable pub KeepsTheMeaning : ℕ → ℕ → List ℕ → List ℕ → ℕ → Type 0
KeepsTheMeaning n n' words after i = takum n' (get_or after i 0) ≡ takum n (get_or words i 0)

-- at how many positions of a moved column it does; a refused one has none that was moved
unfoldable pub CountsExact : ℕ → ℕ → List ℕ → List ℕ → ListAnswer MovedColumn → Type 0
CountsExact n n' words after (Ok a) = Counts (KeepsTheMeaning n n' words after) a.moved a.exact
CountsExact n n' words after (Err e) = ⊤

-- ---- what the result slice holds after the call, and how many of its words are exact
unfoldable pub HoldsAndCounts : ℕ → ℕ → Rule → List ℕ → List ℕ → ListAnswer MovedColumn → List ℕ → Type 0
HoldsAndCounts n n' rule words before a after = Holds n n' rule words before a after × CountsExact n n' words after a
