-- What Wish 10 of paper 02 promises of the lister: the lines of an old block end in ` old`, and no other line does.
use Rattle.bounds.specs.Refusals.{passed}
use Rattle.std.specs.Prelude.{◌≡◌, List, [], ◌∷◌, ◌++◌, ℕ, suc, ◌<◌, length, get_or, take, Ok}
use Rattle.sheet.specs.Layout.{width, count}
use Rattle.sheet.specs.Reads.{block_test}
use Rattle.listing.specs.declared.blocks.Listed.{Listed}
use Rattle.listing.specs.Listing.{most, ListsInto}
use Rattle.listing.specs.Text.{newline, old}

-- no byte of a line ends it
unfoldable pub IsUnbroken : List ℕ → Type 0
IsUnbroken l = (i : ℕ) → i < length l → get_or l i 0 ≡ newline → ⊥

-- a text of so many lines, of each of which P is so
pub data EachLine (P : List ℕ → Type 0) : ℕ → List ℕ → Type 0 where
  none : EachLine P 0 []
  more : {k : ℕ} {l u : List ℕ} → IsUnbroken l → P l → EachLine P k u → EachLine P (suc k) (l ++ (newline ∷ u))

unfoldable pub EndsInOld : List ℕ → Type 0
EndsInOld l = (f : List ℕ) × (l ≡ f ++ old)

-- ---- "Old 8-bit blocks are still read, and the lister puts ` old` at the end of their lines": a line for each word
unfoldable pub TheLinesOfAnOldBlockEndInOld : Type 0
TheLinesOfAnOldBlockEndInOld = (block : List ℕ) (i : ℕ) (before after : List ℕ) (l : Listed) → ListsInto block i before after (Ok l) → block_test block most ≡ passed → width block ≡ 8
    → EachLine EndsInOld (count block) (take l.length after)

-- a block that is refused, or of another width, has no such line
unfoldable pub NoOtherLineEndsInOld : Type 0
NoOtherLineEndsInOld = (block : List ℕ) (i : ℕ) (before after : List ℕ) (l : Listed) → ListsInto block i before after (Ok l) → (block_test block most ≡ passed → width block ≡ 8 → ⊥)
    → (k : ℕ) × EachLine (λ l. EndsInOld l → ⊥) k (take l.length after)
