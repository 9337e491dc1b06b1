-- What the letter demands of columns and blocks: lent memory after a refusal, and every place of a column or a block.
use Rattle.std.specs.Prelude.{◌≡◌, List, ◌⊎◌, ℕ, ◌+◌, ◌*◌, ◌/◌, ◌≤◌, ◌<◌, length, get_or, Ok, Err}
use Rattle.word.specs.declared.reading.Reading.{Reading}
use Rattle.bounds.specs.declared.refusal.ListRefusal.{ListRefusal}
use Rattle.bounds.specs.declared.refusal.Refusal.{Refusal}
use Rattle.bounds.specs.Refusals.{Answer, ListAnswer, IsWord}
use Rattle.word.specs.Takum.{takum, fraction_bits, own_fraction_bits}
use Rattle.word.specs.Reads.{IsReading, Reads}
use Rattle.round.specs.declared.value.Rule.{Rule}
use Rattle.write.specs.Writes.{Moves}
use Rattle.column.specs.declared.moving.MovedColumn.{MovedColumn}
use Rattle.column.specs.Columns.{MovesColumn, Holds}
use Rattle.sheet.specs.declared.block.Block.{Block}
use Rattle.sheet.specs.Layout.{AreBytes, number_at, mark, numbers, A, B}
use Rattle.sheet.specs.Sums.{sum_a}
use Rattle.sheet.specs.Reads.{block_read, ReadsBlock, FillsResults}
use Rattle.sheet.specs.Changes.{ChangedWithin}
use Rattle.promises.specs.Demands.{RefusedAs}

-- ---- demand 1: a refused call writes nothing into lent memory
-- a column that isn't moved, whether it was refused as a whole or at a position
unfoldable pub ARefusedColumnWritesNothing : Type 0
ARefusedColumnWritesNothing = (n n' : ℕ) (rule : Rule) (words before after : List ℕ) (a : ListAnswer MovedColumn) → Holds n n' rule words before a after → ((c : MovedColumn) → a ≡ Ok c → ⊥) → after ≡ before

-- a block that is refused
unfoldable pub ARefusedBlockWritesNothing : Type 0
ARefusedBlockWritesNothing = (block before after : List ℕ) (q : Refusal) → ReadsBlock block (length before) (Err q) → FillsResults block before after → after ≡ before

-- ---- demands 2 and 3 at each place of a column
-- every result is what the move of its word gives, what lies behind them is as it was, and the slice is as long as it was
unfoldable pub EachWordOfAColumnIsMoved : Type 0
EachWordOfAColumnIsMoved = (n n' : ℕ) (rule : Rule) (words before after : List ℕ) (c : MovedColumn) → MovesColumn n n' rule words (length before) (Ok c) → Holds n n' rule words before (Ok c) after
    → (c.moved ≡ length words) × (length after ≡ length before) × ((i : ℕ) → i < length words → Moves n n' rule (get_or words i 0) (Ok (get_or after i 0))) × ((i : ℕ) → length words ≤ i → get_or after i 0 ≡ get_or before i 0)

-- a refusal at a position is the move's of the word there, and no word before it is refused
unfoldable pub TheFirstRefusalIsGiven : Type 0
TheFirstRefusalIsGiven = (n n' : ℕ) (rule : Rule) (words : List ℕ) (room position : ℕ) (q : Refusal) → MovesColumn n n' rule words room (Err (ListRefusal.At position q))
    → (position < length words) × Moves n n' rule (get_or words position 0) (Err q) × ((i : ℕ) (q' : Refusal) → i < position → Moves n n' rule (get_or words i 0) (Err q') → ⊥)

-- a strict column that is moved keeps every value
unfoldable pub AStrictColumnKeepsEveryValue : Type 0
AStrictColumnKeepsEveryValue = (n n' : ℕ) (words before after : List ℕ) (c : MovedColumn) → MovesColumn n n' Rule.Strict words (length before) (Ok c) → Holds n n' Rule.Strict words before (Ok c) after → (i : ℕ) → i < length words → takum n' (get_or after i 0) ≡ takum n (get_or words i 0)

-- ---- demand 2 at each place of a block
-- the j-th result is the number in the block's bytes at its place, is a word of the block's width, and reading it is Definition 2
unfoldable pub EachWordOfABlockIsRead : Type 0
EachWordOfABlockIsRead = (block before after : List ℕ) (w i n j : ℕ) (a : Answer Reading) → AreBytes block → ReadsBlock block (length before) (block_read w i n) → FillsResults block before after → j < n → Reads w (get_or after j 0) a
    → (get_or after j 0 ≡ number_at (w / 8) (8 + w / 8 * j) block) × IsWord w (get_or after j 0)
    × ((r : Reading) × (a ≡ Ok r) × IsReading (takum w (get_or after j 0)) (fraction_bits w (get_or after j 0)) (own_fraction_bits w (get_or after j 0)) r)

-- the results behind the words are as they were, and the slice is as long as it was
unfoldable pub TheRemainderIsKept : Type 0
TheRemainderIsKept = (block before after : List ℕ) (w i n : ℕ) → ReadsBlock block (length before) (block_read w i n) → FillsResults block before after → (length after ≡ length before) × ((j : ℕ) → n ≤ j → get_or after j 0 ≡ get_or before j 0)

-- Two blocks of the same length have the same numbers, A and B, but for number i.
pub record OneNumberDiffers (i : ℕ) (old new : List ℕ) : Type 0 where
  pub one_of_126 : i < 126
  pub size : length new ≡ length old
  pub others : (j : ℕ) → (j ≡ i → ⊥) → get_or (numbers new) j 0 ≡ get_or (numbers old) j 0
  pub differs : get_or (numbers new) i 0 ≡ get_or (numbers old) i 0 → ⊥
  pub same_A : A new ≡ A old
  pub same_B : B new ≡ B old

-- that is the case exactly where only bytes of number i were changed
unfoldable pub AChangeInOneNumberIsAChangeOfItsBytes : Type 0
AChangeInOneNumberIsAChangeOfItsBytes = (i : ℕ) (old new : List ℕ) → AreBytes old → AreBytes new → length old ≡ 512 → (ChangedWithin i old new → OneNumberDiffers i old new) × (OneNumberDiffers i old new → ChangedWithin i old new)

-- Any change confined to one of the 126 numbers of a block with its mark and the right A is noticed: as CHECK, or as MARK, which is tested before it,
-- where byte 0 is what changed.
unfoldable pub AChangeInOneNumberIsNoticed : Type 0
AChangeInOneNumberIsNoticed = (i : ℕ) (old new : List ℕ) (places : ℕ) (a : Answer Block) → AreBytes old → AreBytes new → length old ≡ 512 → mark old ≡ 0x54 → sum_a (numbers old) ≡ A old → ChangedWithin i old new → ReadsBlock new places a
    → ((mark new ≡ 0x54) × RefusedAs (Answer Block) Err 9 a) ⊎ ((mark new ≡ 0x54 → ⊥) × RefusedAs (Answer Block) Err 8 a)
