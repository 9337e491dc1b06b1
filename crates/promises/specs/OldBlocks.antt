-- What Wish 10 of paper 02 promises of blocks: none of width 8 is written any more, and old ones are read as before.
use Rattle.std.specs.Prelude.{◌≡◌, List, [], ◌∷◌, ℕ, ◌+◌, ◌≤◌, ◌<◌, ⊤, length, get_or, Err}
use Rattle.bounds.specs.declared.refusal.ListRefusal.{ListRefusal}
use Rattle.bounds.specs.Refusals.{Answer, ListAnswer}
use Rattle.sheet.specs.declared.block.Block.{Block}
use Rattle.sheet.specs.Layout.{AreBytes, mark, width, count, block_number, words, numbers, A, B}
use Rattle.sheet.specs.Sums.{sum_a, sum_b}
use Rattle.sheet.specs.Reads.{block_read, ReadsBlock, FillsResults}
use Rattle.sheet.specs.Writes.{WritesBlock, FillsBuffer}
use Rattle.promises.specs.Demands.{RefusedAs}

-- ---- "The writer refuses width 8 in blocks":
-- with 13, whatever number, words and buffer it is given, and the buffer stays as it came
unfoldable pub NoBlockOfWidth8IsWritten : Type 0
NoBlockOfWidth8IsWritten = (number : ℕ) (words before after : List ℕ) (a : ListAnswer ⊤) → WritesBlock 8 words before a → FillsBuffer 8 number words before a after
    → RefusedAs (ListAnswer ⊤) (λ q. Err (ListRefusal.Whole q)) 13 a × (after ≡ before)

-- and no other width so
unfoldable pub OnlyWidth8IsRetired : Type 0
OnlyWidth8IsRetired = (n : ℕ) (words before : List ℕ) (a : ListAnswer ⊤) → WritesBlock n words before a → RefusedAs (ListAnswer ⊤) (λ q. Err (ListRefusal.Whole q)) 13 a → n ≡ 8

-- ---- "Old 8-bit blocks are still read":
-- a block of width 8 as it was sent once, with the right sums, no more words than there is room for, and zeros behind them,
pub record IsOldBlock (block : List ℕ) : Type 0 where
  pub sized : length block ≡ 512
  pub marked : mark block ≡ 0x54
  pub sum_a_is : sum_a (numbers block) ≡ A block
  pub sum_b_is : sum_b (numbers block) ≡ B block
  pub wide : width block ≡ 8
  pub inside : count block ≤ 496
  pub rest : (i : ℕ) → 8 + count block ≤ i → i < 504 → get_or block i 0 ≡ 0

-- is read where the results have room for its words: each word is the byte at its place, and the results behind them are as they were
unfoldable pub OldBlocksAreStillRead : Type 0
OldBlocksAreStillRead = (block before after : List ℕ) (a : Answer Block) → IsOldBlock block → count block ≤ length before → ReadsBlock block (length before) a → FillsResults block before after
    → (a ≡ block_read 8 (block_number block) (count block)) × ((j : ℕ) → j < count block → get_or after j 0 ≡ get_or block (8 + j) 0) × ((j : ℕ) → count block ≤ j → get_or after j 0 ≡ get_or before j 0)

-- there are such blocks: one has number 1 and the words of paper 01's case in 8 bits, 512 and NaR
unfoldable pub ThereIsAnOldBlock : Type 0
ThereIsAnOldBlock = (block : List ℕ) × AreBytes block × IsOldBlock block × (block_number block ≡ 1) × (words block ≡ 0x5a ∷ 0x80 ∷ [])
