-- What stands in the results after a block was read: each word at its place, each a word of the block's width, and behind them what stood there.
-- Assumes nothing.
use Rattle.bounds.specs.Refusals.{passed}
use Rattle.std.proofs.Common.{◌≡◌, ℕ, ◌+◌, ◌-◌, ◌*◌, ◌/◌, ◌^◌, ◌<◌, ◌≤◌, List, ◌++◌, length, get_or, drop, sym, ap, ◌∙◌, subst, subst₂, add-sub_of_le, arith, get_or-drop, get_or-append-add}
use lib.ListN.{get_or-append}
use Rattle.bounds.specs.Refusals.{IsWord}
use Rattle.bounds.proofs.Verdicts.{answered}
use Rattle.sheet.specs.Layout.{AreBytes, number_at, width, count, block_number, word_bytes, words}
use Rattle.sheet.specs.Reads.{block_test, block_read, ReadsBlock, FillsResults}
use Rattle.sheet.proofs.LittleEndian.{number_at_below}
use Rattle.sheet.proofs.Packing.{packed_length, words_at}
use Rattle.sheet.proofs.Passing.{passes, was_read}
use Rattle.sheet.proofs.Sizes.{whole_bytes, width_of_words}
use Rattle.sheet.proofs.Tests.{OneOfFour}

pub words_length : (block : List ℕ) → length (words block) ≡ count block
unfolding words
words_length block = packed_length (word_bytes block) (count block) (drop 8 block)

-- a block was read
module _ (block before after : List ℕ) (w i n : ℕ) (r : ReadsBlock block (length before) (block_read w i n)) (f : FillsResults block before after) where
  read : (block_test block (length before) ≡ passed) × (w ≡ width block) × (n ≡ count block) × (i ≡ block_number block)
  read = was_read block (length before) w i n r

  pub holds : after ≡ words block ++ drop n before
  unfolding FillsResults
  holds = answered read.0 f ∙ ap (λ (k : ℕ). words block ++ drop k before) (sym read.2)

  how_many : length (words block) ≡ n
  how_many = words_length block ∙ sym read.2

  -- the j-th result is the word at its place
  pub result_at : (j : ℕ) → j < n → get_or after j 0 ≡ number_at (w / 8) (8 + w / 8 * j) block
  unfolding words word_bytes
  result_at j h =
      ap (λ (l : List ℕ). get_or l j 0) holds
      ∙ get_or-append (words block) (drop n before) 0 j (subst (λ (k : ℕ). j < k) (sym how_many) h)
      ∙ words_at (word_bytes block) (count block) block j (subst (λ (k : ℕ). j < k) read.2 h)
      ∙ ap (λ (k : ℕ). number_at (k / 8) (8 + k / 8 * j) block) (sym read.1)

  -- the remainder is kept
  pub result_kept : (j : ℕ) → n ≤ j → get_or after j 0 ≡ get_or before j 0
  result_kept j h =
      ap (λ (l : List ℕ). get_or l j 0) holds
      ∙ ap (λ (k : ℕ). get_or (words block ++ drop n before) k 0) (sym split)
      ∙ get_or-append-add (words block) (drop n before) (j - n) 0
      ∙ get_or-drop n before (j - n) 0
      ∙ ap (λ (k : ℕ). get_or before k 0) (add-sub_of_le h)
    where
      split : length (words block) + (j - n) ≡ j
      split = omega (arith, how_many, h)

  -- a word of the width: reading it is never refused
  pub result_is_word : AreBytes block → (j : ℕ) → j < n → IsWord w (get_or after j 0)
  result_is_word bytes j h = record { least = range.0; most = range.1; fits = subst₂ (λ (x k : ℕ). x < 2 ^ k) (sym (result_at j h)) (whole_bytes w four) (number_at_below (w / 8) (8 + w / 8 * j) block bytes) }
    where
      four : OneOfFour w
      four = subst OneOfFour (sym read.1) (passes block (length before) read.0).wide

      range : (2 ≤ w) × (w ≤ 64)
      range = width_of_words w four
