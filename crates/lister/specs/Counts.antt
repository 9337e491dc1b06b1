-- How many blocks of a run there are of each refusal number.
use Rattle.std.specs.Prelude.{ℕ, ◌+◌, ◌%◌, ◌^◌, ◌<◌, List, [], length, take, drop, slice_index, slice_set, Option, Some, None}
use Rattle.bounds.specs.declared.refusal.Refusal.{Refusal}
use Rattle.bounds.specs.Refusals.{number_of}
use Rattle.sheet.specs.Reads.{block_test}
use Rattle.listing.specs.Listing.{most, refusal_number}

-- The number of a refusal, and 0 where there is none.
unfoldable pub number_or_0 : Option Refusal → ℕ
number_or_0 None = 0
number_or_0 (Some q) = number_of q

-- One more of number n, in counts that stand by number and have 64 bits.
unfoldable pub with_one_more : ℕ → List ℕ → List ℕ
with_one_more n counts = slice_set counts n ((slice_index counts n + 1) % 2 ^ 64)

-- The counts before a run and after it: for each of its blocks one more of the block's refusal number, which is 0 for a block that is read.
pub data CountsBlocks : List ℕ → List ℕ → List ℕ → Type 0 where
  none : {counts : List ℕ} → CountsBlocks [] counts counts
  some : {bytes before after : List ℕ} → 0 < length bytes → CountsBlocks (drop 512 bytes) (with_one_more (refusal_number (block_test (take 512 bytes) most)) before) after → CountsBlocks bytes before after
