-- What the lister prints for a run of blocks (paper 01, "The lister").
use Rattle.std.specs.Prelude.{ℕ, suc, ◌+◌, ◌/◌, ◌<◌, List, [], ◌++◌, length, take, drop}
use Rattle.listing.specs.Listing.{ListsBlock}

-- How many blocks so many bytes are, a short last piece being one.
abbrev pub blocks : ℕ → ℕ
blocks n = (n + 511) / 512

-- Where there are no bytes, nothing; else what is printed for the first 512 of them, or for all if they are fewer, as a block at place i, and then
-- for the others, from place i + 1 on.
pub data ListsBlocks : List ℕ → ℕ → List ℕ → Type 0 where
  none : {i : ℕ} → ListsBlocks [] i []
  some : {bytes u : List ℕ} {i : ℕ} (t : List ℕ) → 0 < length bytes → ListsBlock (take 512 bytes) i t → ListsBlocks (drop 512 bytes) (suc i) u → ListsBlocks bytes i (t ++ u)
