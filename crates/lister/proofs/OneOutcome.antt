-- One listing: the definitions allow one text for bytes at a place, and one outcome of counting. Assumes nothing.
use Rattle.std.proofs.Common.{◌≡◌, ℕ, List, ◌++◌, refl, ap₂, arith}
use Rattle.listing.proofs.OneOutcome.{block_one}
use Rattle.lister.specs.Counts as Counts
use Rattle.lister.specs.Counts.{CountsBlocks}
use Rattle.lister.specs.Runs.{ListsBlocks, none, some}

-- a run of blocks has one listing
pub one_listing : {bytes : List ℕ} {i : ℕ} {t u : List ℕ} → ListsBlocks bytes i t → ListsBlocks bytes i u → t ≡ u
one_listing none none = refl
one_listing none (some u h y s) = absurd (omega arith)
one_listing (some t h x r) none = absurd (omega arith)
one_listing (some t h x r) (some u k y s) = ap₂ (λ (y z : List ℕ). y ++ z) (block_one _ _ t u x y) (one_listing r s)

-- a run has one outcome of counting
pub one_count : {bytes before a b : List ℕ} → CountsBlocks bytes before a → CountsBlocks bytes before b → a ≡ b
one_count Counts.none Counts.none = refl
one_count Counts.none (Counts.some h y) = absurd (omega arith)
one_count (Counts.some h x) Counts.none = absurd (omega arith)
one_count (Counts.some h x) (Counts.some k y) = one_count x y
