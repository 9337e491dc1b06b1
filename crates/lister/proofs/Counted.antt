-- The counts of a run's blocks, one after another: those that are counted and those still to come. Assumes nothing.
use Rattle.std.proofs.Common.{◌≡◌, ℕ, ◌<◌, List, [], length, take, drop, Ok, Err, refl, sym, subst}
use Rattle.bounds.specs.Refusals.{Verdict}
use Rattle.sheet.specs.Reads.{block_test}
use Rattle.listing.specs.Listing.{most, refusal_of, refusal_number}
use Rattle.lister.specs.Counts.{number_or_0, with_one_more, CountsBlocks, none, some}

module _ (bytes before : List ℕ) where
  -- the counts are those of the blocks before the rest: from them the rest leads to the counts of all
  abbrev pub SoFar : List ℕ → List ℕ → Type 0
  SoFar rest counts = (after : List ℕ) → CountsBlocks rest counts after → CountsBlocks bytes before after

  pub none_yet : SoFar bytes before
  none_yet after x = x

  pub one_more : (rest counts next : List ℕ) → 0 < length rest → SoFar rest counts → next ≡ with_one_more (refusal_number (block_test (take 512 rest) most)) counts → SoFar (drop 512 rest) next
  one_more rest counts next h f e after y = f after (some h (subst (λ (cs : List ℕ). CountsBlocks (drop 512 rest) cs after) e y))

  pub all_of_them : (rest counts : List ℕ) → rest ≡ [] → SoFar rest counts → CountsBlocks bytes before counts
  all_of_them rest counts h f = f counts (subst (λ (bs : List ℕ). CountsBlocks bs counts counts) (sym h) none)

-- the number of a block's refusal, by what is answered of it
pub number_of_verdict : (v : Verdict) → number_or_0 (refusal_of v) ≡ refusal_number v
unfolding number_or_0 refusal_of refusal_number
number_of_verdict (Ok _) = refl
number_of_verdict (Err q) = refl
