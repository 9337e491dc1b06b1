-- Two outcomes that the contracts of `read_block` and `write_block` allow are equal: the answer, and what is left in the lent slice. Assumes nothing.
use Rattle.std.specs.Prelude.{Ok, Err}
use Rattle.bounds.specs.declared.refusal.ListRefusal.{ListRefusal}
use Rattle.bounds.specs.Refusals.{ListAnswer}
use Rattle.std.specs.Prelude.{⊤}
use Rattle.std.proofs.Common.{◌≡◌, ℕ, ◌<◌, List, ◌++◌, get_or, drop, sym, refl, ap, ◌∙◌, le_antisymm}
use native.Mathlib.Decide.{dec_lt}
use Rattle.bounds.specs.Refusals.{Answer, stray_test}
use Rattle.bounds.proofs.Powers.{not_more}
use Rattle.bounds.proofs.Verdicts.{decided_one}
use Rattle.sheet.specs.declared.block.Block.{Block}
use Rattle.sheet.specs.Layout.{width, count, block_number, words}
use Rattle.sheet.specs.Reads.{block_read, ReadsBlock, FillsResults}
use Rattle.sheet.specs.Writes.{FitUpTo, IsTried, WritesBlock, FillsBuffer}
use Rattle.sheet.proofs.SameContent.{same_bytes}
use Rattle.sheet.proofs.Tests.{not_both}

-- ---- reading
pub reads_block_one : (block : List ℕ) (places : ℕ) (a b : Answer Block) → ReadsBlock block places a → ReadsBlock block places b → a ≡ b
unfolding ReadsBlock
reads_block_one block places = decided_one Err (λ x. x ≡ block_read (width block) (block_number block) (count block)) (λ a b p q. p ∙ sym q)

pub fills_results_one : (block before a b : List ℕ) → FillsResults block before a → FillsResults block before b → a ≡ b
unfolding FillsResults
fills_results_one block before = decided_one (λ q. before) (λ x. x ≡ words block ++ drop (count block) before) (λ a b p q. p ∙ sym q)

-- ---- writing
tried_one : (n : ℕ) (words : List ℕ) (a b : ListAnswer ⊤) → IsTried n words a → IsTried n words b → a ≡ b
unfolding IsTried FitUpTo
tried_one n words (Ok _) (Ok _) x y = refl
tried_one n words (Ok _) (Err (ListRefusal.At p q)) x y = absurd (not_both (x p y.0) y.2)
tried_one n words (Ok _) (Err (ListRefusal.Whole q)) x y = absurd y
tried_one n words (Err (ListRefusal.Whole q)) b x y = absurd x
tried_one n words (Err (ListRefusal.At p q)) (Ok _) x y = absurd (not_both (y p x.0) x.2)
tried_one n words (Err (ListRefusal.At p q)) (Err (ListRefusal.Whole q')) x y = absurd y
tried_one n words (Err (ListRefusal.At p q)) (Err (ListRefusal.At p' q')) x y = by (dec_lt p p') (dec_lt p' p)
  where
    by : Dec (p < p') → Dec (p' < p) → ◌≡◌ {A = ListAnswer ⊤} (Err (ListRefusal.At p q)) (Err (ListRefusal.At p' q'))
    by (yes l) d = absurd (not_both (y.1 p l) x.2)
    by (no f) (yes l) = absurd (not_both (x.1 p' l) y.2)
    by (no f) (no g) =
        let same : p ≡ p' = le_antisymm (not_more g) (not_more f) in
        let both : Err q ≡ Err q' = sym x.2 ∙ ap (λ (i : ℕ). stray_test n (get_or words i 0)) same ∙ y.2 in
        cc

pub writes_block_one : (n : ℕ) (words buffer : List ℕ) (a b : ListAnswer ⊤) → WritesBlock n words buffer a → WritesBlock n words buffer b → a ≡ b
unfolding WritesBlock
writes_block_one n words buffer = decided_one (λ q. Err (ListRefusal.Whole q)) (IsTried n words) (tried_one n words)

pub fills_buffer_one : (n number : ℕ) (words before : List ℕ) (answer : ListAnswer ⊤) (a b : List ℕ) → FillsBuffer n number words before answer a → FillsBuffer n number words before answer b → a ≡ b
unfolding FillsBuffer
fills_buffer_one n number words before (Ok _) a b x y = same_bytes n number words a b x y
fills_buffer_one n number _ before (Err (ListRefusal.Whole q)) a b x y = x ∙ sym y
fills_buffer_one n number _ before (Err (ListRefusal.At position q)) a b x y = x ∙ sym y
