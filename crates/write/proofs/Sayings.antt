-- A move is said to be exact exactly where the word that is given means what the word means. Assumes nothing.
use Rattle.std.specs.Prelude.{Ok}
use mathlib.Core.Path.{◌≡◌, refl, sym, ap, ap₂, ◌∙◌, subst}
use mathlib.Core.Bool.{false, true≢false}
use Prim.Native.Nat.{ℕ, suc, ◌≤◌}
use lib.IntN.{ℤ, pos, negsuc, neg_ℤ, nat_abs, ◌*ℤ◌}
use native.Mathlib.Nat.{mul-one}
use Rattle.bounds.specs.declared.saying.Saying.{Saying}
use Rattle.bounds.specs.declared.saying.Saying.TheVariants.{Exact}
use Rattle.bounds.specs.Refusals.{through, refused}
use Rattle.bounds.specs.Sayings.{says_exact}
use Rattle.bounds.specs.Widths.{nar_word}
use Rattle.bounds.proofs.Answers as Answers
use Rattle.bounds.proofs.Answers.{GivesAWord}
use Rattle.bounds.proofs.Verdicts.{width_through, move_through}
use Rattle.word.specs.Orders.{order}
use Rattle.word.specs.Reads.{signed_size}
use Rattle.word.specs.Takum.{Takum, real, NaR, takum}
use Rattle.word.proofs.Values.{order_zero, order_same}
use Rattle.word.proofs.Words.{takum_NaR}
use Rattle.nearest.specs.Sayings.{Says}
use Rattle.round.specs.declared.value.Rule.{Rule}
use Rattle.write.specs.Writes.{is_negative, IsMoved, Moves}
use Rattle.write.specs.Sayings.{SaysMoved}
use Rattle.write.proofs.Moves.{rejoined}
use Rattle.write.proofs.OneOutcome.{moves_says_one}

-- one times a number with a sign
once : (z : ℤ) → z *ℤ pos 1 ≡ z
once (pos i) = ap pos (mul-one i)
once (negsuc i) = ap (λ (k : ℕ). neg_ℤ (pos k)) (mul-one (suc i))

-- what is exact means the same
pub exact_means : (n n' : ℕ) (rule : Rule) (w v : ℕ) → Moves n n' rule w (Ok v) → SaysMoved n' (takum n w) v Exact → takum n' v ≡ takum n w
unfolding Moves IsMoved SaysMoved Says GivesAWord Answers.word_of nar_word
exact_means n n' rule w v (refused h x) y = absurd (subst GivesAWord x tt)
exact_means n n' rule w v (through h x) y = let t = width_through n' (move_through n n' w h).1 in
    by (takum n w) t.0 t.1 x y
  where
    by : (t : Takum) → 2 ≤ n' → n' ≤ 64 → IsMoved n' rule t (Ok v) → SaysMoved n' t v Exact → takum n' v ≡ t
    by (real z) lo hi x y = y.means ∙ ap real (sym (once y.x) ∙ order_zero (y.x *ℤ pos 1) (signed_size (is_negative z) (nat_abs z)) y.is ∙ rejoined z)
    by NaR lo hi x y = takum_NaR n' v lo hi (ap Answers.word_of x)

-- and what means the same is exact
pub means_exact : (n n' w v : ℕ) → takum n' v ≡ takum n w → SaysMoved n' (takum n w) v Exact
unfolding SaysMoved Says
means_exact n n' w v q = by (takum n w) q
  where
    by : (t : Takum) → takum n' v ≡ t → SaysMoved n' t v Exact
    by (real z) q = record { x = z; means = q; is = ap₂ order (once z) (rejoined z) ∙ order_same z }
    by NaR q = refl

-- so of a saying that isn't exact the word means something else
pub not_exact : (n n' : ℕ) (rule : Rule) (w v : ℕ) (s : Saying) → Moves n n' rule w (Ok v) → SaysMoved n' (takum n w) v s → says_exact s ≡ false → takum n' v ≡ takum n w → ⊥
not_exact n n' rule w v s x y q same = true≢false (sym (ap says_exact (moves_says_one n n' rule w v s Exact x y (means_exact n n' w v same))) ∙ q)
