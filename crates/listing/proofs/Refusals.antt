-- What stands for a refusal, and that a word of a block is refused only as NAR or OVER. Assumes nothing.
use Rattle.std.specs.Prelude.{ℤ, Ok, Err}
use Rattle.bounds.specs.Refusals.{Answer}
use mathlib.Core.Path.{◌≡◌, refl, ap, subst}
use mathlib.Core.Logic.{◌⊎◌, inl, inr}
use Prim.Native.Nat.{ℕ}
use Rattle.bounds.specs.Refusals.{IsWord}
use Rattle.word.specs.Takum.{Takum, real, NaR, takum}
use Rattle.bounds.specs.declared.refusal.Refusal.{Refusal}
use Rattle.whole.specs.declared.taking.Taking.{Taking}
use Rattle.whole.specs.Wholes.{IsTakenWhole, TakesWhole}
use Rattle.whole.proofs.Refused.{refused_only_for, meaning_taken, NaR_is_refused}
use Rattle.listing.specs.Text.{nar, over, refusal_text}

-- the two rules told apart: by nearest a number is rounded, strictly it is not
Rounds : Taking → Type 0
Rounds Taking.Nearest = Unit {0}
Rounds Taking.Strict = ⊥

-- ---- what stands for a refusal
pub is_over : (q : Refusal) → q ≡ Refusal.Over → refusal_text q ≡ over
unfolding refusal_text
is_over q e = rw e refl

pub isn't_over : (q : Refusal) → (q ≡ Refusal.Over → ⊥) → refusal_text q ≡ nar
unfolding refusal_text
isn't_over Refusal.Width f = refl
isn't_over Refusal.Stray f = refl
isn't_over Refusal.Nar f = refl
isn't_over Refusal.Inexact f = refl
isn't_over Refusal.Over f = absurd (f refl)
isn't_over Refusal.Room f = refl
isn't_over Refusal.Size f = refl
isn't_over Refusal.Mark f = refl
isn't_over Refusal.Check f = refl
isn't_over Refusal.Count f = refl
isn't_over Refusal.Fill f = refl
isn't_over Refusal.Retired f = refl

-- ---- a word is refused only as NAR, or as OVER
pub refused_only_nar_or_over : (n w : ℕ) (q : Refusal) → IsWord n w → TakesWhole n Taking.Nearest w (Err q) → (q ≡ Refusal.Nar) ⊎ (q ≡ Refusal.Over)
unfolding IsTakenWhole Rounds
refused_only_nar_or_over n w q i x = by (takum n w) refl
  where
    refusal_of : Answer ℤ → Refusal
    refusal_of (Ok x) = Refusal.Over
    refusal_of (Err q) = q

    by : (t : Takum) → takum n w ≡ t → (q ≡ Refusal.Nar) ⊎ (q ≡ Refusal.Over)
    by NaR e = inl (ap refusal_of (NaR_is_refused n Taking.Nearest w (Err q) i x e))
    by (real z) e = let t = meaning_taken n Taking.Nearest w (Err q) i x (real z) e in
        only_over (refused_only_for Taking.Nearest z t.0 t.1 (Err q) t q refl)
      where
        only_over : {A B C : Type 0} → ((q ≡ Refusal.Over) × A) ⊎ (B × (Taking.Nearest ≡ Taking.Strict) × C) → (q ≡ Refusal.Nar) ⊎ (q ≡ Refusal.Over)
        only_over (inl y) = inr y.0
        only_over (inr y) = absurd (subst Rounds y.1 tt)
