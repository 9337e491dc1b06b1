-- From what a contract says where the input is let through or refused to what follows from either. Assumes nothing.
use mathlib.Core.Path.{◌≡◌, sym, ap, ◌∙◌, subst}
use Prim.Native.Nat.{ℕ}
use Rattle.std.specs.Prelude.{Ok, Err}
use Rattle.bounds.specs.declared.refusal.Refusal.{Refusal}
use Rattle.bounds.specs.Refusals.{Answer, Verdict, passed, width_test, Decided, through, refused}
use Rattle.bounds.specs.Widths.{GivesWord}
use Rattle.bounds.proofs.Answers.{word_of, GivesAWord}

pub decided_as : {v : Verdict} {P P' : Refusal → Type 0} {Q Q' : Type 0} → ((q : Refusal) → P q → P' q) → (Q → Q') → Decided v P Q → Decided v P' Q'
decided_as f g (through h x) = through h (g x)
decided_as f g (refused h x) = refused h (f _ x)

-- what a word of the width tells, where one is given, and where it is refused
module _ (f : ℕ → ℕ) (n : ℕ) where
  pub given : {w : ℕ} → GivesWord f n (Ok w) → (width_test n ≡ passed) × (w ≡ f n)
  unfolding GivesWord GivesAWord word_of
  given (through e x) = (e, ap word_of x)
  given (refused e x) = absurd (subst GivesAWord x tt)

  pub not_given : {q : Refusal} → GivesWord f n (Err q) → width_test n ≡ Err q
  unfolding GivesWord GivesAWord
  not_given {q} (through e x) = absurd (subst GivesAWord (sym x) tt)
  not_given {q} (refused e x) = e ∙ ap Err (sym (ap refusal_of x))
    where
      refusal_of : Answer ℕ → Refusal
      refusal_of (Ok w) = q
      refusal_of (Err p) = p
