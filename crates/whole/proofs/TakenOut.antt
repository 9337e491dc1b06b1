-- What is known where a whole number was taken out of a word: it is the nearest to the word's value, and no test refused it. Assumes nothing.
use Rattle.std.specs.Prelude.{Ok, Err}
use mathlib.Core.Path.{◌≡◌, refl, sym, ap, subst}
use Prim.Native.Nat.{ℕ}
use lib.IntN.{ℤ}
use Rattle.bounds.specs.Refusals.{passed, Answer, ◌then◌, IsWord, through, refused}
use Rattle.word.specs.Takum.{Takum, real, NaR, takum}
use Rattle.bounds.proofs.Verdicts.{word_through}
use Rattle.whole.specs.declared.taking.Taking.{Taking}
use Rattle.whole.specs.Wholes.{IsNearestWhole, over_test, inexact_test, IsTakenWhole, TakesWhole}

pub record TakenOut (n : ℕ) (rule : Taking) (w : ℕ) (x : ℤ) : Type 0 where
  pub word : IsWord n w
  pub z : ℤ
  pub means : takum n w ≡ real z
  pub near : IsNearestWhole z x
  pub allowed : over_test x then inexact_test rule z x ≡ passed

-- an answer that gives a whole number isn't a refusal
GivesWhole : Answer ℤ → Type 0
GivesWhole (Ok x) = Unit {0}
GivesWhole (Err q) = ⊥

whole_of : Answer ℤ → ℤ → ℤ
whole_of (Ok x) other = x
whole_of (Err q) other = other

pub taken_out : (n : ℕ) (rule : Taking) (w : ℕ) (x : ℤ) → TakesWhole n rule w (Ok x) → TakenOut n rule w x
unfolding TakesWhole IsTakenWhole GivesWhole whole_of
taken_out n rule w x (refused h q) = absurd (subst GivesWhole q tt)
taken_out n rule w x (through h y) = by (takum n w) refl y
  where
    by : (t : Takum) → takum n w ≡ t → IsTakenWhole rule t (Ok x) → TakenOut n rule w x
    by NaR e q = absurd (subst GivesWhole q tt)
    by (real z) e (y, near, refused v q) = absurd (subst GivesWhole q tt)
    by (real z) e (y, near, through v q) =
        let same : y ≡ x = sym (ap (λ (a : Answer ℤ). whole_of a x) q) in
        record {
          word = word_through n w h;
          z = z;
          means = e;
          near = subst (IsNearestWhole z) same near;
          allowed = subst (λ (x : ℤ). over_test x then inexact_test rule z x ≡ passed) same v;
        }
