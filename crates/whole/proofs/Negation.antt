-- The negated word is taken out as the negated number, but for that of -2^63, which is OVER. Assumes nothing.
use Rattle.std.specs.Prelude.{Ok, Err}
use mathlib.Core.Path.{◌≡◌, refl, sym, ap, ap₂, ◌∙◌, subst}
use Prim.Native.Nat.{ℕ, ◌*◌, ◌^◌, ◌<◌}
use lib.Dec.{eqb}
use lib.IntN.{ℤ, pos, neg_ℤ, nat_abs}
use Rattle.bounds.specs.declared.refusal.Refusal.{Refusal}
use Rattle.bounds.specs.Refusals.{passed, Answer, Verdict, ◌then◌, unless, through, refused}
use Rattle.bounds.proofs.Verdicts.{then_through, word_passes}
use Rattle.word.specs.Orders.{negated, opposite}
use Rattle.word.specs.Takum.{Takum, real}
use Rattle.word.proofs.Values.{negated_word, negation_negates}
use Rattle.nearest.proofs.Gaps.{turned}
use Rattle.write.specs.Writes.{is_negative}
use Rattle.write.proofs.Moves.{rejoined}
use Rattle.whole.specs.declared.taking.Taking.{Taking}
use Rattle.whole.specs.Wholes.{over_test, inexact_test, IsTakenWhole, TakesWhole}
use Rattle.whole.proofs.Answers.{inside}
use Rattle.whole.proofs.NearestWholes.{opposite_nearest}
use Rattle.whole.proofs.TakenOut.{TakenOut, taken_out}

module _ (n w : ℕ) (rule : Taking) (x : ℤ) (y : TakesWhole n rule w (Ok x)) where
  k : TakenOut n rule w x
  k = taken_out n rule w x y

  -- INEXACT turns on the sizes alone
  exact_too : inexact_test rule (neg_ℤ k.z) (neg_ℤ x) ≡ passed
  unfolding inexact_test
  exact_too = same rule ∙ (then_through (over_test x) (inexact_test rule k.z x) k.allowed).1
    where
      same : (rule : Taking) → inexact_test rule (neg_ℤ k.z) (neg_ℤ x) ≡ inexact_test rule k.z x
      same Taking.Nearest = refl
      same Taking.Strict = ap₂ (λ (i j : ℕ). unless Refusal.Inexact (eqb (i * 2 ^ 307) j)) (turned x) (turned k.z)

  takes : (a : Answer ℤ) → IsTakenWhole rule (opposite (real k.z)) a → TakesWhole n rule (negated n w) a
  unfolding TakesWhole
  takes a is = through (word_passes n (negated n w) (negated_word n w k.word)) (subst (λ (t : Takum). IsTakenWhole rule t a) (sym (negation_negates n w k.word ∙ ap opposite k.means)) is)

  pub negated_taken : nat_abs x < 2 ^ 63 → TakesWhole n rule (negated n w) (Ok (neg_ℤ x))
  unfolding opposite IsTakenWhole
  negated_taken small = takes (Ok (neg_ℤ x)) (neg_ℤ x, opposite_nearest k.z x k.near, through (ap₂ (λ (u v : Verdict). u then v) within exact_too) refl)
    where
      within : over_test (neg_ℤ x) ≡ passed
      within = ap over_test (sym (rejoined (neg_ℤ x))) ∙ inside (is_negative (neg_ℤ x)) (nat_abs (neg_ℤ x)) (subst (λ (i : ℕ). i < 2 ^ 63) (sym (turned x)) small)

  pub negated_over : x ≡ neg_ℤ (pos (2 ^ 63)) → TakesWhole n rule (negated n w) (Err Refusal.Over)
  unfolding opposite IsTakenWhole over_test
  negated_over q = takes (Err Refusal.Over) (neg_ℤ x, opposite_nearest k.z x k.near, refused (ap (λ (u : ℤ). over_test (neg_ℤ u) then inexact_test rule (neg_ℤ k.z) (neg_ℤ x)) q) refl)
