-- In and out again: a whole number that was written strictly is taken out as itself, and a word that was taken out strictly is written as itself. Assumes nothing.
use Rattle.std.specs.Prelude.{Ok}
use mathlib.Core.Path.{◌≡◌, sym, ap, ◌∙◌, subst}
use Prim.Native.Nat.{ℕ, ◌*◌, ◌^◌}
use native.Mathlib.Nat.{mul-one, zero-lt-suc}
use borrow.Author.Tests.{eqb-true}
use lib.Dec.{eqb}
use lib.IntN.{ℤ, nat_abs}
use Rattle.bounds.specs.declared.refusal.Refusal.{Refusal}
use Rattle.bounds.specs.Refusals.{passed, Answer, ◌then◌, IsWord, through, refused}
use Rattle.word.specs.Takum.{Takum, real, takum}
use Rattle.word.specs.Reads.{signed_size}
use Rattle.word.proofs.Values.{real_inj}
use Rattle.bounds.proofs.Answers.{GivesAWord}
use Rattle.bounds.proofs.Verdicts.{then_through, open_when, width_fits, word_passes, answered}
use Rattle.round.specs.declared.value.Rule.{Rule}
use Rattle.write.specs.Writes.{is_negative}
use Rattle.round.specs.Writes.{IsWritten}
use Rattle.round.proofs.Rounding.{exact_written}
use Rattle.whole.specs.declared.taking.Taking.{Taking}
use Rattle.whole.specs.Wholes.{IsNearestWhole, over_test, inexact_test, IsTakenWhole, WritesWhole, TakesWhole}
use Rattle.whole.proofs.OneOutcome.{taken_one}
use Rattle.whole.proofs.TakenOut.{taken_out}
use Rattle.whole.proofs.NearestWholes.{one_nearest_whole}
use Rattle.whole.proofs.WholeValues.{value_of, is_its_nearest, exact_value, taken_as_itself}

-- ---- a whole number in
pub record Written (n : ℕ) (x : ℤ) (w : ℕ) : Type 0 where
  pub word : IsWord n w
  pub means : takum n w ≡ real (value_of x)

-- the word that is written strictly has the value of the whole number
pub strictly_written : (n : ℕ) (x : ℤ) (w : ℕ) → WritesWhole n Rule.Strict x (Ok w) → Written n x w
unfolding WritesWhole IsWritten value_of GivesAWord
strictly_written n x w (through h y) = record { word = y.is.word; means = y.is.means ∙ ap (λ (z : ℕ). real (signed_size (is_negative x) z)) (sym (mul-one y.z) ∙ y.same) }
strictly_written n x w (refused h q) = absurd (subst GivesAWord q tt)

-- and such a word is the one that either rule writes
pub written_as : (n : ℕ) (rule : Rule) (x : ℤ) (w : ℕ) (r : Answer ℕ) → Written n x w → WritesWhole n rule x r → r ≡ Ok w
unfolding WritesWhole value_of
written_as n rule x w r k y =
    exact_written n k.word.least k.word.most rule (is_negative x) (nat_abs x * 2 ^ 307) 1 w r (zero-lt-suc 0)
    (record { z = nat_abs x * 2 ^ 307; is = record { word = k.word; means = k.means }; same = mul-one (nat_abs x * 2 ^ 307) })
    (answered (width_fits n k.word.least k.word.most) y)

-- ---- a whole number out
not_inexact : (z x : ℤ) → over_test x then inexact_test Taking.Strict z x ≡ passed → nat_abs x * 2 ^ 307 ≡ nat_abs z
unfolding inexact_test
not_inexact z x h = eqb-true (nat_abs x * 2 ^ 307) (nat_abs z) (open_when (eqb (nat_abs x * 2 ^ 307) (nat_abs z)) Refusal.Inexact (then_through (over_test x) (inexact_test Taking.Strict z x) h).1)

-- the word that is taken out strictly has the value of the whole number
pub strictly_taken : (n w : ℕ) (x : ℤ) → TakesWhole n Taking.Strict w (Ok x) → Written n x w
strictly_taken n w x y =
    let k = taken_out n Taking.Strict w x y in
    record { word = k.word; means = k.means ∙ ap real (exact_value k.z x k.near (not_inexact k.z x k.allowed)) }

-- ---- there and back
-- a word that has the value of a whole number gives that one and no other, by either rule
pub written_comes_back : (n : ℕ) (x : ℤ) (w : ℕ) (rule : Taking) (a : Answer ℤ) → over_test x ≡ passed → Written n x w → TakesWhole n rule w a → a ≡ Ok x
unfolding TakesWhole
written_comes_back n x w rule a inside k t = taken_one rule (real (value_of x)) a (Ok x) (subst (λ (t : Takum). IsTakenWhole rule t a) k.means (answered (word_passes n w k.word) t)) (taken_as_itself rule x inside)

pub taken_as_written : (n : ℕ) (x y : ℤ) (w : ℕ) (rule : Taking) → Written n x w → TakesWhole n rule w (Ok y) → y ≡ x
taken_as_written n x y w rule k t =
    let o = taken_out n rule w y t in
    one_nearest_whole (value_of x) y x (subst (λ (z : ℤ). IsNearestWhole z y) (real_inj (sym o.means ∙ k.means)) o.near) (is_its_nearest x)

pub whole_comes_back : (n : ℕ) (x : ℤ) (w : ℕ) (rule : Taking) (a : Answer ℤ) → over_test x ≡ passed → WritesWhole n Rule.Strict x (Ok w) → TakesWhole n rule w a → a ≡ Ok x
whole_comes_back n x w rule a inside y = written_comes_back n x w rule a inside (strictly_written n x w y)

pub word_comes_back : (n w : ℕ) (x : ℤ) (rule : Rule) (r : Answer ℕ) → TakesWhole n Taking.Strict w (Ok x) → WritesWhole n rule x r → r ≡ Ok w
word_comes_back n w x rule r t y = written_as n rule x w r (strictly_taken n w x t) y
