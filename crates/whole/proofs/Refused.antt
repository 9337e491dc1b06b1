-- Each refusal of taking out is given exactly when the table of paper 01 says: NAR of NaR, OVER outside 64 bits, INEXACT where strict and no whole
-- number has the value. Assumes nothing.
use Rattle.std.specs.Prelude.{Err}
use Rattle.bounds.specs.Refusals.{passed, Answer, IsWord, unless}
use mathlib.Core.Path.{◌≡◌, refl, sym, ap, ◌∙◌, subst}
use mathlib.Core.Bool.{Bool, true, false}
use mathlib.Core.Logic.{◌⊎◌, inl, inr}
use Prim.Native.Nat.{ℕ, suc, ◌*◌, ◌^◌}
use native.Mathlib.Omega.{arith}
use borrow.Author.Tests.{ne_eqb, eqb-false}
use lib.Dec.{eqb, leb, ltb}
use lib.IntN.{ℤ, pos, negsuc, nat_abs}
use Rattle.bounds.specs.declared.refusal.Refusal.{Refusal}
use Rattle.word.specs.Takum.{Takum, real, NaR, takum}
use Rattle.word.proofs.Values.{absolute}
use Rattle.bounds.proofs.Verdicts.{word_passes, answered}
use Rattle.write.specs.Writes.{is_negative}
use Rattle.whole.specs.declared.taking.Taking.{Taking}
use Rattle.whole.specs.Wholes.{IsNearestWhole, over_test, IsTakenWhole, TakesWhole}
use Rattle.whole.specs.Parts.{by_rule}
use Rattle.whole.proofs.OneOutcome.{taken_one}
use Rattle.whole.proofs.Answers.{taken_inside, taken_over}
use Rattle.whole.proofs.NearestWholes.{one_nearest_whole}
use Rattle.whole.proofs.WholeValues.{value_of, is_its_nearest, exact_value}

-- no whole number has the value
abbrev pub NotWhole : ℤ → Type 0
NotWhole z = (y : ℤ) → z ≡ value_of y → ⊥

pub whole_size : (z x y : ℤ) → IsNearestWhole z x → z ≡ value_of y → nat_abs x * 2 ^ 307 ≡ nat_abs z
unfolding value_of
whole_size z x y near q =
    let same : x ≡ y = one_nearest_whole z x y near (subst (λ (z : ℤ). IsNearestWhole z y) (sym q) (is_its_nearest y)) in
    ap (λ (x : ℤ). nat_abs x * 2 ^ 307) same ∙ sym (ap nat_abs q ∙ absolute (is_negative y) (nat_abs y * 2 ^ 307))

either : (b : Bool) → (unless Refusal.Over b ≡ passed) ⊎ (unless Refusal.Over b ≡ Err Refusal.Over)
either true = inl refl
either false = inr refl

inside_or_over : (x : ℤ) → (over_test x ≡ passed) ⊎ (over_test x ≡ Err Refusal.Over)
unfolding over_test
inside_or_over (pos i) = either (ltb i (2 ^ 63))
inside_or_over (negsuc i) = either (leb (suc i) (2 ^ 63))

-- the rule refuses nothing but a strict value that isn't whole
rule_refuses : (rule : Taking) (b : Bool) (x : ℤ) (q : Refusal) → by_rule rule b x ≡ Err q → (q ≡ Refusal.Inexact) × (rule ≡ Taking.Strict) × (b ≡ false)
unfolding by_rule
rule_refuses Taking.Nearest b x q h = let e : ◌≡◌ {A = ℕ} 0 1 = cc in absurd (omega arith)
rule_refuses Taking.Strict true x q h = let e : ◌≡◌ {A = ℕ} 0 1 = cc in absurd (omega arith)
rule_refuses Taking.Strict false x q h = (cc, refl, refl)

-- ---- a value with its nearest whole number
module _ (rule : Taking) (z x : ℤ) (near : IsNearestWhole z x) (a : Answer ℤ) (is : IsTakenWhole rule (real z) a) where
  answer_inside : (b : Bool) → over_test x ≡ passed → eqb (nat_abs x * 2 ^ 307) (nat_abs z) ≡ b → a ≡ by_rule rule b x
  answer_inside b h q = taken_one rule (real z) a (by_rule rule b x) is (taken_inside rule z x b near h (sym q))

  pub outside_is_over : over_test x ≡ Err Refusal.Over → a ≡ Err Refusal.Over
  outside_is_over h = taken_one rule (real z) a (Err Refusal.Over) is (taken_over rule z x near h)

  pub not_whole_is_inexact : rule ≡ Taking.Strict → over_test x ≡ passed → NotWhole z → a ≡ Err Refusal.Inexact
  unfolding by_rule
  not_whole_is_inexact r h f = answer_inside false h (ne_eqb (nat_abs x * 2 ^ 307) (nat_abs z) (λ q. f x (exact_value z x near q))) ∙ ap (λ (r : Taking). by_rule r false x) r

  -- and nothing else is refused
  pub refused_only_for : (q : Refusal) → a ≡ Err q → ((q ≡ Refusal.Over) × (over_test x ≡ Err Refusal.Over)) ⊎ ((q ≡ Refusal.Inexact) × (rule ≡ Taking.Strict) × NotWhole z)
  refused_only_for q e = by (inside_or_over x)
    where
      exactly : Bool
      exactly = eqb (nat_abs x * 2 ^ 307) (nat_abs z)

      by : (over_test x ≡ passed) ⊎ (over_test x ≡ Err Refusal.Over) → ((q ≡ Refusal.Over) × (over_test x ≡ Err Refusal.Over)) ⊎ ((q ≡ Refusal.Inexact) × (rule ≡ Taking.Strict) × NotWhole z)
      by (inl h) =
          let t = rule_refuses rule exactly x q (sym (answer_inside exactly h refl) ∙ e) in
          inr (t.0, t.1, λ y f. eqb-false (nat_abs x * 2 ^ 307) (nat_abs z) t.2 (whole_size z x y near f))
      by (inr h) = let p = outside_is_over h in inl (cc, h)

-- ---- a word
module _ (n : ℕ) (rule : Taking) (w : ℕ) (a : Answer ℤ) (i : IsWord n w) (is : TakesWhole n rule w a) where
  -- what the laws above ask
  pub meaning_taken : (t : Takum) → takum n w ≡ t → IsTakenWhole rule t a
  unfolding TakesWhole
  meaning_taken t q = subst (λ (t : Takum). IsTakenWhole rule t a) q (answered (word_passes n w i) is)

  pub NaR_is_refused : takum n w ≡ NaR → a ≡ Err Refusal.Nar
  unfolding IsTakenWhole
  NaR_is_refused q = meaning_taken NaR q

  pub refused_is_NaR : a ≡ Err Refusal.Nar → takum n w ≡ NaR
  unfolding IsTakenWhole
  refused_is_NaR q = by (takum n w) (meaning_taken (takum n w) refl)
    where
      neither : {P Q R : Type 0} → ((Refusal.Nar ≡ Refusal.Over) × P) ⊎ ((Refusal.Nar ≡ Refusal.Inexact) × Q × R) → ⊥
      neither (inl x) = let p = x.0 in let e : ◌≡◌ {A = ℕ} 0 1 = cc in omega arith
      neither (inr x) = let p = x.0 in let e : ◌≡◌ {A = ℕ} 0 1 = cc in omega arith

      by : (t : Takum) → IsTakenWhole rule t a → t ≡ NaR
      by NaR x = refl
      by (real z) (x, near, d) = absurd (neither (refused_only_for rule z x near a (x, near, d) Refusal.Nar q))
