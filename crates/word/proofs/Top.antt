-- A word and its string at the top of 64 bits, with zeros behind them: the string's fields, and its size as the machine has it there, in steps of 2^-63.
-- Assumes nothing.
use mathlib.Core.Path.{◌≡◌, sym, ap, ap₂, ◌∙◌}
use mathlib.Core.Bool.{Bool, true, false, cond}
use Prim.Native.Nat.{ℕ, ◌+◌, ◌-◌, ◌*◌, ◌/◌, ◌%◌, ◌^◌, ◌≤◌}
use native.Mathlib.Nat.{eq_of_mul-eq-mul_right, add-zero, mul_assoc, mul_comm, mul-sub}
use native.Mathlib.Omega.{arith}
use lib.Pow.{pow_pos, shl_exact, shl-shr, shr-shr, split}
use Rattle.bounds.specs.Refusals.{IsWord}
use Rattle.word.specs.Takum.{S, r, p, F, c}
use Rattle.bounds.proofs.Powers.{pow_sum, shl_mod}
use Rattle.word.proofs.Cut.{S_appended, r_appended, p_appended, F_appended, c_appended}

-- ---- a word of any width
pub NaR_shifted : (n : ℕ) → 2 ≤ n → n ≤ 64 → 2 ^ (n - 1) * 2 ^ (64 - n) ≡ 2 ^ 63
NaR_shifted n lo hi = pow_sum (n - 1) (64 - n) 63 (omega (arith, lo, hi))

-- a word that is shifted to the top loses nothing, and NaR is the same there
module _ (n w : ℕ) (i : IsWord n w) where
  pub shifted_is : w * 2 ^ (64 - n) % 2 ^ 64 ≡ w * 2 ^ (64 - n)
  shifted_is = shl_exact n (64 - n) 64 i.fits (omega (arith, i.most))

  pub NaR_at_top : w * 2 ^ (64 - n) % 2 ^ 64 ≡ 2 ^ 63 → w ≡ 2 ^ (n - 1)
  NaR_at_top q = eq_of_mul-eq-mul_right (2 ^ (64 - n)) (pow_pos (64 - n)) w (2 ^ (n - 1)) (sym shifted_is ∙ q ∙ sym (NaR_shifted n i.least i.most))

  pub at_top_NaR : w ≡ 2 ^ (n - 1) → w * 2 ^ (64 - n) % 2 ^ 64 ≡ 2 ^ 63
  at_top_NaR q = shifted_is ∙ ap (λ (x : ℕ). x * 2 ^ (64 - n)) q ∙ NaR_shifted n i.least i.most

-- ---- the fields of a string of n bits that stands at the top of t
module _ (n t : ℕ) (lo : 12 ≤ n) (hi : n ≤ 64) (zeros : t % 2 ^ (64 - n) ≡ 0) where
  unfoldable pub string : ℕ
  string = t / 2 ^ (64 - n)

  full : 64 ≡ n + (64 - n)
  full = omega (arith, hi)

  behind : t ≡ string * 2 ^ (64 - n)
  unfolding string
  behind = sym (split t (64 - n)) ∙ ap (λ (x : ℕ). t / 2 ^ (64 - n) * 2 ^ (64 - n) + x) zeros ∙ add-zero _

  at_top : {A : Type 0} (f : ℕ → ℕ → A) → f 64 t ≡ f (n + (64 - n)) (string * 2 ^ (64 - n))
  at_top f = ap₂ f full behind

  pub sign_at_top : S 64 t ≡ S n string
  sign_at_top = at_top S ∙ S_appended n (64 - n) string lo

  pub regime_at_top : r 64 t ≡ r n string
  regime_at_top = at_top r ∙ r_appended n (64 - n) string lo

  pub characteristic_at_top : c 64 t ≡ c n string
  characteristic_at_top = at_top c ∙ c_appended n (64 - n) string lo

  pub count_at_top : p 64 t ≡ p n string + (64 - n)
  count_at_top = at_top p ∙ p_appended n (64 - n) string lo

  pub count_most : p n string ≤ n - 5
  unfolding p
  count_most = omega arith

  pub fraction_at_top : F 64 t * 2 ^ (64 - p 64 t) / 2 ^ 1 ≡ F n string * 2 ^ (63 - p n string)
  fraction_at_top =
      ap₂ (λ (f q : ℕ). f * 2 ^ (64 - q) / 2 ^ 1) (at_top F ∙ F_appended n (64 - n) string lo) count_at_top
      ∙ ap (λ (x : ℕ). x / 2 ^ 1) (mul_assoc (F n string) (2 ^ (64 - n)) (2 ^ (64 - (p n string + (64 - n)))) ∙ ap (λ (x : ℕ). F n string * x) (pow_sum (64 - n) (64 - (p n string + (64 - n))) (63 - p n string + 1) (omega (arith, lo, hi, count_most))) ∙ ap (λ (x : ℕ). F n string * x) (sym (pow_sum (63 - p n string) 1 (63 - p n string + 1) (omega arith))) ∙ sym (mul_assoc (F n string) (2 ^ (63 - p n string)) (2 ^ 1)))
      ∙ shl-shr (F n string * 2 ^ (63 - p n string)) 1

-- ---- a size with P fraction bits, in steps of 2^-63
module _ (P : ℕ) (few : P ≤ 63) where
  whole : 2 ^ P * 2 ^ (63 - P) ≡ 2 ^ 63
  whole = pow_sum P (63 - P) 63 (omega (arith, few))

  pub above_at_top : (s : Bool) (f : ℕ) → cond s (2 ^ 63 - f * 2 ^ (63 - P)) (f * 2 ^ (63 - P)) ≡ cond s (2 ^ P - f) f * 2 ^ (63 - P)
  above_at_top true f = ap (λ (x : ℕ). x - f * 2 ^ (63 - P)) (sym whole) ∙ ap₂ (λ (x y : ℕ). x - y) (mul_comm (2 ^ P) (2 ^ (63 - P))) (mul_comm f (2 ^ (63 - P))) ∙ sym (mul-sub (2 ^ (63 - P)) (2 ^ P) f) ∙ mul_comm (2 ^ (63 - P)) (2 ^ P - f)
  above_at_top false f = omega arith

  pub carry_at_top : (a : ℕ) → a * 2 ^ (63 - P) / 2 ^ 63 ≡ a / 2 ^ P
  carry_at_top a =
      let all : 63 ≡ 63 - P + P = omega (arith, few) in
      ap (λ (k : ℕ). a * 2 ^ (63 - P) / 2 ^ k) all ∙ sym (shr-shr (a * 2 ^ (63 - P)) (63 - P) P) ∙ ap (λ (x : ℕ). x / 2 ^ P) (shl-shr a (63 - P))

  pub size_at_top : (a : ℕ) → (2 ^ 63 + a * 2 ^ (63 - P) % 2 ^ 63) / 2 ^ (63 - P) ≡ 2 ^ P + a % 2 ^ P
  size_at_top a =
      let all : 63 ≡ P + (63 - P) = omega (arith, few) in
      ap (λ (x : ℕ). x / 2 ^ (63 - P)) (ap₂ (λ (x y : ℕ). x + y) (sym whole) (ap (λ (k : ℕ). a * 2 ^ (63 - P) % 2 ^ k) all ∙ shl_mod a P (63 - P)) ∙ sym (distr (2 ^ P) (a % 2 ^ P) (2 ^ (63 - P))))
      ∙ shl-shr (2 ^ P + a % 2 ^ P) (63 - P)
    where
      distr : (x y z : ℕ) → (x + y) * z ≡ x * z + y * z
      distr x y z = omega arith
