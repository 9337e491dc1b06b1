-- What is taken out of a size, by where it lies: below a half, from there up to 2^63, or past it. Assumes nothing.
use Rattle.std.specs.Prelude.{Ok, Err}
use Rattle.bounds.specs.Refusals.{passed}
use mathlib.Core.Path.{◌≡◌, refl, sym, ap, ap₂, ◌∙◌, subst, subst₂}
use mathlib.Core.Bool.{Bool, true, false}
use Prim.Native.Nat.{ℕ, suc, ◌+◌, ◌-◌, ◌*◌, ◌%◌, ◌^◌, ◌≤◌, ◌<◌}
use native.Mathlib.Nat.{mul-le-mul, mul_assoc, mul-one, zero-mul, ne_of_lt, lt_of_lt_of_le, lt_of_not-le, lt_of_mul-lt-mul_right, mul-lt-mul_of_pos_right, mul-le-mul_left, le_trans, le_of_eq, eq_of_mul-eq-mul_right}
use native.Mathlib.Decide.{dec_le}
use native.Mathlib.Omega.{arith}
use borrow.Author.Tests.{eq-eqb, ne_eqb, eqb-true, eqb-false}
use lib.Dec.{eqb, lit<}
use lib.IntN.{pos, negsuc, nat_abs, ◌-ℤ◌}
use lib.Pow.{pow_pos, pow_mono}
use Rattle.bounds.specs.declared.refusal.Refusal.{Refusal}
use Rattle.word.specs.Takum.{Takum}
use Rattle.word.specs.Reads.{signed_size}
use Rattle.bounds.proofs.Powers.{pow_sum}
use Rattle.word.proofs.Values.{absolute, no_sign}
use Rattle.whole.specs.declared.taking.Taking.{Taking}
use Rattle.whole.specs.Wholes.{IsNearestWhole, over_test, IsTakenWhole}
use Rattle.whole.specs.Parts.{NearestSize, by_rule, TakesSize, WholeWhereLarge}
use Rattle.whole.proofs.Amounts.{amount, amounts_to, under_half}
use Rattle.whole.proofs.NearestWholes.{finer, itself, one_size, nothing_left, nearest_whole}
use Rattle.whole.proofs.Answers.{inside, outside, taken_inside, taken_over}
use Rattle.whole.proofs.WholeValues.{exactly}

-- a factor on both sides changes no test of equality
times_both : (x y g : ℕ) → 0 < g → eqb x y ≡ eqb (x * g) (y * g)
times_both x y g some = by (eqb x y) refl
  where
    by : (b : Bool) → eqb x y ≡ b → b ≡ eqb (x * g) (y * g)
    by true q = sym (eq-eqb (x * g) (y * g) (ap (λ (z : ℕ). z * g) (eqb-true x y q)))
    by false q = sym (ne_eqb (x * g) (y * g) (λ e. eqb-false x y q (eq_of_mul-eq-mul_right g some x y e)))

module _ (rule : Taking) (s : Bool) (m : ℕ) (low : 2 ^ 63 ≤ m) where
  -- below a half
  pub takes_under_half : m < 2 ^ 64 → (i : ℕ) → TakesSize rule s (negsuc (suc i)) m (by_rule rule false (pos 0))
  unfolding TakesSize signed_size
  takes_under_half high i t v means counted = subst (λ (t : Takum). IsTakenWhole rule t (by_rule rule false (pos 0))) (sym means) (taken_inside rule (signed_size s v) (pos 0) false near (inside false 0 (pow_pos 63)) something)
    where
      small : (0 < v) × (2 * v < 2 ^ 307)
      small = under_half i m v low high counted

      zero_size : (u : ℕ) → 2 * v < u → NearestSize u v 0
      zero_size u h = record { up_to = omega (arith, h, zero-mul u); from = omega (arith, zero-mul u); tie_above = λ q. refl; tie_below = λ q. refl }

      near : IsNearestWhole (signed_size s v) (pos 0)
      near = subst (IsNearestWhole (signed_size s v)) (no_sign s) (nearest_whole s v 0 (zero_size (2 ^ 307) small.1))

      something : false ≡ eqb (0 * 2 ^ 307) (nat_abs (signed_size s v))
      something = subst (λ (a : ℕ). false ≡ eqb (0 * 2 ^ 307) a) (sym (absolute s v)) (sym (ne_eqb 0 v (ne_of_lt small.0)))

  -- from 2^63 up it is whole
  module _ (k : ℕ) (far : 63 < k) where
    whole : ℕ
    whole = m * 2 ^ (k - 64)

    is_whole : (v : ℕ) → v ≡ m * 2 ^ (k + 243) → v ≡ whole * 2 ^ 307
    unfolding whole
    is_whole v q = q ∙ ap (λ (y : ℕ). m * y) (sym (pow_sum (k - 64) 307 (k + 243) (omega (arith, far)))) ∙ sym (mul_assoc m (2 ^ (k - 64)) (2 ^ 307))

    near : (v : ℕ) → v ≡ m * 2 ^ (k + 243) → IsNearestWhole (signed_size s v) (signed_size s whole)
    near v q = subst (λ (y : ℕ). IsNearestWhole (signed_size s y) (signed_size s whole)) (sym (is_whole v q)) (nearest_whole s (whole * 2 ^ 307) whole (itself (2 ^ 307) (pow_pos 307) whole))

    over : over_test (signed_size s whole) ≡ Err Refusal.Over → TakesSize rule s (pos k -ℤ pos 1) m (Err Refusal.Over)
    unfolding TakesSize
    over h t v means counted = subst (λ (t : Takum). IsTakenWhole rule t (Err Refusal.Over)) (sym means) (taken_over rule (signed_size s v) (signed_size s whole) (near v (amount k m v counted)) h)

    pub takes_past : 64 < k → TakesSize rule s (pos k -ℤ pos 1) m (Err Refusal.Over)
    unfolding whole
    takes_past h = over (outside s (m * 2 ^ (k - 64)) large)
      where
        doubled : 2 ^ 63 < 2 ^ 63 * 2 ^ 1
        doubled = lit< tt

        large : 2 ^ 63 < m * 2 ^ (k - 64)
        large = lt_of_lt_of_le doubled (mul-le-mul {n₁ = 2 ^ 63} {m₁ = 2 ^ 1} low (pow_mono {i = 1} {j = k - 64} (omega (arith, h))))

    -- up to 2^64 it is m
    module _ (last : k ≤ 64) where
      is_m : whole ≡ m
      unfolding whole
      is_m = let none : k - 64 ≡ 0 = omega (arith, last) in ap (λ (j : ℕ). m * 2 ^ j) none ∙ mul-one m

      pub takes_outside : over_test (signed_size s m) ≡ Err Refusal.Over → TakesSize rule s (pos k -ℤ pos 1) m (Err Refusal.Over)
      takes_outside h = over (ap (λ (y : ℕ). over_test (signed_size s y)) is_m ∙ h)

      pub takes_inside : over_test (signed_size s m) ≡ passed → TakesSize rule s (pos k -ℤ pos 1) m (Ok (signed_size s m))
      unfolding TakesSize
      takes_inside h t v means counted =
          subst₂ (IsTakenWhole rule) (sym means) (exactly rule (signed_size s m))
          (taken_inside rule (signed_size s v) (signed_size s m) true (subst (λ (y : ℕ). IsNearestWhole (signed_size s v) (signed_size s y)) is_m (near v is)) h
          (sym (eq-eqb _ _ (ap (λ (y : ℕ). y * 2 ^ 307) (absolute s m ∙ sym is_m) ∙ sym (is_whole v is) ∙ sym (absolute s v)))))
        where
          is : v ≡ m * 2 ^ (k + 243)
          is = amount k m v counted

  -- from a half up to 2^63: 64 - k bits are the fraction
  module _ (k : ℕ) (few : k ≤ 63) where
    pub takes_rounded : (i : ℕ) → i < 2 ^ 63 → NearestSize (2 ^ 64) (m * 2 ^ k) i → TakesSize rule s (pos k -ℤ pos 1) m (by_rule rule (eqb (m * 2 ^ k % 2 ^ 64) 0) (signed_size s i))
    unfolding TakesSize
    takes_rounded i small x t v means counted =
        subst (λ (t : Takum). IsTakenWhole rule t (by_rule rule (eqb (m * 2 ^ k % 2 ^ 64) 0) (signed_size s i))) (sym means)
        (taken_inside rule (signed_size s v) (signed_size s i) (eqb (m * 2 ^ k % 2 ^ 64) 0) (nearest_whole s v i near) (inside s i small) exactly)
      where
        one : 2 ^ 64 * 2 ^ 243 ≡ 2 ^ 307
        one = pow_sum 64 243 307 refl

        is_size : m * 2 ^ k * 2 ^ 243 ≡ v
        is_size = mul_assoc m (2 ^ k) (2 ^ 243) ∙ ap (λ (y : ℕ). m * y) (pow_sum k 243 (k + 243) refl) ∙ sym (amount k m v counted)

        near : NearestSize (2 ^ 307) v i
        near = subst₂ (λ (u b : ℕ). NearestSize u b i) one is_size (finer (2 ^ 64) (pow_pos 64) (m * 2 ^ k) i (2 ^ 243) (pow_pos 243) x)

        exactly : eqb (m * 2 ^ k % 2 ^ 64) 0 ≡ eqb (nat_abs (signed_size s i) * 2 ^ 307) (nat_abs (signed_size s v))
        exactly =
            nothing_left (2 ^ 64) (pow_pos 64) (m * 2 ^ k) i x ∙ times_both (i * 2 ^ 64) (m * 2 ^ k) (2 ^ 243) (pow_pos 243)
            ∙ ap₂ eqb (mul_assoc i (2 ^ 64) (2 ^ 243) ∙ ap₂ (λ (j u : ℕ). j * u) (sym (absolute s i)) one) (is_size ∙ sym (absolute s v))

    -- where the size is a whole number from 2^55 on, the nearest one stays below 2^63
    pub stays_below : m < 2 ^ 64 → WholeWhereLarge (pos k -ℤ pos 1) m → (i : ℕ) → NearestSize (2 ^ 64) (m * 2 ^ k) i → i < 2 ^ 63
    unfolding WholeWhereLarge
    stays_below high whole i x = by (dec_le k 55)
      where
        under : (e : ℕ) → k ≤ e → m * 2 ^ k < 2 ^ 64 * 2 ^ e
        under e h = lt_of_lt_of_le (mul-lt-mul_of_pos_right high (pow_pos k)) (mul-le-mul_left (2 ^ 64) (pow_mono h))

        short : k ≤ 55 → i < 2 ^ 63
        short h = omega (arith, small)
          where
            small : i < 2 ^ 56
            small = omega (arith, under 55 h, x.from)

        long : 56 ≤ k → i < 2 ^ 63
        long h = subst (λ (y : ℕ). y < 2 ^ 63) (sym same) (lt_of_mul-lt-mul_right (2 ^ 64) (subst (λ (y : ℕ). y < 2 ^ 63 * 2 ^ 64) is_whole (under 63 few)))
          where
            large : 2 ^ 55 * 2 ^ 307 ≤ m * 2 ^ (k + 243)
            large = le_trans (le_of_eq (pow_sum 55 307 362 refl ∙ sym (pow_sum 63 299 362 refl))) (mul-le-mul {n₁ = 2 ^ 63} {m₁ = 2 ^ 299} low (pow_mono {i = 299} {j = k + 243} (omega (arith, h))))

            j : ℕ
            j = (whole (m * 2 ^ (k + 243)) (amounts_to k m) large).0

            is_whole : m * 2 ^ k ≡ j * 2 ^ 64
            is_whole =
                eq_of_mul-eq-mul_right (2 ^ 243) (pow_pos 243) (m * 2 ^ k) (j * 2 ^ 64)
                (mul_assoc m (2 ^ k) (2 ^ 243) ∙ ap (λ (y : ℕ). m * y) (pow_sum k 243 (k + 243) refl) ∙ (whole (m * 2 ^ (k + 243)) (amounts_to k m) large).1 ∙ ap (λ (y : ℕ). j * y) (sym (pow_sum 64 243 307 refl)) ∙ sym (mul_assoc j (2 ^ 64) (2 ^ 243)))

            same : i ≡ j
            same = one_size (2 ^ 64) (pow_pos 64) (m * 2 ^ k) i j x (subst (λ (a : ℕ). NearestSize (2 ^ 64) a j) (sym is_whole) (itself (2 ^ 64) (pow_pos 64) j))

        by : Dec (k ≤ 55) → i < 2 ^ 63
        by (yes h) = short h
        by (no f) = long (lt_of_not-le f)
