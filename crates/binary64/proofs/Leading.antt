-- What `round` keeps of a size that is a whole number of 2^-1074: its 53 leading digits, rounded. So the code's whole number is right. Assumes nothing.
use mathlib.Core.Path.{◌≡◌, refl, sym, ap, ◌∙◌, subst}
use mathlib.Core.Bool.{Bool}
use Prim.Native.Nat.{ℕ, suc, ◌+◌, ◌-◌, ◌*◌, ◌/◌, ◌^◌, ◌≤◌, ◌<◌}
use native.Mathlib.Nat.{mul_assoc, lt_of_lt_of_le, mul-lt-mul_of_pos_right, mul-le-mul_right, mul-div_cancel, mul-pos, le_antisymm, lt_of_le_of_lt, le_trans, le_of_eq}
use native.Mathlib.Omega.{arith}
use lib.Dec.{T}
use lib.Pow.{pow_pos, pow-lt}
use lib.Ieee.{Float, binary64, size, units, round, fits}
use lib.Ieee.Digits.{size-lt, size-le}
use lib.Ieee.Exact.{HasValue, units_val}
use lib.Ieee.Fits.{core, round_is, round-fits}
use lib.Ieee.Nearest.{closest, closest_same}
use Rattle.bounds.proofs.Limits.{exponent_lt}
use Rattle.bounds.proofs.Powers.{pow_sum}
use Rattle.binary64.proofs.Closest.{closest_range}
use Rattle.binary64.proofs.Held.{value_one}
use Rattle.binary64.proofs.Values.{value_same}

-- how many digits a number has
size_is : (n z : ℕ) → 2 ^ z ≤ n → n < 2 ^ suc z → size n ≡ suc z
size_is n z lo hi = le_antisymm (size-le n (suc z) hi) (exponent_lt z (size n) (lt_of_le_of_lt lo (size-lt n)))

-- the size a / c, which is A * 2^-1074, for an A of 53 digits and k more
module _ (s : Bool) (a c A k : ℕ) (some : 0 < c) (whole : a * 2 ^ 1074 ≡ A * c) (lo : 2 ^ 52 * 2 ^ k ≤ A) (hi : A < 2 ^ 53 * 2 ^ k) (room : k ≤ 2000) where
  abbrev q : ℕ
  q = closest A (2 ^ k)

  dropped : size (a * 2 ^ 1074 / c) - 53 ≡ k
  dropped =
      ap (λ (x : ℕ). size x - 53) (ap (λ (x : ℕ). x / c) whole ∙ mul-div_cancel A some)
      ∙ ap (λ (x : ℕ). x - 53) (size_is A (52 + k) (le_trans (le_of_eq (sym (pow_sum 52 k (52 + k) refl))) lo) (lt_of_lt_of_le hi (le_of_eq (pow_sum 53 k (suc (52 + k)) (omega arith)))))
      ∙ omega arith

  kept : closest (a * 2 ^ 1074) (c * 2 ^ k) ≡ q
  kept = closest_same (a * 2 ^ 1074) (c * 2 ^ k) A (2 ^ k) (mul-pos some (pow_pos k)) (pow_pos k) (ap (λ (x : ℕ). x * 2 ^ k) whole ∙ mul_assoc A c (2 ^ k))

  under : q * 2 ^ k < 2 ^ 2098
  under = lt_of_le_of_lt (le_trans (mul-le-mul_right (2 ^ k) (closest_range A (2 ^ k) (pow_pos k) lo hi).1) (le_of_eq (pow_sum 53 k (53 + k) refl))) (pow-lt {i = 53 + k} {j = 2098} (omega (arith, room)))

  pub rounded_size : HasValue (round binary64 s a c) s (q * 2 ^ k) (2 ^ 1074)
  rounded_size =
      subst (λ (x : Float). HasValue x s (q * 2 ^ k) (2 ^ 1074)) (sym (round_is binary64 s a c ∙ ap (core binary64 s (a * 2 ^ 1074) c) dropped ∙ ap (λ (x : ℕ). units binary64 s x k) kept)) (units_val binary64 s q k under)

-- ---- m * 2^(j - 1023), for an m of 64 digits: eleven are cut
module _ (s : Bool) (m j : ℕ) (long : 2 ^ 63 ≤ m) (short : m < 2 ^ 64) (hi : j ≤ 1400) where
  rounded : HasValue (round binary64 s (m * 2 ^ j) (2 ^ 1023)) s (closest m (2 ^ 11) * 2 ^ (j + 62)) (2 ^ 1074)
  rounded =
      subst (λ (q : ℕ). HasValue (round binary64 s (m * 2 ^ j) (2 ^ 1023)) s (q * 2 ^ (j + 62)) (2 ^ 1074))
      (closest_same (m * 2 ^ (j + 51)) (2 ^ (j + 62)) m (2 ^ 11) (pow_pos (j + 62)) (pow_pos 11) (mul_assoc m (2 ^ (j + 51)) (2 ^ 11) ∙ ap (λ (x : ℕ). m * x) (pow_sum (j + 51) 11 (j + 62) (omega arith))))
      (rounded_size s (m * 2 ^ j) (2 ^ 1023) (m * 2 ^ (j + 51)) (j + 62) (pow_pos 1023) whole (le_trans (le_of_eq (power 52 63 refl)) (mul-le-mul_right (2 ^ (j + 51)) long)) (lt_of_lt_of_le (mul-lt-mul_of_pos_right short (pow_pos (j + 51))) (le_of_eq (sym (power 53 64 refl)))) (omega (arith, hi)))
    where
      whole : m * 2 ^ j * 2 ^ 1074 ≡ m * 2 ^ (j + 51) * 2 ^ 1023
      whole = mul_assoc m (2 ^ j) (2 ^ 1074) ∙ ap (λ (z : ℕ). m * z) (pow_sum j 1074 (j + 1074) refl ∙ sym (pow_sum (j + 51) 1023 (j + 1074) (omega arith))) ∙ sym (mul_assoc m (2 ^ (j + 51)) (2 ^ 1023))

      power : (a b : ℕ) → a + 11 ≡ b → 2 ^ a * 2 ^ (j + 62) ≡ 2 ^ b * 2 ^ (j + 51)
      power a b e = pow_sum a (j + 62) (a + (j + 62)) refl ∙ sym (pow_sum b (j + 51) (a + (j + 62)) (omega (arith, e)))

  -- so the number with the value of what is left is the rounded one
  pub rounded_once : (x : Float) → T (fits binary64 x) → HasValue x s (closest m (2 ^ 11) * 2 ^ (j + 11)) (2 ^ 1023) → x ≡ round binary64 s (m * 2 ^ j) (2 ^ 1023)
  rounded_once x f h = value_one binary64 x (round binary64 s (m * 2 ^ j) (2 ^ 1023)) s (q * 2 ^ (j + 11)) (2 ^ 1023) (pow_pos 1023) f (round-fits binary64 s (m * 2 ^ j) (2 ^ 1023)) h (value_same (round binary64 s (m * 2 ^ j) (2 ^ 1023)) s (q * 2 ^ (j + 62)) (2 ^ 1074) (q * 2 ^ (j + 11)) (2 ^ 1023) (pow_pos 1074) same rounded)
    where
      q : ℕ
      q = closest m (2 ^ 11)

      same : q * 2 ^ (j + 62) * 2 ^ 1023 ≡ q * 2 ^ (j + 11) * 2 ^ 1074
      same = mul_assoc q (2 ^ (j + 62)) (2 ^ 1023) ∙ ap (λ (x : ℕ). q * x) (pow_sum (j + 62) 1023 (j + 1085) (omega arith) ∙ sym (pow_sum (j + 11) 1074 (j + 1085) (omega arith))) ∙ sym (mul_assoc q (2 ^ (j + 11)) (2 ^ 1074))
