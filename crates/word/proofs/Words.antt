-- What a word of any width from 2 to 64 means, by where it lies: zero, above zero, NaR, below zero. Zeros appended change nothing. Assumes nothing.
use mathlib.Core.Path.{◌≡◌, sym, ap, ap₂, ◌∙◌, subst}
use mathlib.Core.Logic.{⊎_elim}
use Prim.Native.Nat.{ℕ, zero, ◌+◌, ◌-◌, ◌*◌, ◌%◌, ◌^◌, ◌≤◌, ◌<◌, max}
use native.Mathlib.Nat.{zero-mul, zero-mod, zero-div, mod_self, div_self, mod-eq_of_lt, mod-eq-sub-mod, ne_of_gt, le_of_lt, mul-pos, mul_comm, mul-sub, mul_assoc, mul-lt-mul_of_pos_right, eq-or-lt_of_le, lt_of_not-le, eq-zero-or-pos}
use native.Mathlib.Decide.{dec_le}
use native.Mathlib.Omega.{arith}
use borrow.Author.Tests.{ne_eqb}
use lib.IntN.{pos, neg_ℤ}
use lib.Pow.{pow_pos, pow-add}
use Rattle.word.specs.Takum.{real, NaR, S, value, meaning, N, padded, takum}
use Rattle.bounds.proofs.Powers.{pow_sum}
use Rattle.word.proofs.Sizes.{size}
use Rattle.word.proofs.Meaning.{string_positive, string_negative}

-- ---- where a word lies
pub data Lies (n w : ℕ) : Type 0 where
  at_zero : w ≡ 0 → Lies n w
  above : zero < w → w < 2 ^ (n - 1) → Lies n w
  at_NaR : w ≡ 2 ^ (n - 1) → Lies n w
  under : 2 ^ (n - 1) < w → Lies n w

pub lies : (n w : ℕ) → Lies n w
lies n w = ⊎_elim at_zero (λ (h : zero < w). half h (dec_le (2 ^ (n - 1)) w)) (eq-zero-or-pos w)
  where
    half : zero < w → Dec (2 ^ (n - 1) ≤ w) → Lies n w
    half h (yes q) = ⊎_elim (λ (s : 2 ^ (n - 1) ≡ w). at_NaR (sym s)) under (eq-or-lt_of_le q)
    half h (no f) = above h (lt_of_not-le f)

-- ---- strings
number : (j x : ℕ) → (x % 2 ^ (11 + j) ≡ 0 → ⊥) → meaning (12 + j) x ≡ real (value (12 + j) x)
unfolding meaning
number j x f = rw (less, ne_eqb (x % 2 ^ (11 + j)) 0 f)
  where
    less : 12 + j - 1 ≡ 11 + j
    less = omega arith

module _ (n : ℕ) where
  pub takum_zero : takum n 0 ≡ real (pos 0)
  unfolding takum padded meaning S
  takum_zero = rw (zero-mul, zero-mod, zero-div)

module _ (n w : ℕ) (lo : 2 ≤ n) (hi : n ≤ 64) where
  -- the padded string has 12 + j bits, d of them appended, and goes i bits to the left to stand at the top
  d : ℕ
  d = max n 12 - n

  j : ℕ
  j = max n 12 - 12

  i : ℕ
  i = 64 - max n 12

  string : takum n w ≡ meaning (12 + j) (w * 2 ^ d)
  unfolding takum N padded d j
  string = ap (λ (m : ℕ). meaning m (w * 2 ^ d)) (omega arith)

  half : 2 ^ (n - 1) * 2 ^ d ≡ 2 ^ (11 + j)
  unfolding d j
  half = pow_sum (n - 1) d (11 + j) (omega arith)

  full : 2 ^ n * 2 ^ d ≡ 2 ^ (12 + j)
  unfolding d j
  full = pow_sum n d (12 + j) (omega arith)

  bits : i + j ≡ 52
  unfolding i j
  bits = omega arith

  raise : (x : ℕ) → x * 2 ^ d * 2 ^ i ≡ x * 2 ^ (64 - n)
  unfolding d i
  raise x = mul_assoc x (2 ^ d) (2 ^ i) ∙ ap (λ (y : ℕ). x * y) (pow_sum d i (64 - n) (omega arith))

  -- a word above zero, and one that is below it
  low : w < 2 ^ (n - 1) → w * 2 ^ d < 2 ^ (11 + j)
  low b = subst (λ (y : ℕ). w * 2 ^ d < y) half (mul-lt-mul_of_pos_right b (pow_pos d))

  high : 2 ^ (n - 1) < w → 2 ^ (11 + j) < w * 2 ^ d
  high b = subst (λ (y : ℕ). y < w * 2 ^ d) half (mul-lt-mul_of_pos_right b (pow_pos d))

  whole : w < 2 ^ n → w * 2 ^ d < 2 ^ (12 + j)
  whole fits = subst (λ (y : ℕ). w * 2 ^ d < y) full (mul-lt-mul_of_pos_right fits (pow_pos d))

  number_above : zero < w → w < 2 ^ (n - 1) → takum n w ≡ real (value (12 + j) (w * 2 ^ d))
  number_above h b = string ∙ number j (w * 2 ^ d) (λ (z : w * 2 ^ d % 2 ^ (11 + j) ≡ 0). ne_of_gt (mul-pos h (pow_pos d)) (sym (mod-eq_of_lt (low b)) ∙ z))

  number_under : 2 ^ (n - 1) < w → w < 2 ^ n → takum n w ≡ real (value (12 + j) (w * 2 ^ d))
  number_under b fits = string ∙ number j (w * 2 ^ d) (λ (z : w * 2 ^ d % 2 ^ (11 + j) ≡ 0). ne_of_gt (omega (arith, high b)) (sym rest ∙ z))
    where
      rest : w * 2 ^ d % 2 ^ (11 + j) ≡ w * 2 ^ d - 2 ^ (11 + j)
      rest = mod-eq-sub-mod (le_of_lt (high b)) ∙ mod-eq_of_lt (omega (arith, high b, whole fits, pow-add 2 11 j, pow-add 2 12 j))

  -- a word that is neither zero nor NaR's is a number
  pub takum_number : w < 2 ^ n → (w ≡ 0 → ⊥) → (w ≡ 2 ^ (n - 1) → ⊥) → takum n w ≡ real (value (N n) (padded n w))
  unfolding N padded d j
  takum_number fits f g = by (lies n w) ∙ ap (λ (m : ℕ). real (value m (w * 2 ^ d))) (omega arith)
    where
      by : Lies n w → takum n w ≡ real (value (12 + j) (w * 2 ^ d))
      by (at_zero q) = absurd (f q)
      by (above h b) = number_above h b
      by (at_NaR q) = absurd (g q)
      by (under b) = number_under b fits

  pub takum_positive : zero < w → w < 2 ^ (n - 1) → takum n w ≡ real (pos (size (w * 2 ^ (64 - n))))
  takum_positive h b = number_above h b ∙ ap real (string_positive j i (w * 2 ^ d) bits (low b) ∙ ap (λ (u : ℕ). pos (size u)) (raise w))

  pub takum_NaR : w ≡ 2 ^ (n - 1) → takum n w ≡ NaR
  unfolding meaning S
  takum_NaR q = string ∙ ap (meaning (12 + j)) (ap (λ (x : ℕ). x * 2 ^ d) q ∙ half) ∙ rw (less, mod_self (2 ^ (11 + j)), div_self (pow_pos (11 + j)))
    where
      less : 12 + j - 1 ≡ 11 + j
      less = omega arith

  pub takum_negative : 2 ^ (n - 1) < w → w < 2 ^ n → takum n w ≡ real (neg_ℤ (pos (size ((2 ^ n - w) * 2 ^ (64 - n)))))
  takum_negative b fits =
      number_under b fits ∙ ap real (string_negative j i (w * 2 ^ d) bits (high b) (whole fits) ∙ ap (λ (u : ℕ). neg_ℤ (pos (size u))) (ap (λ (y : ℕ). y * 2 ^ i) less ∙ raise (2 ^ n - w)))
    where
      less : 2 ^ (12 + j) - w * 2 ^ d ≡ (2 ^ n - w) * 2 ^ d
      less =
          ap (λ (y : ℕ). y - w * 2 ^ d) (sym full) ∙ ap₂ (λ (y z : ℕ). y - z) (mul_comm (2 ^ n) (2 ^ d)) (mul_comm w (2 ^ d)) ∙ sym (mul-sub (2 ^ d) (2 ^ n) w)
          ∙ mul_comm (2 ^ d) (2 ^ n - w)

-- zeros appended change nothing
pub zeros_appended : (n k w : ℕ) → 2 ≤ n → n + k ≤ 64 → w < 2 ^ n → takum (n + k) (w * 2 ^ k) ≡ takum n w
zeros_appended n k w lo hi fits = by (lies n w)
  where
    half : 2 ^ (n - 1) * 2 ^ k ≡ 2 ^ (n + k - 1)
    half = pow_sum (n - 1) k (n + k - 1) (omega (arith, lo))

    short : n ≤ 64
    short = omega (arith, hi)

    long : 2 ≤ n + k
    long = omega (arith, lo)

    raised : (x : ℕ) → x * 2 ^ k * 2 ^ (64 - (n + k)) ≡ x * 2 ^ (64 - n)
    raised x = mul_assoc x (2 ^ k) (2 ^ (64 - (n + k))) ∙ ap (λ (y : ℕ). x * y) (pow_sum k (64 - (n + k)) (64 - n) (omega (arith, hi)))

    less : 2 ^ (n + k) - w * 2 ^ k ≡ (2 ^ n - w) * 2 ^ k
    less =
        ap (λ (y : ℕ). y - w * 2 ^ k) (pow-add 2 n k) ∙ ap₂ (λ (y z : ℕ). y - z) (mul_comm (2 ^ n) (2 ^ k)) (mul_comm w (2 ^ k)) ∙ sym (mul-sub (2 ^ k) (2 ^ n) w) ∙ mul_comm (2 ^ k) (2 ^ n - w)

    by : Lies n w → takum (n + k) (w * 2 ^ k) ≡ takum n w
    by (at_zero q) = ap (takum (n + k)) (ap (λ (x : ℕ). x * 2 ^ k) q ∙ zero-mul (2 ^ k)) ∙ takum_zero (n + k) ∙ sym (takum_zero n) ∙ ap (takum n) (sym q)
    by (above h b) =
        takum_positive (n + k) (w * 2 ^ k) long hi (mul-pos h (pow_pos k)) (subst (λ (y : ℕ). w * 2 ^ k < y) half (mul-lt-mul_of_pos_right b (pow_pos k)))
        ∙ ap (λ (u : ℕ). real (pos (size u))) (raised w) ∙ sym (takum_positive n w lo short h b)
    by (at_NaR q) = takum_NaR (n + k) (w * 2 ^ k) long hi (ap (λ (x : ℕ). x * 2 ^ k) q ∙ half) ∙ sym (takum_NaR n w lo short q)
    by (under b) =
        takum_negative (n + k) (w * 2 ^ k) long hi (subst (λ (y : ℕ). y < w * 2 ^ k) half (mul-lt-mul_of_pos_right b (pow_pos k))) (subst (λ (y : ℕ). w * 2 ^ k < y) (sym (pow-add 2 n k)) (mul-lt-mul_of_pos_right fits (pow_pos k)))
        ∙ ap (λ (u : ℕ). real (neg_ℤ (pos (size u)))) (ap (λ (y : ℕ). y * 2 ^ (64 - (n + k))) less ∙ raised (2 ^ n - w)) ∙ sym (takum_negative n w lo short b fits)
