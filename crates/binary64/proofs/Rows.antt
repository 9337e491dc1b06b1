-- The sizes of binary64 numbers, counted in the smallest one, 2^-1074: they grow with the pattern without its sign. Assumes nothing.
use mathlib.Core.Path.{◌≡◌, refl, sym, ap, ap₂, ◌∙◌, subst, subst₂}
use mathlib.Core.Bool.{Bool, true, false, not, cond}
use mathlib.Core.Logic.{◌⊎◌, inl, inr}
use Prim.Native.Nat.{ℕ, zero, suc, ◌+◌, ◌-◌, ◌*◌, ◌/◌, ◌%◌, ◌^◌, ◌≤◌, ◌<◌}
use native.Mathlib.Nat.{le_trans, le_of_eq, lt_of_lt_of_le, eq-or-lt_of_le, mul-le-mul_left, mul-le-mul_right, mul-lt-mul_of_pos_right, le-add_right, add_comm}
use native.Mathlib.Decide.{dec_lt, dec_le}
use native.Mathlib.Omega.{arith}
use borrow.Author.Tests.{eq-eqb, ne_eqb}
use lib.Bits.{and_mask}
use lib.Dec.{T, lit≤, eqb-suc-zero}
use lib.IntN.{ℤ}
use lib.Pow.{pow_pos, pow_mono}
use lib.Ieee.{Float, nan, inf, fin, binary64, up, down, of_bits}
use lib.Ieee.Exact.{HasValue}
use lib.Ieee.Scale.{finite}
use Rattle.bounds.proofs.Powers.{pow_sum}
use Rattle.binary64.specs.Nearest.{IsFinite}
use Rattle.binary64.proofs.Patterns.{sign_bit, field, digits, lead, Unbounded, is_nan, is_inf, pattern_value, pattern_unbounded}
use Rattle.binary64.proofs.Values.{value_same}

-- the size of the field x with the digits t, and of the pattern v without its sign
unfoldable pub size_of : ℕ → ℕ → ℕ
size_of zero t = t
size_of (suc x) t = (2 ^ 52 + t) * 2 ^ x

unfoldable pub row : ℕ → ℕ
row v = size_of (v / 2 ^ 52) (v % 2 ^ 52)

-- ---- it grows
below_next : (x t : ℕ) → t < 2 ^ 52 → size_of x t < 2 ^ 52 * 2 ^ x
unfolding size_of
below_next zero t h = omega (arith, h)
below_next (suc x) t h = lt_of_lt_of_le (mul-lt-mul_of_pos_right whole (pow_pos x)) (le_of_eq (pow_sum 53 x (53 + x) refl ∙ sym (pow_sum 52 (suc x) (53 + x) (omega arith))))
  where
    whole : 2 ^ 52 + t < 2 ^ 53
    whole = omega (arith, h)

grows : (x t y u : ℕ) → t < 2 ^ 52 → x < y → size_of x t < size_of y u
unfolding size_of
grows x t zero u h l = absurd (omega (arith, l))
grows x t (suc y) u h l = lt_of_lt_of_le (below_next x t h) (le_trans (mul-le-mul_left (2 ^ 52) (pow_mono {i = x} {j = y} (omega (arith, l)))) (mul-le-mul_right (2 ^ y) (le-add_right (2 ^ 52) u)))

grows_within : (x t u : ℕ) → t < u → size_of x t < size_of x u
unfolding size_of
grows_within zero t u h = h
grows_within (suc x) t u h = mul-lt-mul_of_pos_right sum (pow_pos x)
  where
    sum : 2 ^ 52 + t < 2 ^ 52 + u
    sum = omega (arith, h)

pub row_grows : (v u : ℕ) → v < u → row v < row u
unfolding row
row_grows v u h = by (eq-or-lt_of_le fields)
  where
    fields : v / 2 ^ 52 ≤ u / 2 ^ 52
    fields = omega (arith, h)

    by : (v / 2 ^ 52 ≡ u / 2 ^ 52) ⊎ (v / 2 ^ 52 < u / 2 ^ 52) → size_of (v / 2 ^ 52) (v % 2 ^ 52) < size_of (u / 2 ^ 52) (u % 2 ^ 52)
    by (inl q) = subst (λ (x : ℕ). size_of (v / 2 ^ 52) (v % 2 ^ 52) < size_of x (u % 2 ^ 52)) q (grows_within (v / 2 ^ 52) (v % 2 ^ 52) (u % 2 ^ 52) (omega (arith, h, q)))
    by (inr l) = grows (v / 2 ^ 52) (v % 2 ^ 52) (u / 2 ^ 52) (u % 2 ^ 52) (omega arith) l

-- ---- the place of q * 2^k, for a q of 53 digits or 2^53
pub row_at : (k q : ℕ) → 2 ^ 52 ≤ q → q ≤ 2 ^ 53 → row (k * 2 ^ 52 + q) ≡ q * 2 ^ k
unfolding row size_of
row_at k q lo hi = by (eq-or-lt_of_le hi)
  where
    by : (q ≡ 2 ^ 53) ⊎ (q < 2 ^ 53) → size_of ((k * 2 ^ 52 + q) / 2 ^ 52) ((k * 2 ^ 52 + q) % 2 ^ 52) ≡ q * 2 ^ k
    by (inl e) = ap₂ size_of x t ∙ pow_sum 52 (suc k) (53 + k) (omega arith) ∙ sym (pow_sum 53 k (53 + k) refl) ∙ ap (λ (z : ℕ). z * 2 ^ k) (sym e)
      where
        x : (k * 2 ^ 52 + q) / 2 ^ 52 ≡ suc (suc k)
        x = omega (arith, e)

        t : (k * 2 ^ 52 + q) % 2 ^ 52 ≡ 0
        t = omega (arith, e)
    by (inr l) = ap₂ size_of x t ∙ ap (λ (z : ℕ). z * 2 ^ k) sum
      where
        x : (k * 2 ^ 52 + q) / 2 ^ 52 ≡ suc k
        x = omega (arith, lo, l)

        t : (k * 2 ^ 52 + q) % 2 ^ 52 ≡ q - 2 ^ 52
        t = omega (arith, lo, l)

        sum : 2 ^ 52 + (q - 2 ^ 52) ≡ q
        sum = omega (arith, lo)

-- ---- it is the size of what the pattern stands for
fields_size : (x t : ℕ) → (t + lead x * 2 ^ 52) * 2 ^ (x - lead x) ≡ size_of x t
unfolding size_of
fields_size zero t = omega arith
fields_size (suc x) t = rw eqb-suc-zero (ap₂ (λ (y i : ℕ). y * 2 ^ i) (add_comm t (2 ^ 52)) less)
  where
    less : suc x - 1 ≡ x
    less = omega arith

-- the places of the finite numbers: the field 2047 comes after them
unfoldable pub last : ℕ
last = 2047 * 2 ^ 52

module _ (b : ℕ) where
  field_is : field b ≡ b % 2 ^ 63 / 2 ^ 52
  field_is = and_mask (b / 2 ^ 52) 11 ∙ omega arith

  digits_are : digits b ≡ b % 2 ^ 63 % 2 ^ 52
  digits_are = and_mask b 52 ∙ omega arith

  pub pattern_row : b % 2 ^ 63 < last → HasValue (of_bits binary64 b) (sign_bit b) (row (b % 2 ^ 63)) (2 ^ 1074)
  unfolding row last
  pattern_row h =
      subst (λ (a : ℕ). HasValue (of_bits binary64 b) (sign_bit b) a (2 ^ 1074)) (fields_size (field b) (digits b) ∙ ap₂ size_of field_is digits_are) (pattern_value b (λ (q : field b ≡ 2047). omega (arith, h, q, field_is)))

  -- a pattern that stands for a finite number
  pub finite_row : (s : Bool) (m : ℕ) (e : ℤ) → IsFinite b s m e → (b % 2 ^ 63 < last) × (sign_bit b ≡ s) × (m * up e * 2 ^ 1074 ≡ row (b % 2 ^ 63) * down e)
  unfolding last
  finite_row s m e i = let h = inside (dec_lt (b % 2 ^ 63) (2047 * 2 ^ 52)) in (h, sym (value h).0, (value h).1)
    where
      bounded : (x : Float) → T (finite x) → Unbounded x → ⊥
      bounded nan t is_nan = t
      bounded (inf u) t is_inf = t
      bounded (fin _ _ _) t u = elim u [ ]

      inside : Dec (b % 2 ^ 63 < 2047 * 2 ^ 52) → b % 2 ^ 63 < 2047 * 2 ^ 52
      inside (yes h) = h
      inside (no f) = absurd (bounded (of_bits binary64 b) (subst (λ (x : Float). T (finite x)) (sym i.number) tt) (pattern_unbounded b (omega (arith, f, field_is))))

      value : b % 2 ^ 63 < 2047 * 2 ^ 52 → HasValue (fin s m e) (sign_bit b) (row (b % 2 ^ 63)) (2 ^ 1074)
      value h = subst (λ (x : Float). HasValue x (sign_bit b) (row (b % 2 ^ 63)) (2 ^ 1074)) i.number (pattern_row h)

-- ---- the pattern with the sign s and the rest v
abbrev pub signed : Bool → ℕ → ℕ
signed s v = cond s (2 ^ 63) 0 + v

module _ (v : ℕ) (short : v < 2 ^ 63) where
  pub rest_is : (s : Bool) → signed s v % 2 ^ 63 ≡ v
  rest_is true = omega (arith, short)
  rest_is false = omega (arith, short)

  pub sign_is : (s : Bool) → sign_bit (signed s v) ≡ s
  sign_is true = ap not (ne_eqb ((2 ^ 63 + v) / 2 ^ 63) 0 (λ q. omega (arith, q)))
  sign_is false = ap not (eq-eqb ((0 + v) / 2 ^ 63) 0 (omega (arith, short)))

pub last_digit : (s : Bool) (v : ℕ) → signed s v % 2 ≡ v % 2
last_digit true v = omega arith
last_digit false v = omega arith

pub joined : (b : ℕ) → b < 2 ^ 64 → signed (sign_bit b) (b % 2 ^ 63) ≡ b
joined b short = by (dec_le (2 ^ 63) b)
  where
    by : Dec (2 ^ 63 ≤ b) → signed (sign_bit b) (b % 2 ^ 63) ≡ b
    by (yes h) = rw (ne_eqb (b / 2 ^ 63) 0 (λ q. omega (arith, h, q))) (omega (arith, h, short))
    by (no f) = rw (eq-eqb (b / 2 ^ 63) 0 (omega (arith, f))) (omega (arith, f))

-- every place below the last, with either sign, is a finite number's
pub at_place : (s : Bool) (v : ℕ) → v < last → HasValue (of_bits binary64 (signed s v)) s (row v) (2 ^ 1074)
unfolding last
at_place s v h = subst₂ (λ (s' : Bool) (u : ℕ). HasValue (of_bits binary64 (signed s v)) s' (row u) (2 ^ 1074)) (sign_is v short s) (rest_is v short s) (pattern_row (signed s v) (subst (λ (u : ℕ). u < 2047 * 2 ^ 52) (sym (rest_is v short s)) h))
  where
    short : v < 2 ^ 63
    short = omega (arith, h)

pub record Stands (s : Bool) (v : ℕ) : Type 0 where
  pub m : ℕ
  pub e : ℤ
  pub is : IsFinite (signed s v) s m e
  pub size : m * up e * 2 ^ 1074 ≡ row v * down e

pub stands : (s : Bool) (v : ℕ) → v < last → Stands s v
unfolding last
stands s v h = by (of_bits binary64 (signed s v)) refl (at_place s v h)
  where
    long : (s : Bool) → signed s v < 2 ^ 64
    long true = omega (arith, h)
    long false = omega (arith, h)

    by : (x : Float) → of_bits binary64 (signed s v) ≡ x → HasValue x s (row v) (2 ^ 1074) → Stands s v
    by nan q k = absurd k
    by (inf t) q k = absurd k
    by (fin t m e) q k = record { m = m; e = e; is = record { pattern = long s; number = q ∙ ap (λ (t : Bool). fin t m e) k.0 }; size = k.1 }

-- ---- a power of two: the field j with no digits
pub power_pattern : (s : Bool) (j : ℕ) → 0 < j → j < 2047 → HasValue (of_bits binary64 (signed s (j * 2 ^ 52))) s (2 ^ j) (2 ^ 1023)
unfolding last
power_pattern s j some small = value_same (of_bits binary64 (signed s (j * 2 ^ 52))) s (row (j * 2 ^ 52)) (2 ^ 1074) (2 ^ j) (2 ^ 1023) (pow_pos 1074) same (at_place s (j * 2 ^ 52) (omega (arith, small)))
  where
    place : j * 2 ^ 52 ≡ (j - 1) * 2 ^ 52 + 2 ^ 52
    place = omega (arith, some)

    same : row (j * 2 ^ 52) * 2 ^ 1023 ≡ 2 ^ j * 2 ^ 1074
    same =
        ap (λ (a : ℕ). a * 2 ^ 1023) (ap row place ∙ row_at (j - 1) (2 ^ 52) (lit≤ tt) (lit≤ tt) ∙ pow_sum 52 (j - 1) (j + 51) (omega (arith, some)))
        ∙ pow_sum (j + 51) 1023 (j + 1074) (omega arith) ∙ sym (pow_sum j 1074 (j + 1074) refl)
