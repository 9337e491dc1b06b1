-- What a binary64 bit pattern stands for, by the fields that the code cuts out of it: the sign, the exponent's field and the digits. Assumes nothing.
use mathlib.Core.Path.{◌≡◌, sym, ap, ◌∙◌, subst, subst₂}
use mathlib.Core.Bool.{Bool, true, false, not, cond}
use Prim.Native.Nat.{ℕ, zero, suc, ◌+◌, ◌-◌, ◌*◌, ◌/◌, ◌%◌, ◌^◌, ◌≤◌, ◌<◌}
use native.Mathlib.Nat.{add_comm, add-zero}
use native.Mathlib.Decide.{dec_le}
use native.Mathlib.Omega.{arith}
use borrow.Author.Tests.{ne_eqb, eq-eqb, le-leb, lt-leb}
use lib.Bits.{bit_and, and_mask}
use lib.Dec.{leb, eqb, eqb-suc-zero}
use lib.Ieee.{Float, nan, inf, binary64, odd, of_fields, of_bits}
use lib.Ieee.Exact.{HasValue, odd_sign}

abbrev pub sign_bit : ℕ → Bool
sign_bit b = not (eqb (b / 2 ^ 63) 0)

abbrev pub field : ℕ → ℕ
field b = bit_and (b / 2 ^ 52) (2 ^ 11 - 1)

abbrev pub digits : ℕ → ℕ
digits b = bit_and b (2 ^ 52 - 1)

-- the leading digit, which a field of 0 has not
abbrev pub lead : ℕ → ℕ
lead x = cond (eqb x 0) 0 1

pub lead_small : (x : ℕ) → (lead x ≤ 1) × (lead x ≤ x)
lead_small zero = (omega arith, omega arith)
lead_small (suc x) = rw eqb-suc-zero (omega arith, omega arith)

-- ---- the kit reads the same fields
sign_is : (b : ℕ) → leb (2 ^ 63) b ≡ sign_bit b
sign_is b = by (dec_le (2 ^ 63) b)
  where
    by : Dec (2 ^ 63 ≤ b) → leb (2 ^ 63) b ≡ sign_bit b
    by (yes h) = le-leb (2 ^ 63) b h ∙ sym (ap not (ne_eqb (b / 2 ^ 63) 0 (λ q. omega (arith, h, q))))
    by (no f) = lt-leb (2 ^ 63) b below ∙ sym (ap not (eq-eqb (b / 2 ^ 63) 0 (omega (arith, below))))
      where
        below : b < 2 ^ 63
        below = omega (arith, f)

fields_are : (b : ℕ) → of_bits binary64 b ≡ of_fields binary64 (sign_bit b) (field b) (digits b)
unfolding of_bits
fields_are b =
    ap (λ (s : Bool). of_fields binary64 s (b % 2 ^ 63 / 2 ^ 52) (b % 2 ^ 52)) (sign_is b)
    ∙ ap (λ (x : ℕ). of_fields binary64 (sign_bit b) x (b % 2 ^ 52)) (cut ∙ sym (and_mask (b / 2 ^ 52) 11))
    ∙ ap (of_fields binary64 (sign_bit b) (field b)) (sym (and_mask b 52))
  where
    cut : b % 2 ^ 63 / 2 ^ 52 ≡ b / 2 ^ 52 % 2 ^ 11
    cut = omega arith

-- ---- a field below 2047 is a number's, and 2047 an infinity's or a NaN's
finite_fields : (s : Bool) (x t : ℕ) → (x ≡ 2047 → ⊥) → HasValue (of_fields binary64 s x t) s ((t + lead x * 2 ^ 52) * 2 ^ (x - lead x)) (2 ^ 1074)
unfolding of_fields
finite_fields s zero t h = subst (λ (q : ℕ). HasValue (odd 53 s t 0 1074) s (q * 2 ^ 0) (2 ^ 1074)) (sym (add-zero t)) (odd_sign 53 s t 0 1074)
finite_fields s (suc x) t h =
    rw (ne_eqb (suc x) 2047 h, eqb-suc-zero) (subst₂ (λ (q i : ℕ). HasValue (odd 53 s (2 ^ 52 + t) x 1074) s (q * 2 ^ i) (2 ^ 1074)) (add_comm (2 ^ 52) t) less (odd_sign 53 s (2 ^ 52 + t) x 1074))
  where
    less : x ≡ suc x - 1
    less = omega arith

pub data Unbounded : Float → Type 0 where
  is_nan : Unbounded nan
  is_inf : {s : Bool} → Unbounded (inf s)

last_field : (s : Bool) (x t : ℕ) → x ≡ 2047 → Unbounded (of_fields binary64 s x t)
unfolding of_fields
last_field s zero t q = absurd (omega (arith, q))
last_field s (suc x) t q = rw (eq-eqb (suc x) 2047 q) (by (eqb t 0))
  where
    by : (b : Bool) → Unbounded (cond b (inf s) nan)
    by true = is_inf
    by false = is_nan

pub pattern_value : (b : ℕ) → (field b ≡ 2047 → ⊥) → HasValue (of_bits binary64 b) (sign_bit b) ((digits b + lead (field b) * 2 ^ 52) * 2 ^ (field b - lead (field b))) (2 ^ 1074)
pattern_value b h = subst (λ (x : Float). HasValue x (sign_bit b) ((digits b + lead (field b) * 2 ^ 52) * 2 ^ (field b - lead (field b))) (2 ^ 1074)) (sym (fields_are b)) (finite_fields (sign_bit b) (field b) (digits b) h)

pub pattern_unbounded : (b : ℕ) → field b ≡ 2047 → Unbounded (of_bits binary64 b)
pattern_unbounded b h = subst Unbounded (sym (fields_are b)) (last_field (sign_bit b) (field b) (digits b) h)
