-- The nearest whole number to a fraction, a tie to the even one: by its remainder, and as the code gets it from a significand. Assumes nothing.
use mathlib.Core.Path.{◌≡◌, refl, subst}
use mathlib.Core.Bool.{not}
use Prim.Native.Nat.{ℕ, suc, ◌+◌, ◌-◌, ◌*◌, ◌/◌, ◌%◌, ◌^◌, ◌≤◌, ◌<◌, compare, Ordering}
use native.Mathlib.Nat.{le_trans, le-div_iff_mul-le, div-lt_iff_lt-mul}
use native.Mathlib.Omega.{arith}
use lib.Arith.{lt_of_le-ne}
use lib.Dec.{T, is_le, compare_is_eq, eqb, leb→le, nleb→lt, eqb→eq, eqb_refl}
use lib.Ieee.{nearest}
use lib.Ieee.Fits.{nearest-le}
use lib.Ieee.Nearest.{closest, nearest-ge}

-- q is a / b rounded
pub data Rounds (a b q : ℕ) : Type 0 where
  less : a % b * 2 < b → q ≡ a / b → Rounds a b q
  half : a % b * 2 ≡ b → q ≡ a / b + a / b % 2 → Rounds a b q
  more : b < a % b * 2 → q ≡ suc (a / b) → Rounds a b q

pub rounds : (a b : ℕ) → Rounds a b (closest a b)
rounds a b = by (compare x b) (leb→le x b) (nleb→lt x b) (eqb→eq x b) (λ (e : x ≡ b). subst (λ (y : ℕ). T (eqb x y)) e (eqb_refl x))
  where
    x : ℕ
    x = a % b * 2

    by : (o : Ordering) → (T (is_le o) → x ≤ b) → (T (not (is_le o)) → b < x) → (T (compare_is_eq o) → x ≡ b) → (x ≡ b → T (compare_is_eq o)) → Rounds a b (nearest (a / b) o)
    by Ordering.lt h k e n = less (lt_of_le-ne (h tt) n) refl
    by Ordering.eq h k e n = half (e tt) refl
    by Ordering.gt h k e n = more (k tt) refl

-- a significand without its lowest eleven digits, by its digits after the leading one
pub cut_rounded : (m : ℕ) → 2 ^ 63 ≤ m → 2 ^ 52 + (m - 2 ^ 63 + (1023 + (m - 2 ^ 63) / 2 ^ 11 % 2)) / 2 ^ 11 ≡ closest m (2 ^ 11)
cut_rounded m long = by (closest m (2 ^ 11)) (rounds m (2 ^ 11))
  where
    d : ℕ
    d = m - 2 ^ 63

    whole : m / 2 ^ 11 ≡ 2 ^ 52 + d / 2 ^ 11
    whole = omega (arith, long)

    rest : m % 2 ^ 11 ≡ d % 2 ^ 11
    rest = omega (arith, long)

    last : m / 2 ^ 11 % 2 ≡ d / 2 ^ 11 % 2
    last = omega (arith, whole)

    by : (q : ℕ) → Rounds m (2 ^ 11) q → 2 ^ 52 + (d + (1023 + d / 2 ^ 11 % 2)) / 2 ^ 11 ≡ q
    by q (less h e) = omega (arith, whole, rest, h, e)
    by q (half h e) = omega (arith, whole, rest, last, h, e)
    by q (more h e) = omega (arith, whole, rest, h, e)

-- of a fraction whose whole part has 53 digits as many are left, or 2^53
pub closest_range : (a b : ℕ) → 0 < b → 2 ^ 52 * b ≤ a → a < 2 ^ 53 * b → (2 ^ 52 ≤ closest a b) × (closest a b ≤ 2 ^ 53)
closest_range a b some lo hi =
    let o = compare (a % b * 2) b in
    (le_trans ((le-div_iff_mul-le some).1 lo) (nearest-ge (a / b) o), le_trans (nearest-le (a / b) o) ((div-lt_iff_lt-mul some).1 hi))
