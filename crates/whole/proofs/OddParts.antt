-- Trailing zeros are the greatest power of two that divides a number, and what is left of it is odd. Assumes nothing.
use mathlib.Core.Path.{◌≡◌, refl, sym, ap, ◌∙◌, subst}
use Prim.Native.Nat.{ℕ, zero, suc, ◌+◌, ◌-◌, ◌*◌, ◌/◌, ◌%◌, ◌^◌, ◌≤◌, ◌<◌}
use native.Mathlib.Nat.{le_antisymm, le_of_suc-le-suc, le_trans, lt_of_le_of_lt, mul-one, mul-mod_left, mul-sub, mul-le-mul_right, two-pow-succ, mod-lt, zero-lt-suc}
use native.Mathlib.Omega.{arith}
use lib.Count.{count_trailing_zeros, under}
use lib.Pow.{split, pow_pos}
use Rattle.bounds.proofs.Powers.{pow_sum}
use Rattle.bounds.proofs.Limits.{below_power, exponent_lt}
use Rattle.whole.specs.Lengths.{IsLog, IsMax, N0, UpTo}
use Rattle.whole.proofs.LimitBeyond.{odd_units}

-- a is q * 2^i with an odd q
pub record OddPart (a i : ℕ) : Type 0 where
  pub q : ℕ
  pub is : a ≡ q * 2 ^ i
  pub odd : q % 2 ≡ 1

-- so it is at least 2^i
pub odd_part_from : (a i : ℕ) → OddPart a i → 2 ^ i ≤ a
odd_part_from a i x = omega (arith, x.is, mul-le-mul_right {m = 1} {n = x.q} (2 ^ i) (some x.q x.odd))
  where
    some : (q : ℕ) → q % 2 ≡ 1 → 1 ≤ q
    some q odd = omega (arith, odd)

-- what 2^i divides is a multiple of it
multiple : (a i : ℕ) → a % 2 ^ i ≡ 0 → a ≡ a / 2 ^ i * 2 ^ i
multiple a i h = omega (arith, split a i, h)

-- ---- trailing zeros leave an odd number
digit : (k a d : ℕ) → a % 2 ≡ d → (a % 2 ≡ 0 → OddPart (a / 2) (count_trailing_zeros k (a / 2))) → OddPart a (under d (count_trailing_zeros k (a / 2)))
digit k a zero even rest =
    let t = rest even in
    record { q = t.q; is = omega (arith, even, t.is, ap (λ (x : ℕ). t.q * x) (two-pow-succ (count_trailing_zeros k (a / 2)))); odd = t.odd }
digit k a (suc d) odd rest = record { q = a; is = sym (mul-one a); odd = omega (arith, odd, mod-lt a (zero-lt-suc 1)) }

pub trailing_odd : (k a : ℕ) → zero < a → a < 2 ^ k → OddPart a (count_trailing_zeros k a)
unfolding count_trailing_zeros
trailing_odd zero a some fits = absurd (omega (arith, some, fits))
trailing_odd (suc k) a some fits = digit k a (a % 2) refl (λ even. trailing_odd k (a / 2) (omega (arith, some, even)) (omega (arith, fits, two-pow-succ k)))

-- ---- and are the greatest of the exponents that divide it
pub greatest_of_all : (a i : ℕ) → OddPart a i → IsMax N0 a i
unfolding N0
greatest_of_all a i x = record {
  in_range = tt;
  divides = ap (λ (y : ℕ). y % 2 ^ i) x.is ∙ mul-mod_left x.q (2 ^ i);
  greatest = λ j r h. odd_units (a / 2 ^ j) x.q j i x.odd (sym (multiple a j h) ∙ x.is);
}

-- Up to b, the greatest for a number below 2^b is that of the number and 2^b together. So it is b at most, and of 0 it is b.
pub greatest_up_to : (b a i : ℕ) → a < 2 ^ b → OddPart (2 ^ b + a) i → IsMax (UpTo b) a i
unfolding UpTo
greatest_up_to b a i small x = record {
  in_range = most;
  divides = omega (arith, ap (λ (y : ℕ). y % 2 ^ i) rest, mul-mod_left (x.q - 2 ^ (b - i)) (2 ^ i));
  greatest = λ j r h. odd_units (2 ^ (b - j) + a / 2 ^ j) x.q j i x.odd (whole j r h ∙ x.is);
}
  where
    most : i ≤ b
    most = le_of_suc-le-suc (exponent_lt i (suc b) (lt_of_le_of_lt (odd_part_from (2 ^ b + a) i x) (omega (arith, small, two-pow-succ b))))

    whole : (j : ℕ) → j ≤ b → a % 2 ^ j ≡ 0 → (2 ^ (b - j) + a / 2 ^ j) * 2 ^ j ≡ 2 ^ b + a
    whole j r h = omega (arith, multiple a j h, pow_sum (b - j) j b (omega (arith, r)))

    rest : a ≡ (x.q - 2 ^ (b - i)) * 2 ^ i
    rest = omega (arith, x.is, pow_sum (b - i) i b (omega (arith, most)), mul-sub (2 ^ i) x.q (2 ^ (b - i)))

-- there is one greatest
pub one_greatest : (Range : ℕ → Type 0) (a i j : ℕ) → IsMax Range a i → IsMax Range a j → i ≡ j
one_greatest Range a i j x y = le_antisymm (y.greatest i x.in_range x.divides) (x.greatest j y.in_range y.divides)

-- so the greatest leaves an odd number
pub odd_of_all : (a i : ℕ) → zero < a → IsMax N0 a i → OddPart a i
odd_of_all a i some x =
    let t = trailing_odd a a some (below_power a) in
    subst (OddPart a) (one_greatest N0 a (count_trailing_zeros a a) i (greatest_of_all a (count_trailing_zeros a a) t) x) t

pub odd_up_to : (b a i : ℕ) → a < 2 ^ b → IsMax (UpTo b) a i → OddPart (2 ^ b + a) i
odd_up_to b a i small x =
    let whole = 2 ^ b + a in
    let t = trailing_odd whole whole (omega (arith, pow_pos b)) (below_power whole) in
    subst (OddPart whole) (one_greatest (UpTo b) a (count_trailing_zeros whole whole) i (greatest_up_to b a (count_trailing_zeros whole whole) small t) x) t

-- ---- as the machine counts them
-- v - 2^log ends in as many zeros as v, and where it is 0, v ends in log of them
pub first_zeros : (v log : ℕ) → IsLog v log → v < 2 ^ 32 → IsMax (UpTo log) (v - 2 ^ log) (count_trailing_zeros 32 v)
first_zeros v log x fits = greatest_up_to log (v - 2 ^ log) (count_trailing_zeros 32 v) (omega (arith, x.low, x.high, pow_sum log 1 (log + 1) refl)) (subst (λ (a : ℕ). OddPart a (count_trailing_zeros 32 v)) (omega (arith, x.low)) (trailing_odd 32 v (le_trans (pow_pos log) x.low) fits))

-- and so do a number below 8 and 8 more than it
pub last_zeros : (log : ℕ) → log < 8 → IsMax (UpTo 3) log (count_trailing_zeros 32 (8 + log))
last_zeros log small = greatest_up_to 3 log (count_trailing_zeros 32 (8 + log)) small (trailing_odd 32 (8 + log) (omega arith) (omega (arith, small)))
