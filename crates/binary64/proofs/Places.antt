-- The nearest binary64 as a place in the row of patterns: the 53 leading digits, rounded, are at the nearest one; and the nearest of its own
-- sign is the nearest of all. Assumes nothing.
use mathlib.Core.Path.{◌≡◌, refl, sym, ap, ◌∙◌, subst, subst₂}
use mathlib.Core.Bool.{Bool, true, false}
use mathlib.Core.Logic.{◌⊎◌, inl, inr, ⊎_elim}
use Prim.Native.Nat.{ℕ, zero, suc, ◌+◌, ◌-◌, ◌*◌, ◌/◌, ◌%◌, ◌^◌, ◌≤◌, ◌<◌}
use native.Mathlib.Nat.{pos_of_ne-zero, zero-lt-suc, mod-lt, mul-one, suc-mul, le_trans, le_of_eq, le_of_lt, lt_of_lt_of_le, lt_of_le_of_lt, le-div_iff_mul-le, div-lt_iff_lt-mul}
use native.Mathlib.Omega.{arith}
use lib.Dec.{lit<}
use lib.Pow.{pow_pos, split}
use lib.Ieee.{size}
use lib.Ieee.Digits.{size-lt, size-le, size_reaches}
use lib.Ieee.Nearest.{closest}
use Rattle.bounds.proofs.Limits.{exponent_lt}
use Rattle.bounds.proofs.Powers.{pow_sum}
use Rattle.nearest.specs.Nearest.{distance}
use Rattle.nearest.proofs.Nearest.{NearestPlace, nearer_below, nearer_above, midway}
use Rattle.nearest.proofs.Gaps.{gap}
use Rattle.binary64.proofs.Closest.{Rounds, less, half, more, rounds}
use Rattle.binary64.proofs.Rows.{size_of, row, row_grows, row_at, last}

pub rising : (v u : ℕ) → 0 < v → v < u → u < last → row v < row u
rising v u p h r = row_grows v u h

-- ---- the place of a size A, counted in 2^-1074, of 53 digits and k more
module _ (A k : ℕ) (lo : 2 ^ 52 * 2 ^ k ≤ A) (hi : A < 2 ^ 53 * 2 ^ k) (room : k ≤ 2000) where
  abbrev W : ℕ
  W = A / 2 ^ k

  abbrev v : ℕ
  v = k * 2 ^ 52 + W

  least : 2 ^ 52 ≤ W
  least = (le-div_iff_mul-le (pow_pos k)).1 lo

  most : W < 2 ^ 53
  most = (div-lt_iff_lt-mul (pow_pos k)).1 hi

  parts : W * 2 ^ k + A % 2 ^ k ≡ A
  parts = split A k

  -- the two places beside it
  below : row v * 1 ≡ W * 2 ^ k
  below = mul-one (row v) ∙ row_at k W least (le_of_lt most)

  next : suc v ≡ k * 2 ^ 52 + suc W
  next = omega arith

  above : row (suc v) * 1 ≡ W * 2 ^ k + 2 ^ k
  above = mul-one (row (suc v)) ∙ ap row next ∙ row_at k (suc W) (omega (arith, least)) most ∙ suc-mul W (2 ^ k)

  pub rounded_place : NearestPlace row last A 1 (k * 2 ^ 52 + closest A (2 ^ k))
  unfolding last
  rounded_place = by (closest A (2 ^ k)) (rounds A (2 ^ k))
    where
      rest : A % 2 ^ k < 2 ^ k
      rest = mod-lt A (pow_pos k)

      first : 0 < v
      first = omega (arith, least)

      inside : suc v < 2047 * 2 ^ 52
      inside = omega (arith, most, room)

      low : row v * 1 ≤ A
      low = omega (arith, below, parts)

      high : A ≤ row (suc v) * 1
      high = omega (arith, above, parts, rest)

      by : (q : ℕ) → Rounds A (2 ^ k) q → NearestPlace row (2047 * 2 ^ 52) A 1 (k * 2 ^ 52 + q)
      by q (less h e) = subst (NearestPlace row (2047 * 2 ^ 52) A 1) (ap (λ (x : ℕ). k * 2 ^ 52 + x) (sym e)) (nearer_below row (2047 * 2 ^ 52) A 1 rising (zero-lt-suc 0) v first inside low high (omega (arith, h, parts, below, above)))
      by q (half h e) = subst (NearestPlace row (2047 * 2 ^ 52) A 1) (omega (arith, e)) (midway row (2047 * 2 ^ 52) A 1 rising (zero-lt-suc 0) v first inside low high (omega (arith, h, parts, below, above)))
      by q (more h e) = subst (NearestPlace row (2047 * 2 ^ 52) A 1) (omega (arith, e)) (nearer_above row (2047 * 2 ^ 52) A 1 rising (zero-lt-suc 0) v first inside low high (omega (arith, h, parts, below, above)))

-- ---- from the places of its own sign to all finite numbers
module _ (A v : ℕ) (some : 0 < A) (x : NearestPlace row last A 1 v) where
  nearer : (u : ℕ) → 0 < u → u < last → distance A (row v) ≤ distance A (row u)
  nearer u p r = subst₂ (λ (i j : ℕ). distance A i ≤ distance A j) (mul-one (row v)) (mul-one (row u)) (x.nearest u p r)

  -- zero is not the nearest
  close : distance A (row v) < A
  unfolding distance row size_of last
  close = omega (arith, nearer 1 (lit< tt) (lit< tt), some)

  agree : (u : ℕ) → u < last → distance A (row v) ≤ distance A (row u)
  unfolding distance row size_of
  agree zero r = omega (arith, close)
  agree (suc u) r = nearer (suc u) (zero-lt-suc u) r

  pub near_le : (t s : Bool) (u : ℕ) → u < last → gap t A t (row v) ≤ gap t A s (row u)
  unfolding gap
  near_le false false u r = agree u r
  near_le false true u r = omega (arith, close)
  near_le true false u r = omega (arith, close)
  near_le true true u r = agree u r

  tie : (u : ℕ) → u < last → distance A (row v) ≡ distance A (row u) → (u ≡ v) ⊎ (v % 2 ≡ 0)
  unfolding distance row size_of
  tie zero r q = absurd (omega (arith, close, q))
  tie (suc u) r q = x.even (suc u) (zero-lt-suc u) r (ap (distance A) (mul-one (row v)) ∙ q ∙ ap (distance A) (sym (mul-one (row (suc u)))))

  pub near_even : (t s : Bool) (u : ℕ) → u < last → gap t A t (row v) ≡ gap t A s (row u) → ((s ≡ t) × (u ≡ v)) ⊎ (v % 2 ≡ 0)
  unfolding gap
  near_even false false u r q = ⊎_elim (λ (e : u ≡ v). inl (refl, e)) inr (tie u r q)
  near_even false true u r q = absurd (omega (arith, close, q))
  near_even true false u r q = absurd (omega (arith, close, q))
  near_even true true u r q = ⊎_elim (λ (e : u ≡ v). inl (refl, e)) inr (tie u r q)

-- ---- and back: what is nearest among the numbers of its own sign is the nearest place
own_sign : (t : Bool) (A x : ℕ) → gap t A t x ≡ distance A x
unfolding gap
own_sign true A x = refl
own_sign false A x = refl

module _ (t : Bool) (A v : ℕ) where
  pub place_of : 0 < A → v < last → ((u : ℕ) → u < last → gap t A t (row v) ≤ gap t A t (row u)) → ((u : ℕ) → u < last → gap t A t (row v) ≡ gap t A t (row u) → (u ≡ v) ⊎ (v % 2 ≡ 0)) → NearestPlace row last A 1 v
  place_of some inside near tie =
      record {
        first = pos_of_ne-zero not_zero;
        last = inside;
        nearest = λ u p r. subst₂ (λ (i j : ℕ). i ≤ j) (plain v) (plain u) (near u r);
        even = λ u p r q. tie u r (plain v ∙ q ∙ sym (plain u));
      }
    where
      plain : (u : ℕ) → gap t A t (row u) ≡ distance A (row u * 1)
      plain u = own_sign t A (row u) ∙ ap (distance A) (sym (mul-one (row u)))

      not_zero : v ≡ 0 → ⊥
      not_zero q = unfold distance row size_of last in omega (arith, some, subst₂ (λ (i j : ℕ). i ≤ j) (ap (λ (v : ℕ). gap t A t (row v)) q ∙ own_sign t A (row 0)) (own_sign t A (row 1)) (near 1 (lit< tt)))

-- zero is the nearest to zero
pub zero_place : (t : Bool) (v : ℕ) → gap t 0 t (row v) ≤ gap t 0 t (row 0) → v ≡ 0
zero_place t zero h = refl
zero_place t (suc v) h = absurd (unfold distance row size_of in omega (arith, row_grows 0 (suc v) (zero-lt-suc v), subst₂ (λ (i j : ℕ). i ≤ j) (own_sign t 0 (row (suc v))) (own_sign t 0 (row 0)) h))

-- ---- how many digits a size has beyond 53, where it is that of a word
pub digits : (A : ℕ) → 2 ^ 767 ≤ A → A < 2 ^ 1329 → (k : ℕ) × (2 ^ 52 * 2 ^ k ≤ A) × (A < 2 ^ 53 * 2 ^ k) × (k ≤ 2000)
digits A lo hi = (
  k,
  le_trans (le_of_eq (pow_sum 52 k (52 + k) refl)) (size_reaches A (52 + k) (omega (arith, long))),
  lt_of_lt_of_le (size-lt A) (le_of_eq (sym (pow_sum 53 k (size A) (omega (arith, long))))),
  omega (arith, size-le A 1329 hi),
)
  where
    k : ℕ
    k = size A - 53

    long : 767 < size A
    long = exponent_lt 767 (size A) (lt_of_le_of_lt lo (size-lt A))
