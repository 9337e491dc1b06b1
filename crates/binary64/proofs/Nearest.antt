-- `round` gives the nearest binary64, ties to even, and no other number is that. Assumes nothing.
use mathlib.Core.Path.{◌≡◌, refl, sym, ap, ap₂, ◌∙◌, subst}
use mathlib.Core.Bool.{Bool}
use mathlib.Core.Logic.{◌⊎◌, inl, inr, ⊎_elim}
use Prim.Native.Nat.{ℕ, zero, suc, ◌+◌, ◌*◌, ◌%◌, ◌^◌, ◌≤◌, ◌<◌, zero-le}
use native.Mathlib.Nat.{zero-lt-suc, zero-mul, one-mul, eq-zero-or-pos, mul_assoc, mul-pos, mul-le-mul_right, le_trans, le_of_eq, le_antisymm}
use native.Mathlib.Omega.{arith}
use lib.Dec.{lit<}
use lib.IntN.{ℤ, pos, negsuc, nat_abs}
use lib.Pow.{pow_pos}
use lib.Ieee.{Float, binary64, up, down, round, of_bits}
use lib.Ieee.Bits.{of_bits-fits}
use lib.Ieee.Exact.{HasValue}
use lib.Ieee.Fits.{round-fits}
use lib.Ieee.Nearest.{closest}
use Rattle.bounds.proofs.Powers.{pow_sum, shl_below}
use Rattle.word.specs.Reads.{signed_size}
use Rattle.word.specs.Takum.{real, takum}
use Rattle.word.proofs.Values.{value_below}
use Rattle.write.specs.Writes.{is_negative}
use Rattle.nearest.proofs.Nearest.{NearestPlace, place_one}
use Rattle.nearest.proofs.Gaps.{gap}
use Rattle.binary64.specs.declared.taking.Binary64.{Binary64}
use Rattle.binary64.specs.Takes.{TakesBinary64}
use Rattle.binary64.specs.Nearest.{IsFinite, apart, NearestBinary64}
use Rattle.binary64.proofs.Closest.{closest_range}
use Rattle.binary64.proofs.Gaps.{apart_le, gap_le}
use Rattle.binary64.proofs.Held.{value_one}
use Rattle.binary64.proofs.Leading.{rounded_size}
use Rattle.binary64.proofs.Patterns.{sign_bit}
use Rattle.binary64.proofs.Places.{rising, rounded_place, near_le, near_even, place_of, zero_place, digits}
use Rattle.binary64.proofs.Taken.{taken}
use Rattle.binary64.proofs.Rows.{row, row_at, last, signed, rest_is, joined, last_digit, at_place, Stands, stands, finite_row}

-- ---- the property, by the place
module _ (z : ℤ) where
  abbrev t : Bool
  t = is_negative z

  abbrev A : ℕ
  A = nat_abs z * 2 ^ 767

  place_nearest : (v : ℕ) → 0 < nat_abs z → NearestPlace row last A 1 v → NearestBinary64 z (of_bits binary64 (signed t v))
  place_nearest v some x =
      record {
        b = signed t v;
        m = own.m;
        e = own.e;
        is = own.is;
        same = refl;
        nearest = λ b' s m' e' i. let f = finite_row b' s m' e' i in apart_le z t own.m own.e (row v) own.size s m' e' (row (b' % 2 ^ 63)) f.2 (near_le A v great x t s (b' % 2 ^ 63) f.0);
        even = even;
      }
    where
      great : 0 < A
      great = mul-pos some (pow_pos 767)

      own : Stands t v
      own = stands t v x.last

      even : (b' : ℕ) (s : Bool) (m' : ℕ) (e' : ℤ) → IsFinite b' s m' e' → apart z t own.m own.e * down e' ≡ apart z s m' e' * down own.e → (b' ≡ signed t v) ⊎ (signed t v % 2 ≡ 0)
      even b' s m' e' i q =
          let f = finite_row b' s m' e' i in
          let r = row (b' % 2 ^ 63) in
          let tie = le_antisymm (gap_le z t own.m own.e (row v) own.size s m' e' r f.2 (le_of_eq q)) (gap_le z s m' e' r f.2 t own.m own.e (row v) own.size (le_of_eq (sym q))) in
          ⊎_elim (λ y. inl (sym (joined b' i.pattern) ∙ ap₂ signed (f.1 ∙ y.0) y.1)) (λ y. inr (last_digit t v ∙ y)) (near_even A v great x t s (b' % 2 ^ 63) f.0 tie)

  -- ---- and back
  module _ (x : Float) (n : NearestBinary64 z x) where
    abbrev v : ℕ
    v = n.b % 2 ^ 63

    own_row : (v < last) × (sign_bit n.b ≡ t) × (n.m * up n.e * 2 ^ 1074 ≡ row v * down n.e)
    own_row = finite_row n.b t n.m n.e n.is

    pattern_is : n.b ≡ signed t v
    pattern_is = sym (joined n.b n.is.pattern) ∙ ap (λ (s : Bool). signed s v) own_row.1

    nearer_than : (u : ℕ) → u < last → gap t A t (row v) ≤ gap t A t (row u)
    nearer_than u h = let y = stands t u h in gap_le z t n.m n.e (row v) own_row.2 t y.m y.e (row u) y.size (n.nearest (signed t u) t y.m y.e y.is)

    same_as : (u : ℕ) → u < last → gap t A t (row v) ≡ gap t A t (row u) → (u ≡ v) ⊎ (v % 2 ≡ 0)
    same_as u h q =
        let y = stands t u h in
        let tie = le_antisymm (apart_le z t n.m n.e (row v) own_row.2 t y.m y.e (row u) y.size (le_of_eq q)) (apart_le z t y.m y.e (row u) y.size t n.m n.e (row v) own_row.2 (le_of_eq (sym q))) in
        ⊎_elim (λ (e : signed t u ≡ n.b). inl (sym (rest_is u (short u h) t) ∙ ap (λ (b : ℕ). b % 2 ^ 63) e)) (λ (e : n.b % 2 ≡ 0). inr (sym (last_digit t v) ∙ ap (λ (b : ℕ). b % 2) (sym pattern_is) ∙ e)) (n.even (signed t u) t y.m y.e y.is tie)
      where
        short : (u : ℕ) → u < last → u < 2 ^ 63
        short u h = unfold last in omega (arith, h)

    its_place : 0 < nat_abs z → NearestPlace row last A 1 v
    its_place some = place_of t A v (mul-pos some (pow_pos 767)) own_row.0 nearer_than same_as

    at_zero : nat_abs z ≡ 0 → v ≡ 0
    at_zero q = zero_place t v (subst (λ (i : ℕ). gap t i t (row v) ≤ gap t i t (row 0)) (ap (λ (i : ℕ). i * 2 ^ 767) q ∙ zero-mul (2 ^ 767)) (nearer_than 0 (unfold last in lit< tt)))

  pub nearest_one : (x y : Float) → NearestBinary64 z x → NearestBinary64 z y → x ≡ y
  nearest_one x y n n' = n.same ∙ ap (of_bits binary64) (pattern_is x n ∙ ap (signed t) (by (eq-zero-or-pos (nat_abs z))) ∙ sym (pattern_is y n')) ∙ sym n'.same
    where
      by : (nat_abs z ≡ 0) ⊎ (0 < nat_abs z) → v x n ≡ v y n'
      by (inl q) = at_zero x n q ∙ sym (at_zero y n' q)
      by (inr h) = place_one row last A 1 rising (zero-lt-suc 0) (v x n) (v y n') (its_place x n h) (its_place y n' h)

  -- ---- `round`
  other_rounded : 0 < nat_abs z → nat_abs z < 2 ^ 562 → NearestBinary64 z (round binary64 t (nat_abs z) (2 ^ 307))
  other_rounded some small = subst (NearestBinary64 z) it (place_nearest w some place)
    where
      whole : nat_abs z * 2 ^ 1074 ≡ A * 2 ^ 307
      whole = ap (λ (y : ℕ). nat_abs z * y) (sym (pow_sum 767 307 1074 refl)) ∙ sym (mul_assoc (nat_abs z) (2 ^ 767) (2 ^ 307))

      d : (k : ℕ) × (2 ^ 52 * 2 ^ k ≤ A) × (A < 2 ^ 53 * 2 ^ k) × (k ≤ 2000)
      d = digits A (le_trans (le_of_eq (sym (one-mul (2 ^ 767)))) (mul-le-mul_right (2 ^ 767) some)) (shl_below 562 767 1329 small refl)

      q : ℕ
      q = closest A (2 ^ d.0)

      range : (2 ^ 52 ≤ q) × (q ≤ 2 ^ 53)
      range = closest_range A (2 ^ d.0) (pow_pos d.0) d.1 d.2

      w : ℕ
      w = d.0 * 2 ^ 52 + q

      place : NearestPlace row last A 1 w
      place = rounded_place A d.0 d.1 d.2 d.3

      it : of_bits binary64 (signed t w) ≡ round binary64 t (nat_abs z) (2 ^ 307)
      it =
          value_one binary64 (of_bits binary64 (signed t w)) (round binary64 t (nat_abs z) (2 ^ 307)) t (q * 2 ^ d.0) (2 ^ 1074) (pow_pos 1074) (of_bits-fits binary64 (signed t w)) (round-fits binary64 t (nat_abs z) (2 ^ 307))
          (subst (λ (a : ℕ). HasValue (of_bits binary64 (signed t w)) t a (2 ^ 1074)) (row_at d.0 q range.0 range.1) (at_place t w place.last)) (rounded_size t (nat_abs z) (2 ^ 307) A d.0 (pow_pos 307) whole d.1 d.2 d.3)

nearest_rounded : (z : ℤ) → nat_abs z < 2 ^ 562 → NearestBinary64 z (round binary64 (is_negative z) (nat_abs z) (2 ^ 307))
unfolding of_bits round is_negative apart signed_size
nearest_rounded (pos zero) small =
    record { b = 0; m = 0; e = pos 0; is = record { pattern = lit< tt; number = refl }; same = refl; nearest = λ b' s m' e' i. le_trans (le_of_eq (zero-mul (down e'))) zero-le; even = λ b' s m' e' i q. inr refl }
nearest_rounded (pos (suc i)) small = other_rounded (pos (suc i)) (zero-lt-suc i) small
nearest_rounded (negsuc i) small = other_rounded (negsuc i) (zero-lt-suc i) small

-- ---- what is taken out
pub taken_nearest : (n w : ℕ) (x : Float) → TakesBinary64 n w (Binary64.Number x) → (z : ℤ) × (takum n w ≡ real z) × NearestBinary64 z x
taken_nearest n w x y =
    let t = taken n w x y in
    (t.z, t.means, subst (NearestBinary64 t.z) (sym t.is) (nearest_rounded t.z (value_below n w t.z t.word t.means)))
