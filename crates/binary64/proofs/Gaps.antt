-- `apart`, the distance of a value from a binary64 number, as the gap of their sizes. Assumes nothing.
use mathlib.Core.Path.{◌≡◌, refl, sym, ap, ap₂, ◌∙◌}
use mathlib.Core.Bool.{Bool, true, false}
use mathlib.Core.Logic.{◌⊎◌, inl, inr}
use Prim.Native.Nat.{ℕ, ◌-◌, ◌*◌, ◌^◌, ◌≤◌}
use native.Mathlib.Nat.{add-mul, mul-sub, mul_comm, mul_assoc, mul_right_comm, mul-le-mul_right, le_of_mul-le-mul_right}
use lib.IntN.{ℤ, pos, negsuc, nat_abs, ◌-ℤ◌, ◌*ℤ◌}
use lib.Pow.{pow_pos}
use lib.Ieee.{up, down}
use lib.Ieee.Fits.{down_pos}
use lib.Ieee.Order.{transfer}
use Rattle.bounds.proofs.Powers.{pow_sum}
use Rattle.word.specs.Reads.{signed_size}
use Rattle.write.specs.Writes.{is_negative}
use Rattle.nearest.specs.Nearest.{distance}
use Rattle.nearest.proofs.Nearest.{distance_below, distance_above, either_side}
use Rattle.nearest.proofs.Gaps.{gap, difference_size}
use Rattle.binary64.specs.Nearest.{apart}

times : (z : ℤ) (d : ℕ) → z *ℤ pos d ≡ signed_size (is_negative z) (nat_abs z * d)
unfolding signed_size is_negative
times (pos i) d = refl
times (negsuc i) d = refl

-- ---- a factor comes out
distance_times : (x y d : ℕ) → distance (x * d) (y * d) ≡ distance x y * d
distance_times x y d = by (either_side x y)
  where
    out : (a b : ℕ) → a * d - b * d ≡ (a - b) * d
    out a b = ap₂ (λ (i j : ℕ). i - j) (mul_comm a d) (mul_comm b d) ∙ sym (mul-sub d a b) ∙ mul_comm d (a - b)

    by : (y ≤ x) ⊎ (x ≤ y) → distance (x * d) (y * d) ≡ distance x y * d
    by (inl h) = distance_below (x * d) (y * d) (mul-le-mul_right d h) ∙ out x y ∙ ap (λ (z : ℕ). z * d) (sym (distance_below x y h))
    by (inr h) = distance_above (x * d) (y * d) (mul-le-mul_right d h) ∙ out y x ∙ ap (λ (z : ℕ). z * d) (sym (distance_above x y h))

gap_times : (t : Bool) (x : ℕ) (s : Bool) (y d : ℕ) → gap t (x * d) s (y * d) ≡ gap t x s y * d
unfolding gap
gap_times false x false y d = distance_times x y d
gap_times false x true y d = sym (add-mul x y d)
gap_times true x false y d = sym (add-mul x y d)
gap_times true x true y d = distance_times x y d

-- ---- `apart`, counted in 2^-1074 as the sizes of binary64 numbers are: r is the size of m * 2^e there
apart_is : (z : ℤ) (s : Bool) (m : ℕ) (e : ℤ) (r : ℕ) → m * up e * 2 ^ 1074 ≡ r * down e → apart z s m e * 2 ^ 767 ≡ gap (is_negative z) (nat_abs z * 2 ^ 767) s r * down e
unfolding apart
apart_is z s m e r q =
    ap (λ (a : ℕ). a * 2 ^ 767) (ap (λ (y : ℤ). nat_abs (y -ℤ signed_size s (m * up e * 2 ^ 307))) (times z (down e)) ∙ difference_size (is_negative z) (nat_abs z * down e) s (m * up e * 2 ^ 307))
    ∙ sym (gap_times (is_negative z) (nat_abs z * down e) s (m * up e * 2 ^ 307) (2 ^ 767))
    ∙ ap₂ (λ (x y : ℕ). gap (is_negative z) x s y) (mul_right_comm (nat_abs z) (down e) (2 ^ 767)) (mul_assoc (m * up e) (2 ^ 307) (2 ^ 767) ∙ ap (λ (y : ℕ). m * up e * y) (pow_sum 307 767 1074 refl) ∙ q)
    ∙ gap_times (is_negative z) (nat_abs z * 2 ^ 767) s r (down e)

-- so that two of them compare as the gaps do
module _ (z : ℤ) (s : Bool) (m : ℕ) (e : ℤ) (r : ℕ) (is : m * up e * 2 ^ 1074 ≡ r * down e) (s' : Bool) (m' : ℕ) (e' : ℤ) (r' : ℕ) (is' : m' * up e' * 2 ^ 1074 ≡ r' * down e') where
  abbrev near : ℕ
  near = gap (is_negative z) (nat_abs z * 2 ^ 767) s r

  abbrev far : ℕ
  far = gap (is_negative z) (nat_abs z * 2 ^ 767) s' r'

  pub apart_le : near ≤ far → apart z s m e * down e' ≤ apart z s' m' e' * down e
  apart_le h = transfer (apart z s m e) (apart z s' m' e') (down e) (down e') near far (2 ^ 767) (2 ^ 767) (pow_pos 767) (pow_pos 767) (apart_is z s m e r is) (apart_is z s' m' e' r' is') (mul-le-mul_right (2 ^ 767) h)

  pub gap_le : apart z s m e * down e' ≤ apart z s' m' e' * down e → near ≤ far
  gap_le h = le_of_mul-le-mul_right (transfer near far (2 ^ 767) (2 ^ 767) (apart z s m e) (apart z s' m' e') (down e) (down e') (down_pos e) (down_pos e') (sym (apart_is z s m e r is)) (sym (apart_is z s' m' e' r' is')) h) (pow_pos 767)
