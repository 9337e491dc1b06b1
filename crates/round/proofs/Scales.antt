-- One size under several units: a power of two moves between significand and exponent, and a fraction between its two parts. Assumes nothing.
use Rattle.std.specs.Prelude.{Ok, Err}
use Rattle.bounds.specs.Refusals.{Answer}
use mathlib.Core.Path.{◌≡◌, sym, ap, ap₂, ◌∙◌, subst, subst₂}
use mathlib.Core.Bool.{Bool}
use mathlib.Core.Logic.{⊎_elim}
use Prim.Native.Nat.{ℕ, zero, suc, ◌-◌, ◌*◌, ◌^◌, ◌≤◌, ◌<◌}
use native.Mathlib.Nat.{mul_comm, mul_assoc, mul_right_comm, eq_of_mul-eq-mul_right, mul-le-mul_right, mul-lt-mul_of_pos_right, le_of_mul-le-mul_right, mul-sub, mul-pos, zero-mul}
use native.Mathlib.Omega.{arith}
use lib.IntN.{ℤ, pos, ◌+ℤ◌}
use Rattle.word.specs.Reads.{num, den, IsSize}
use Rattle.round.specs.declared.value.Rule.{Rule}
use Rattle.nearest.specs.declared.size.Rest.{Rest}
use Rattle.std.specs.declared.cmp.Ordering.{Ordering}
use Rattle.nearest.specs.Nearest.{distance, Nearest}
use Rattle.round.specs.Writes.{IsRounded, zero, other, IsExact, IsWritten}
use Rattle.nearest.specs.Offers.{IsOffered, Amounts}
use Rattle.nearest.specs.Parts.{TellsSide}
use Rattle.word.proofs.Units.{unit_some, cross, aside}
use Rattle.nearest.proofs.Halves.{cancel}
use Rattle.nearest.proofs.Nearest.{distance_below, distance_above, either_side}

-- every m * 2^k is offered as a fraction
pub plain_offer : (m : ℕ) (k : ℤ) → IsOffered m Rest.Nothing k (m * num (k +ℤ pos 307)) (den (k +ℤ pos 307))
unfolding IsOffered Amounts
plain_offer m k = mul_assoc m (num (k +ℤ pos 307)) (den (k +ℤ pos 307))

-- the same of an offered value m * 2^(k + t)
pub raise_offer : (m : ℕ) (k : ℤ) (t : ℕ) → IsOffered (m * 2 ^ t) Rest.Nothing k (m * num (k +ℤ pos t +ℤ pos 307)) (den (k +ℤ pos t +ℤ pos 307))
unfolding IsOffered Amounts
raise_offer m k t =
    let x = k +ℤ pos 307 in
    subst (λ (y : ℤ). m * num y * den x ≡ m * 2 ^ t * (num x * den y)) (sym (aside k t))
    (mul_assoc m (num (x +ℤ pos t)) (den x) ∙ ap (λ (y : ℕ). m * y) (cross x t ∙ mul_assoc (2 ^ t) (num x) (den (x +ℤ pos t))) ∙ sym (mul_assoc m (2 ^ t) (num x * den (x +ℤ pos t))))

-- both sides may be multiplied by the same number
times : (s : Ordering) (d x y : ℕ) → zero < d → TellsSide s x y → TellsSide s (x * d) (y * d)
unfolding TellsSide
times Ordering.Less d x y h t = mul-lt-mul_of_pos_right t h
times Ordering.Equal d x y h t = ap (λ (z : ℕ). z * d) t
times Ordering.Greater d x y h t = mul-lt-mul_of_pos_right t h

-- ---- the units 2^k and 2^(k + t): y of the coarse ones are y * 2^t of the fine ones
module _ (k : ℤ) (t a b : ℕ) where
  coarse_unit : (y : ℕ) → y * (num (k +ℤ pos t +ℤ pos 307) * b) * den (k +ℤ pos 307) ≡ y * 2 ^ t * (num (k +ℤ pos 307) * b) * den (k +ℤ pos t +ℤ pos 307)
  coarse_unit y =
      let x = k +ℤ pos 307 in
      subst (λ (z : ℤ). y * (num z * b) * den x ≡ y * 2 ^ t * (num x * b) * den z) (sym (aside k t))
      (together y (num (x +ℤ pos t)) b (den x) ∙ ap (λ (z : ℕ). y * z * b) (cross x t) ∙ apart y (2 ^ t) (num x) (den (x +ℤ pos t)) b)
    where
      together : (y u b d : ℕ) → y * (u * b) * d ≡ y * (u * d) * b
      together y u b d = omega arith

      apart : (y p u d b : ℕ) → y * (p * u * d) * b ≡ y * p * (u * b) * d
      apart y p u d b = omega arith

  swap : (c x y : ℕ) → c * (a * x) * y ≡ c * (a * y) * x
  swap c x y = omega arith

  -- so c times the size lies on the same side of both
  pub coarser : (s : Ordering) (c y : ℕ) → TellsSide s (c * (a * den (k +ℤ pos 307))) (y * 2 ^ t * (num (k +ℤ pos 307) * b)) → TellsSide s (c * (a * den (k +ℤ pos t +ℤ pos 307))) (y * (num (k +ℤ pos t +ℤ pos 307) * b))
  coarser s c y h =
      let d = den (k +ℤ pos 307) in
      let d' = den (k +ℤ pos t +ℤ pos 307) in
      cancel s d (c * (a * d')) (y * (num (k +ℤ pos t +ℤ pos 307) * b)) (unit_some (k +ℤ pos 307)).1
      (subst₂ (TellsSide s) (swap c d d') (sym (coarse_unit y)) (times s d' (c * (a * d)) (y * 2 ^ t * (num (k +ℤ pos 307) * b)) (unit_some (k +ℤ pos t +ℤ pos 307)).1 h))

  pub finer : (s : Ordering) (c y : ℕ) → TellsSide s (c * (a * den (k +ℤ pos t +ℤ pos 307))) (y * (num (k +ℤ pos t +ℤ pos 307) * b)) → TellsSide s (c * (a * den (k +ℤ pos 307))) (y * 2 ^ t * (num (k +ℤ pos 307) * b))
  finer s c y h =
      let d = den (k +ℤ pos 307) in
      let d' = den (k +ℤ pos t +ℤ pos 307) in
      cancel s d' (c * (a * d)) (y * 2 ^ t * (num (k +ℤ pos 307) * b)) (unit_some (k +ℤ pos t +ℤ pos 307)).1
      (subst₂ (TellsSide s) (swap c d' d) (coarse_unit y) (times s d (c * (a * d')) (y * (num (k +ℤ pos t +ℤ pos 307) * b)) (unit_some (k +ℤ pos 307)).1 h))

-- ---- a size that is offered as a / b, and z beside it
module _ (m : ℕ) (k : ℤ) (a b : ℕ) (some : zero < b) (offered : IsOffered m Rest.Nothing k a b) (z : ℕ) where
  both : a * den (k +ℤ pos 307) ≡ m * num (k +ℤ pos 307) * b
  unfolding IsOffered Amounts
  both = offered ∙ sym (mul_assoc m (num (k +ℤ pos 307)) b)

  pub same_size : z * b ≡ a → IsSize m k z
  unfolding IsSize
  same_size q =
      eq_of_mul-eq-mul_right b some (m * num (k +ℤ pos 307)) (z * den (k +ℤ pos 307))
      (sym both ∙ ap (λ (y : ℕ). y * den (k +ℤ pos 307)) (sym q) ∙ mul_right_comm z b (den (k +ℤ pos 307)))

-- ---- both parts of a fraction times d
distance_times : (a x d : ℕ) → distance (a * d) (x * d) ≡ distance a x * d
distance_times a x d = ⊎_elim low high (either_side a x)
  where
    less : (i j : ℕ) → i * d - j * d ≡ (i - j) * d
    less i j = ap₂ (λ (y z : ℕ). y - z) (mul_comm i d) (mul_comm j d) ∙ sym (mul-sub d i j) ∙ mul_comm d (i - j)

    low : x ≤ a → distance (a * d) (x * d) ≡ distance a x * d
    low h = distance_below (a * d) (x * d) (mul-le-mul_right d h) ∙ less a x ∙ ap (λ (y : ℕ). y * d) (sym (distance_below a x h))

    high : a ≤ x → distance (a * d) (x * d) ≡ distance a x * d
    high h = distance_above (a * d) (x * d) (mul-le-mul_right d h) ∙ less x a ∙ ap (λ (y : ℕ). y * d) (sym (distance_above a x h))

module _ (n : ℕ) (s : Bool) (a b d : ℕ) (some : zero < d) where
  apart : (z : ℕ) → distance (a * d) (z * (b * d)) ≡ distance a (z * b) * d
  apart z = ap (distance (a * d)) (sym (mul_assoc z b d)) ∙ distance_times a (z * b) d

  nearest_reduced : (w : ℕ) → Nearest n s (a * d) (b * d) w → Nearest n s a b w
  nearest_reduced w x =
      record {
        z = x.z;
        some = x.some;
        is = x.is;
        nearest = λ z' w' h y. le_of_mul-le-mul_right (subst₂ (λ (i j : ℕ). i ≤ j) (apart x.z) (apart z') (x.nearest z' w' h y)) some;
        even = λ z' w' h y q. x.even z' w' h y (apart x.z ∙ ap (λ (i : ℕ). i * d) q ∙ sym (apart z'));
      }

  exact_reduced : (w : ℕ) → IsExact n s (a * d) (b * d) w → IsExact n s a b w
  exact_reduced w x = record { z = x.z; is = x.is; same = eq_of_mul-eq-mul_right d some (x.z * b) a (mul_assoc x.z b d ∙ x.same) }

  exact_times : (w : ℕ) → IsExact n s a b w → IsExact n s (a * d) (b * d) w
  exact_times w x = record { z = x.z; is = x.is; same = sym (mul_assoc x.z b d) ∙ ap (λ (y : ℕ). y * d) x.same }

  rounded_reduced : (w : ℕ) → IsRounded n s (a * d) (b * d) w → IsRounded n s a b w
  rounded_reduced w (zero q e) = zero (eq_of_mul-eq-mul_right d some a 0 (q ∙ sym (zero-mul d))) e
  rounded_reduced w (other h x) = other (by a h) (nearest_reduced w x)
    where
      by : (a : ℕ) → 0 < a * d → 0 < a
      by zero h = absurd (omega (arith, h, zero-mul d))
      by (suc i) h = omega arith

  -- and the other way
  nearest_times : (w : ℕ) → Nearest n s a b w → Nearest n s (a * d) (b * d) w
  nearest_times w x =
      record {
        z = x.z;
        some = x.some;
        is = x.is;
        nearest = λ z' w' h y. subst₂ (λ (i j : ℕ). i ≤ j) (sym (apart x.z)) (sym (apart z')) (mul-le-mul_right d (x.nearest z' w' h y));
        even = λ z' w' h y q. x.even z' w' h y (eq_of_mul-eq-mul_right d some (distance a (x.z * b)) (distance a (z' * b)) (sym (apart x.z) ∙ q ∙ apart z'));
      }

  rounded_times : (w : ℕ) → IsRounded n s a b w → IsRounded n s (a * d) (b * d) w
  rounded_times w (zero q e) = zero (ap (λ (y : ℕ). y * d) q ∙ zero-mul d) e
  rounded_times w (other h x) = other (mul-pos h some) (nearest_times w x)

  pub written_times : (rule : Rule) (r : Answer ℕ) → IsWritten n rule s a b r → IsWritten n rule s (a * d) (b * d) r
  unfolding IsWritten
  written_times Rule.Rounded (Ok w) x = rounded_times w x
  written_times Rule.Rounded (Err q) x = x
  written_times Rule.Strict (Ok w) x = exact_times w x
  written_times Rule.Strict (Err q) x = (x.0, λ w y. x.1 w (exact_reduced w y))

  -- what is written for a fraction is written for its reduced form
  pub written_reduced : (rule : Rule) (r : Answer ℕ) → IsWritten n rule s (a * d) (b * d) r → IsWritten n rule s a b r
  unfolding IsWritten
  written_reduced Rule.Rounded (Ok w) x = rounded_reduced w x
  written_reduced Rule.Rounded (Err q) x = x
  written_reduced Rule.Strict (Ok w) x = exact_reduced w x
  written_reduced Rule.Strict (Err q) x = (x.0, λ w y. x.1 w (exact_times w y))
