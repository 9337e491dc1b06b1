-- A signed number goes over to 64 bits without a sign: as it stands where it is not negative, as -1 - z where it is. Assumes nothing.
use mathlib.Core.Path.{◌≡◌, refl, sym, ap, ◌∙◌, subst}
use mathlib.Core.Bool.{Bool, true, false}
use Prim.Native.Nat.{suc, ◌+◌, ◌^◌, ◌≤◌}
use native.Mathlib.Omega.{arith}
use borrow.Author.Tests.{le-ltb, ltb-true}
use lib.Dec.{T, leb, leb→le}
use lib.IntN.{ℤ, pos, negsuc, nat_abs, ◌-ℤ◌}
use lib.Pow.{pow_mono}
use lib.Signed.{lt_z, non_neg, mag}
use mir.Facts.{to_z-of_z}
use mir.Syntax.{Width, w64}
use mir.Val.{Fits, SFits, to_z, of_z, hbits}

pub not_negative : (z : ℤ) → lt_z z (pos 0) ≡ false → z ≡ pos (mag z)
not_negative (pos n) h = refl
not_negative (negsuc n) h = absurd (subst T h tt)

negative : (z : ℤ) → lt_z z (pos 0) ≡ true → negsuc 0 -ℤ z ≡ pos (mag z)
negative (pos n) h = absurd (omega (arith, ltb-true n 0 h))
negative (negsuc n) h = rw (le-ltb (suc n) 1 (omega arith)) (ap pos (omega arith))

pub is_negative : (z : ℤ) → lt_z z (pos 0) ≡ true → z ≡ negsuc (mag z)
is_negative (pos n) h = absurd (omega (arith, ltb-true n 0 h))
is_negative (negsuc n) h = refl

-- what the cast asks
abbrev Unsigned : ℤ → Type 0
Unsigned z = T (non_neg z) × Fits w64 (nat_abs z)

-- z is a number of the width w, as the machine holds it
module _ (w : Width) (narrow : T (leb (hbits w) 63)) {z : ℤ} (fits : SFits w z) where
  pub tested : {b : Bool} → lt_z (to_z w (of_z w z)) (pos 0) ≡ b → lt_z z (pos 0) ≡ b
  tested h = ap (λ (x : ℤ). lt_z x (pos 0)) (sym (to_z-of_z fits)) ∙ h

  room : 2 ^ hbits w ≤ 2 ^ 63
  room = pow_mono (leb→le (hbits w) 63 narrow)

  size : Unsigned (pos (mag z))
  size = (tt, record { fits = omega (arith, fits.sfits, room) })

  pub plain_cast : lt_z (to_z w (of_z w z)) (pos 0) ≡ false → Unsigned (to_z w (of_z w z))
  plain_cast h = subst Unsigned (sym (to_z-of_z fits ∙ not_negative z (tested h))) size

  complement : lt_z (to_z w (of_z w z)) (pos 0) ≡ true → negsuc 0 -ℤ to_z w (of_z w z) ≡ pos (mag z)
  complement h = ap (λ (x : ℤ). negsuc 0 -ℤ x) (to_z-of_z fits) ∙ negative z (tested h)

  pub complement_fits : lt_z (to_z w (of_z w z)) (pos 0) ≡ true → SFits w (negsuc 0 -ℤ to_z w (of_z w z))
  complement_fits h = subst (λ (x : ℤ). SFits w x) (sym (complement h)) (record { sfits = fits.sfits })

  pub complement_cast : lt_z (to_z w (of_z w z)) (pos 0) ≡ true → Unsigned (to_z w (of_z w (negsuc 0 -ℤ to_z w (of_z w z))))
  complement_cast h = subst Unsigned (sym (to_z-of_z (complement_fits h) ∙ complement h)) size

  pub complement_more : (h : lt_z (to_z w (of_z w z)) (pos 0) ≡ true) → Fits w64 (nat_abs (to_z w (of_z w (negsuc 0 -ℤ to_z w (of_z w z)))) + 1)
  complement_more h =
      subst (λ (x : ℤ). Fits w64 (nat_abs x + 1)) (sym (to_z-of_z (complement_fits h) ∙ complement h))
      (record { fits = omega (arith, fits.sfits, room) })

  -- the numbers that the casts give
  pub plain_value : lt_z (to_z w (of_z w z)) (pos 0) ≡ false → nat_abs (to_z w (of_z w z)) ≡ mag z
  plain_value h = ap nat_abs (to_z-of_z fits ∙ not_negative z (tested h))

  pub complement_value : lt_z (to_z w (of_z w z)) (pos 0) ≡ true → nat_abs (to_z w (of_z w (negsuc 0 -ℤ to_z w (of_z w z)))) ≡ mag z
  complement_value h = ap nat_abs (to_z-of_z (complement_fits h) ∙ complement h)
