-- `characteristic` meets its contract, by the direction bit: no step leaves the 32 bits. Assumes nothing.
use mathlib.Core.Path.{◌≡◌, sym, ap, ap₂, ◌∙◌, subst}
use Prim.Native.Nat.{ℕ, ◌+◌, ◌-◌, ◌^◌, ◌≤◌, ◌<◌}
use native.Mathlib.Nat.{lt_of_lt_of_le, le_of_eq, le_trans}
use native.Mathlib.Omega.{arith}
use borrow.Author.Tests.{eq-eqb, ne_eqb}
use lib.IntN.{ℤ, pos, ◌+ℤ◌, ◌-ℤ◌}
use lib.Dec.{lit≤}
use lib.Pow.{pow_mono, pow_pos}
use mir.Syntax.{w32}
use mir.Val.{SFits, to_z, of_z}
use mir.Facts.{to_z_pos, to_z-of_z}
use Rattle.word.specs.Takum.{characteristic_of}
use Rattle.word.proofs.Signed.{difference, sub_mag}
use Rattle.word.proofs.fields.characteristic.Goals as goal

module _ (r b : ℕ) (seven : r ≤ 7) (fits : b < 2 ^ r) where
  power_le : 2 ^ r ≤ 128
  power_le = pow_mono {i = r} {j = 7} seven

  b_small : b < 2 ^ 31
  b_small = lt_of_lt_of_le fits (le_trans power_le (lit≤ tt))

  -- with direction 1: 2^r - 1 + b
  module _ (a : ℕ) (is : a ≡ 2 ^ r) where
    small_power : a < 2 ^ 31
    small_power = omega (arith, is, power_le)

    first : to_z w32 a -ℤ pos 1 ≡ pos (a - 1)
    first = ap (λ (z : ℤ). z -ℤ pos 1) (to_z_pos w32 small_power) ∙ difference a 1 (omega (arith, is, pow_pos r))

    first_fits : SFits w32 (to_z w32 a -ℤ pos 1)
    first_fits = subst (λ (z : ℤ). SFits w32 z) (sym first) (record { sfits = omega (arith, small_power) })

    sum : to_z w32 (of_z w32 (to_z w32 a -ℤ pos 1)) +ℤ to_z w32 b ≡ pos (a - 1 + b)
    sum = ap₂ (λ (y z : ℤ). y +ℤ z) (to_z-of_z first_fits ∙ first) (to_z_pos w32 b_small)

    sum_fits : SFits w32 (to_z w32 (of_z w32 (to_z w32 a -ℤ pos 1)) +ℤ to_z w32 b)
    sum_fits = subst (λ (z : ℤ). SFits w32 z) (sym sum) (record { sfits = omega (arith, is, fits, power_le) })

    above : (d : ℕ) → d ≡ 1 → to_z w32 (of_z w32 (to_z w32 (of_z w32 (to_z w32 a -ℤ pos 1)) +ℤ to_z w32 b)) ≡ characteristic_of d r b
    unfolding characteristic_of
    above d h = to_z-of_z sum_fits ∙ sum ∙ sym (rw (eq-eqb d 1 h) (ap (λ (z : ℤ). z +ℤ pos b) (ap (λ (n : ℕ). pos n -ℤ pos 1) (sym is) ∙ difference a 1 (omega (arith, is, pow_pos r)))))

  -- with direction 0: b + 1 - 2^(r + 1)
  next : to_z w32 b +ℤ pos 1 ≡ pos (b + 1)
  next = ap (λ (z : ℤ). z +ℤ pos 1) (to_z_pos w32 b_small)

  next_fits : SFits w32 (to_z w32 b +ℤ pos 1)
  next_fits = subst (λ (z : ℤ). SFits w32 z) (sym next) (record { sfits = omega (arith, fits, power_le) })

  module _ (a : ℕ) (is : a ≡ 2 ^ (r + 1)) where
    less_than_half : a ≤ 256
    less_than_half = le_trans (le_of_eq is) (pow_mono {i = r + 1} {j = 8} (omega (arith, seven)))

    small_next : a < 2 ^ 31
    small_next = omega (arith, less_than_half)

    less : to_z w32 (of_z w32 (to_z w32 b +ℤ pos 1)) -ℤ to_z w32 a ≡ pos (b + 1) -ℤ pos a
    less = ap₂ (λ (y z : ℤ). y -ℤ z) (to_z-of_z next_fits ∙ next) (to_z_pos w32 small_next)

    below_fits : SFits w32 (to_z w32 (of_z w32 (to_z w32 b +ℤ pos 1)) -ℤ to_z w32 a)
    below_fits = subst (λ (z : ℤ). SFits w32 z) (sym less) (record { sfits = omega (arith, sub_mag (pos (b + 1)) (pos a), fits, power_le, less_than_half) })

    below : (d : ℕ) → (d ≡ 1 → ⊥) → to_z w32 (of_z w32 (to_z w32 (of_z w32 (to_z w32 b +ℤ pos 1)) -ℤ to_z w32 a)) ≡ characteristic_of d r b
    unfolding characteristic_of
    below d f = to_z-of_z below_fits ∙ less ∙ sym (rw (ne_eqb d 1 f) (ap (λ (n : ℕ). pos (b + 1) -ℤ pos n) (sym is)))

pub returns-then-direction-eq1 : goal.returns-then-direction-eq1
returns-then-direction-eq1 c = above _ _ c.requires.0 c.requires.1 _ c.power_of_two.ensures _ c.if-direction-eq1.true

pub returns : goal.returns
returns c = below _ _ c.requires.0 c.requires.1 _ c.power_of_two-2.ensures _ c.if-direction-eq1.false
