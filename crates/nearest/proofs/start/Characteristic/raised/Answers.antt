-- `Characteristic::raised` meets its contract: no step leaves its bits. Assumes nothing.
use mathlib.Core.Path.{◌≡◌, sym, ap, ◌∙◌, subst}
use Prim.Native.Nat.{ℕ, ◌≤◌}
use native.Mathlib.Omega.{arith}
use lib.IntN.{ℤ, pos, nat_abs, ◌+ℤ◌}
use lib.Signed.{mag}
use mir.Syntax.{w64}
use mir.Val.{SFits, to_z, of_z}
use mir.Facts.{to_z-of_z}
use Rattle.nearest.proofs.Exponents.{raise, small_fits}
use Rattle.nearest.specs.Parts.{IsRaised}
use Rattle.nearest.proofs.start.Characteristic.raised.Goals as goal

module _ (h : ℤ) (small : mag h ≤ 254) where
  fits : SFits w64 h
  fits = small_fits h small

  e : ℕ
  e = (raise h small).0

  held : to_z w64 (of_z w64 h) +ℤ pos 255 ≡ pos e
  unfolding e
  held = ap (λ (z : ℤ). z +ℤ pos 255) (to_z-of_z fits) ∙ (raise h small).1

  sum_fits : SFits w64 (to_z w64 (of_z w64 h) +ℤ pos 255)
  unfolding e
  sum_fits = subst (λ (z : ℤ). SFits w64 z) (sym held) (record { sfits = omega (arith, (raise h small).2) })

  is : to_z w64 (of_z w64 (to_z w64 (of_z w64 h) +ℤ pos 255)) ≡ pos e
  is = to_z-of_z sum_fits ∙ held

  sum : IsRaised h (nat_abs (to_z w64 (of_z w64 (to_z w64 (of_z w64 h) +ℤ pos 255))))
  unfolding IsRaised e
  sum = (raise h small).1 ∙ ap (λ (z : ℤ). pos (nat_abs z)) (sym is)

pub returns : goal.returns
returns c = sum c.args.self.c c.args.self.inside
