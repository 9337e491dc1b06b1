-- `shortest_width` meets its contract: zero has a word at width 2, and the words of every other number begin at its length. Assumes nothing.
use Rattle.std.specs.Prelude.{Ok}
use mathlib.Core.Path.{◌≡◌, sym, ap, ◌∙◌, subst}
use Prim.Native.Nat.{ℕ, ◌^◌, ◌<◌}
use native.Mathlib.Omega.{arith}
use lib.IntN.{ℤ, pos, negsuc, nat_abs}
use mir.Facts.{to_z-of_z}
use mir.Syntax.{w64}
use mir.Val.{SFits, to_z, of_z}
use Rattle.whole.specs.Shortest.{GivesShortest}
use Rattle.whole.specs.Parts.{IsLength}
use Rattle.whole.proofs.Lengths.{BeginsAt}
use Rattle.whole.proofs.ShortestWidths.{given_for_zero, given_at, refused_past, begins}
use Rattle.whole.proofs.shortest.shortest_width.Goals as goal

-- a size fits in 64 bits
fits : (x : ℤ) → SFits w64 x → nat_abs x < 2 ^ 64
fits (pos i) h = omega (arith, h.sfits)
fits (negsuc i) h = omega (arith, h.sfits)

-- its words begin at the length that was counted
counted : (x : ℤ) (m l : ℕ) → SFits w64 x → m ≡ nat_abs (to_z w64 (of_z w64 x)) → IsLength m l → BeginsAt (nat_abs x) l
counted x m l small q is = begins x l (fits x small) (subst (λ (m : ℕ). IsLength m l) (q ∙ ap nat_abs (to_z-of_z {w = w64} small)) is)

pub returns-then-x-eq0 : goal.returns-then-x-eq0
returns-then-x-eq0 c = subst (λ (x : ℤ). GivesShortest x (Ok (record { bits = 2 }))) (sym (sym (to_z-of_z {w = w64} c.ranges.x) ∙ ap (to_z w64) c.if-x-eq0.true)) given_for_zero

pub returns-then-bits-gt-GREATEST : goal.returns-then-bits-gt-GREATEST
returns-then-bits-gt-GREATEST c = refused_past _ _ (counted c.args.x _ _ c.ranges.x c.unsigned_abs.ensures.value c.length-bits.ensures) (omega arith)

pub returns : goal.returns
returns c = given_at _ _ (counted c.args.x _ _ c.ranges.x c.unsigned_abs.ensures.value c.length-bits.ensures) (omega arith)
