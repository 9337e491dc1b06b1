-- `take_number` meets its contract: what is below a half, and any other size. Assumes nothing.
use mathlib.Core.Path.{◌≡◌, sym, subst}
use mathlib.Core.Bool.{Bool, true, false}
use Prim.Native.Nat.{ℕ, zero, suc, ◌^◌, ◌≤◌, ◌<◌}
use native.Mathlib.Omega.{arith}
use borrow.Author.Differences.{ints}
use borrow.Author.Tests.{ltb-true}
use lib.Dec.{T}
use lib.IntN.{ℤ, pos, negsuc}
use lib.Signed.{lt_z}
use Rattle.whole.specs.declared.taking.Taking.{Taking}
use Rattle.whole.specs.Parts.{by_rule, TakesSize}
use Rattle.whole.proofs.Takings.{takes_under_half}
use Rattle.whole.proofs.taking.take_number.Goals as goal

-- an exponent below -1
under : (rule : Taking) (negative : Bool) (m : ℕ) → 2 ^ 63 ≤ m → m < 2 ^ 64 → (h : ℤ) → lt_z h (negsuc 0) ≡ true → TakesSize rule negative h m (by_rule rule false (pos 0))
under rule negative m full fits (pos n) q = absurd (subst T (sym q) tt)
under rule negative m full fits (negsuc zero) q = absurd (omega (arith, ltb-true 0 0 q))
under rule negative m full fits (negsuc (suc i)) q = takes_under_half rule negative m full fits i

pub returns-then-size-ltminus1 : goal.returns-then-size-ltminus1
returns-then-size-ltminus1 c =
    let below : lt_z c.args.size.h (negsuc 0) ≡ true = grind (arith, ints, c.requires.1) in
    let fits : c.args.size.m < 2 ^ 64 = omega arith in
    subst (TakesSize _ _ _ _) (sym c.below_half.ensures) (under c.args.rule c.args.size.negative c.args.size.m c.requires.0 fits c.args.size.h below)
