-- `Ends::first_reduction` meets its contract: nothing where bits of the number are left behind its leading one, and else the zeros that v ends in. Assumes nothing.
use mathlib.Core.Path.{sym, ap}
use mathlib.Core.Bool.{Bool}
use Prim.Native.Nat.{◌+◌, ◌^◌, ◌<◌}
use native.Mathlib.Omega.{arith}
use borrow.Author.Rules.{rules}
use borrow.Author.Tests.{eq-eqb, ne_eqb}
use lib.Count.{count_trailing_zeros}
use Rattle.whole.specs.Lengths.{when}
use Rattle.whole.specs.Parts.{IsFirstReduction}
use Rattle.whole.proofs.OddParts.{first_zeros}
use Rattle.whole.proofs.shortest.Ends.first_reduction.Goals as goal

pub returns-then-self : goal.returns-then-self
unfolding IsFirstReduction
returns-then-self c = let e = c.args.self in
    let fits : c.args.self.v < 2 ^ 32 = search rules in
    (_, first_zeros e.v e.log e.log_is fits, sym (ap (λ (b : Bool). when b (count_trailing_zeros 32 e.v)) (ne_eqb (e.w + 1) e.v (λ e. omega (arith, e)))))

pub returns : goal.returns
unfolding IsFirstReduction
returns c = let e = c.args.self in
    let fits : c.args.self.v < 2 ^ 32 = search rules in
    (_, first_zeros e.v e.log e.log_is fits, sym (ap (λ (b : Bool). when b (count_trailing_zeros 32 e.v)) (eq-eqb (e.w + 1) e.v (omega (arith, e.apart)))))
