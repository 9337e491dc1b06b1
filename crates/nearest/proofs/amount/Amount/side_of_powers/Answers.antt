-- `Amount::side_of_powers` meets its contract: under the last binade before 2^j every size is below the midpoint, in it the significand decides, and 64 binades apart the rest. Assumes nothing.
use mathlib.Core.Path.{◌≡◌, sym, ap, ◌∙◌, subst}
use Rattle.std.proofs.Common.{rules}
use Rattle.std.proofs.lemmas.Cmp.{ranked}
use Rattle.std.specs.Ordering.{ordering_then}
use Prim.Native.Nat.{ℕ, ◌-◌, ◌^◌, ◌<◌}
use native.Mathlib.Omega.{arith}
use Rattle.nearest.proofs.Halves.{far_under, near, rest_side, wide_then}
use Rattle.bounds.proofs.Powers.{one_shl}
use Rattle.nearest.specs.Parts.{TellsHalf, TellsPowers}
use Rattle.nearest.proofs.amount.Amount.side_of_powers.Goals as goal

pub returns-then-e-j : goal.returns-then-e-j
returns-then-e-j c = let top : c.args.self.m < 2 ^ 64 = search rules in
    far_under _ _ _ _ _ top c.if-e-j.true

pub returns-then-gap-lt64 : goal.returns-then-gap-lt64
returns-then-gap-lt64 c = let top : c.args.self.m < 2 ^ 64 = search rules in
    near c.args.i c.args.j c.args.e c.args.self.m _ top (omega (arith, c.requires.2, c.if-e-j.false)) (c.args.j - c.args.i) (omega (arith, c.requires.0)) (omega (arith, c.requires.1)) _ c.if-gap-lt64.true c.args.self.normal (subst (λ (x : ℕ). TellsHalf (c.args.self.m - 2 ^ 63) x c.args.self.rest c.against.result) (one_shl 64 _ (omega (arith, c.requires.0))) c.against.ensures)

pub returns : goal.returns
returns c =
    let top : c.args.self.m < 2 ^ 64 = search rules in
    let rest_is : c.cmp-2.result ≡ rest_side c.args.self.rest = search rules in
    subst (TellsPowers _ _ _ _ _) (sym (c.then.ensures ∙ ap (ordering_then c.cmp.result) rest_is))
    (wide_then c.args.i c.args.j c.args.e c.args.self.m c.args.self.rest c.args.self.normal top (omega (arith, c.requires.2, c.if-e-j.false)) (omega (arith, c.requires.0, c.requires.1, c.if-gap-lt64.false)) c.cmp.result (ranked _ _ _ c.cmp.ensures))
