-- `Tail::chosen` meets its contract: the margin makes one test of the two. Assumes nothing.
use mathlib.Core.Path.{subst}
use Prim.Native.Nat.{ℕ, ◌-◌, ◌^◌, ◌≤◌, ◌<◌}
use Rattle.nearest.proofs.Halves.{cut_up, cut_down}
use Rattle.nearest.proofs.amount.Tail.chosen.Goals as goal

pub returns-then-margin-self : goal.returns-then-margin-self
returns-then-margin-self c = cut_up _ _ _ (subst (λ (x : ℕ). 2 ^ 63 - x < c.args.self.bits) c.margin.ensures c.if-margin-self.true)

pub returns : goal.returns
returns c = cut_down _ _ _ (subst (λ (x : ℕ). c.args.self.bits ≤ 2 ^ 63 - x) c.margin.ensures c.if-margin-self.false)
