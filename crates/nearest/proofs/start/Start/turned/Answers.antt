-- `Start::turned` meets its contract: all ones, but for those bits. Assumes nothing.
use mathlib.Core.Path.{◌≡◌, refl, ap, ◌∙◌}
use Prim.Native.Nat.{ℕ, ◌≤◌, ◌+◌, ◌-◌, ◌*◌, ◌%◌, ◌^◌}
use native.Mathlib.Omega.{arith}
use lib.Pow.{shl_exact}
use Rattle.bounds.proofs.Powers.{pow_sum}
use Rattle.nearest.proofs.start.Start.turned.Goals as goal

power : (r : ℕ) → r ≤ 7 → 16 * 2 ^ r % 2 ^ 64 ≡ 2 ^ (4 + r)
power r low = shl_exact {a = 16} 5 r 64 (omega arith) (omega (arith, low)) ∙ pow_sum 4 r (4 + r) refl

pub overflow_sub-result-2 : goal.overflow_sub-result-2
overflow_sub-result-2 c = omega (arith, power c.args.self.r c.args.self.seven, c.args.self.room)

pub invariant_of-result : goal.invariant_of-result
invariant_of-result c = record { seven = c.args.self.seven; room = omega (arith, power c.args.self.r c.args.self.seven, c.args.self.room) }

pub returns : goal.returns
returns c = record { bits = ap (λ (x : ℕ). x - 1 - c.args.self.bits) (power c.args.self.r c.args.self.seven); r = refl }
