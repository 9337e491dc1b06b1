-- `Start::above` meets its contract: leading zeros give the logarithm, and the bits are those of the tested rule. Assumes nothing.
use mathlib.Core.Path.{sym, ap, subst}
use Prim.Native.Nat.{ℕ, zero, ◌+◌, ◌-◌, ◌^◌, ◌≤◌, ◌<◌}
use native.Mathlib.Omega.{arith}
use native.Mathlib.Nat.{lt_of_le_of_lt}
use lib.Dec.{lit<}
use lib.Count.{count_leading_zeros}
use Rattle.bounds.proofs.Powers.{Log, leading_log}
use Rattle.nearest.proofs.Starts.{shifted_upper, upper_small, regime_small, upper_lt}
use Rattle.nearest.proofs.start.Start.above.Goals as goal

-- the regime that the code computes is the size's logarithm
log : (size : ℕ) → zero < size → size ≤ 255 → (count_leading_zeros 64 size < 64) × Log (63 - count_leading_zeros 64 size) size
log size h most = leading_log 64 size h (lt_of_le_of_lt most (lit< tt))

pub overflow_add-result-2 : goal.overflow_add-result-2
overflow_add-result-2 c = let t = log c.args.size c.requires.0 c.requires.1 in
    record { fits = omega (arith, shifted_upper _ _ t.1 c.requires.1, upper_small _ _ t.1 c.requires.1) }

pub invariant_of-result : goal.invariant_of-result
invariant_of-result c = let t = log c.args.size c.requires.0 c.requires.1 in
    record { seven = regime_small _ _ t.1 c.requires.1; room = subst (λ (x : ℕ). x + c.args.size < 2 ^ (4 + (63 - count_leading_zeros 64 c.args.size))) (sym (shifted_upper _ _ t.1 c.requires.1)) (upper_lt _ _ t.1 c.requires.1) }

pub returns : goal.returns
returns c = let t = log c.args.size c.requires.0 c.requires.1 in
    record { low = t.1.low; high = t.1.high; bits = ap (λ (x : ℕ). x + c.args.size) (shifted_upper _ _ t.1 c.requires.1) }
