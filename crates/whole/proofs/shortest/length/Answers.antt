-- `length` meets its contract: the zeros at both ends of the size are the letters of the formula. Assumes nothing.
use Prim.Native.Nat.{◌+◌}
use native.Mathlib.Omega.{arith}
use lib.Count.{count_trailing_zeros}
use Rattle.whole.proofs.Lengths.{Counted, counted, first_few, last_few, length_counted}
use Rattle.whole.proofs.shortest.length.Goals as goal

letters : (c : goal.After-ilog2-log) → Counted c.args.size (c.ilog2-v.result + 1) (count_trailing_zeros 64 c.args.size) c.ilog2-log.result
letters c = let v = c.ilog2-v.ensures in
    let log = c.ilog2-log.ensures in
    counted c.args.size c.ilog2-v.result c.ilog2-log.result c.requires c.ranges.size.fits v.power_le v.next_power_gt log.power_le log.next_power_gt

pub invariant_of-ends : goal.invariant_of-ends
invariant_of-ends c = let k = letters c in record { apart = k.few; log_is = k.log_is; few = k.short }

pub overflow_sub-result : goal.overflow_sub-result
overflow_sub-result c = omega (arith, (letters c).few)

pub overflow_sub-result-2 : goal.overflow_sub-result-2
overflow_sub-result-2 c = omega (arith, (letters c.before.before).few, first_few _ _ _ _ c.first_reduction.ensures)

pub overflow_sub-result-3 : goal.overflow_sub-result-3
overflow_sub-result-3 c = omega (arith, (letters c.before.before.before).few, first_few _ _ _ _ c.first_reduction.ensures, last_few _ _ _ _ c.last_reduction.ensures)

pub returns : goal.returns
returns c = length_counted _ _ _ _ _ _ (letters c.before.before.before) c.first_reduction.ensures c.last_reduction.ensures
