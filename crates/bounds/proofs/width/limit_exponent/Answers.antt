-- `limit_exponent` meets its contract: the leading zeros of n - 4 give its logarithm. Assumes nothing.
use mathlib.Core.Path.{sym}
use Prim.Native.Nat.{ℕ, ◌-◌, ◌^◌, ◌≤◌, ◌<◌}
use native.Mathlib.Omega.{arith}
use native.Mathlib.Nat.{le_of_lt, le_of_eq, le_trans, lt_of_lt_of_le}
use lib.Count.{count_leading_zeros}
use Rattle.bounds.proofs.Limits.{none_within, one_more, no_more, below_power}
use Rattle.bounds.proofs.Powers.{Log, leading_log, one_shl}
use Rattle.bounds.proofs.width.limit_exponent.Goals as goal

leading : (n : ℕ) → 5 ≤ n → n < 2 ^ 32 → (count_leading_zeros 32 (n - 4) < 32) × Log (31 - count_leading_zeros 32 (n - 4)) (n - 4)
leading n five fits = leading_log 32 (n - 4) (omega arith) (omega arith)

pub returns-then-n-lt5 : goal.returns-then-n-lt5
returns-then-n-lt5 c = none_within _ (omega arith)

pub overflow_sub-v : goal.overflow_sub-v
overflow_sub-v c = le_of_lt (lt_of_lt_of_le (below_power _) (leading _ (omega arith) c.ranges.n.fits).1.low)

pub returns-then-v-log : goal.returns-then-v-log
returns-then-v-log c = let t = leading _ (omega arith) c.ranges.n.fits in
    one_more _ _ (omega arith) t.1.low (lt_of_lt_of_le c.if-v-log.true (le_of_eq (one_shl 32 _ (omega arith))))

pub returns : goal.returns
returns c = let t = leading _ (omega arith) c.ranges.n.fits in
    no_more _ _ (omega arith) t.1.low t.1.high (le_trans (le_of_eq (sym (one_shl 32 _ (omega arith)))) c.if-v-log.false)
