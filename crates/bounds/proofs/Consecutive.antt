-- The rule of the exact-count limit, v + floor(log2 v) <= n - 4, and the inequality of document 004, Proposition 5, v * 2^v < 2^(n - 3), hold of the same
-- numbers v from 1 on. Assumes nothing.
use mathlib.Core.Path.{refl}
use Prim.Native.Nat.{ℕ, zero, suc, ◌+◌, ◌-◌, ◌*◌, ◌^◌, ◌≤◌, ◌<◌, zero-le}
use native.Mathlib.Nat.{zero-lt-suc, lt_of_lt_of_le, lt_of_le_of_lt, le_trans, le_of_eq, mul-le-mul_right}
use native.Mathlib.Omega.{arith}
use lib.Pow.{pow-add, pow_pos, pow_mono}
use Rattle.bounds.specs.Widths.{Within, Greatest, greatest, none}
use Rattle.bounds.proofs.Powers.{shl_below}
use Rattle.bounds.proofs.Limits.{log, exponent_lt, within}

pub rule_gives_inequality : (n v : ℕ) → Within n v → v * 2 ^ v < 2 ^ (n - 3)
rule_gives_inequality n v x = lt_of_lt_of_le (shl_below (x.L + 1) v (x.L + 1 + v) x.log_high refl) (pow_mono {i = x.L + 1 + v} {j = n - 3} (omega (arith, x.bound)))

pub inequality_gives_rule : (n v : ℕ) → 0 < v → v * 2 ^ v < 2 ^ (n - 3) → Within n v
inequality_gives_rule n v some h =
    let t = log v some in
    let less : t.0 + v < n - 3 = exponent_lt (t.0 + v) (n - 3) (lt_of_le_of_lt (le_trans (le_of_eq (pow-add 2 t.0 v)) (mul-le-mul_right (2 ^ v) t.1)) h) in
    within n v t.0 some t.2 (omega (arith, less))

-- so the limit is 2^v with the greatest v of the inequality
pub record IsGreatest (n v : ℕ) : Type 0 where
  pub holds : v * 2 ^ v < 2 ^ (n - 3)
  pub most : (u : ℕ) → u * 2 ^ u < 2 ^ (n - 3) → u ≤ v

pub greatest_of_inequality : (n : ℕ) {v : ℕ} → Greatest n v → IsGreatest n v
greatest_of_inequality n {v} (greatest x f) = record { holds = rule_gives_inequality n v x; most = most }
  where
    most : (u : ℕ) → u * 2 ^ u < 2 ^ (n - 3) → u ≤ v
    most zero h = zero-le
    most (suc u) h = f (suc u) (inequality_gives_rule n (suc u) (zero-lt-suc u) h)
greatest_of_inequality n (none f) = record { holds = pow_pos (n - 3); most = most }
  where
    most : (u : ℕ) → u * 2 ^ u < 2 ^ (n - 3) → u ≤ 0
    most zero h = zero-le
    most (suc u) h = absurd (f (suc u) (inequality_gives_rule n (suc u) (zero-lt-suc u) h))
