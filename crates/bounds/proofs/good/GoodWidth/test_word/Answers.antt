-- `GoodWidth::test_word` meets its contract: a word has no bit at or above n where at most one bit is left of it after n - 1. Assumes nothing.
use mathlib.Core.Path.{sym}
use Prim.Native.Nat.{ℕ, ◌-◌, ◌/◌, ◌^◌, ◌≤◌, ◌<◌}
use native.Mathlib.Nat.{div-lt_iff_lt-mul, le-div_iff_mul-le}
use native.Mathlib.Omega.{arith}
use lib.Pow.{pow_pos}
use Rattle.bounds.proofs.Powers.{twice}
use Rattle.bounds.proofs.Verdicts.{stray_fits, stray_bit}
use Rattle.bounds.proofs.good.GoodWidth.test_word.Goals as goal

fits : (n w : ℕ) → 2 ≤ n → w / 2 ^ (n - 1) < 2 → w < 2 ^ n
fits n w lo h = omega (arith, (div-lt_iff_lt-mul {x = w} {y = 2} (pow_pos (n - 1))).0 h, twice n lo)

strays : (n w : ℕ) → 2 ≤ n → 2 ≤ w / 2 ^ (n - 1) → 2 ^ n ≤ w
strays n w lo h = omega (arith, (le-div_iff_mul-le {x = 2} {y = w} (pow_pos (n - 1))).0 h, twice n lo)

pub returns-then-word-self-lt2 : goal.returns-then-word-self-lt2
returns-then-word-self-lt2 c = sym (stray_fits _ _ (fits _ _ c.args.self.least (omega arith)))

pub returns : goal.returns
returns c = sym (stray_bit _ _ (strays _ _ c.args.self.least (omega arith)))
