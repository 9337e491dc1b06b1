-- `write_long` meets its contract: one number or two. Assumes nothing.
use mathlib.Core.Path.{◌≡◌}
use Prim.Native.Nat.{◌+◌, ◌*◌, ◌^◌}
use native.Mathlib.Omega.{arith}
use borrow.Author.Rules.{rules}
use Rattle.round.specs.Sayings.{WritesLongAndSays}
use Rattle.round.proofs.writing.write_long.Goals as goal

pub returns-then-value-eq0 : goal.returns-then-value-eq0
unfolding WritesLongAndSays
returns-then-value-eq0 c = let all : c.args.value.low ≡ c.args.value.high * 2 ^ 64 + c.args.value.low = omega (arith, c.if-value-eq0.true) in
    rw (← all) search rules
