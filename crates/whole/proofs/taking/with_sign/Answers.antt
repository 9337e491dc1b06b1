-- `with_sign` meets its contract: a size below 2^63 as it stands, or what is left of nothing without it. Assumes nothing.
use native.Mathlib.Omega.{arith}
use borrow.Author.Differences.{ints}
use Rattle.word.specs.Reads.{signed_size}
use Rattle.whole.proofs.taking.with_sign.Goals as goal

pub returns-then-negative : goal.returns-then-negative
unfolding signed_size
returns-then-negative c = rw c.if-negative.true (grind (arith, ints))

pub returns : goal.returns
unfolding signed_size
returns c = rw c.if-negative.false (grind (arith, ints))
