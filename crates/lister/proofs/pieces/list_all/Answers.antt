-- `list_all` is safe and ends: where the input or the output does, or after 2^60 bytes. The measure is the number of bytes left. Assumes nothing.
use Rattle.std.proofs.Common.{ℕ, ◌<◌, arith}
use lib.ListN.{length-replicate}
use Rattle.lister.specs.Endings.{IsEnding, GoesOn}
use Rattle.lister.proofs.pieces.list_all.Goals as goal

pub loop-total-init : goal.loop-total-init
loop-total-init c = (length-replicate {A = ℕ} 8192 0, length-replicate {A = ℕ} 761856 0)

pub loop-total-smaller : goal.loop-total-smaller
unfolding GoesOn
loop-total-smaller c =
    let more : c.loop-total.total < c.in-Continue.so_far.bytes = c.in-Continue.ensures.0 in
    omega (arith, more, c.loop-total-test.true)

pub returns-in-Break : goal.returns-in-Break
unfolding GoesOn
returns-in-Break c = c.in-Break.ensures

pub returns : goal.returns
unfolding IsEnding
returns c = omega (arith, c.loop-total-test.false)
