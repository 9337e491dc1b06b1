-- `sums_of` meets its contract. Assumes nothing.
use Rattle.std.proofs.Common.{refl}
use Rattle.sheet.proofs.Checks.{summed_none, block_more, block_all}
use Rattle.sheet.proofs.sums.sums_of.Goals as goal

pub loop-i-init : goal.loop-i-init
loop-i-init c = summed_none _

pub loop-i-preserved : goal.loop-i-preserved
loop-i-preserved c =
    block_more c.args.block.all.now _ _ _ _ c.loop-i-test.true c.number.ensures.0 c.loop-i.invariant _ _ refl refl

pub returns : goal.returns
returns c = block_all c.args.block.all.now _ _ _ c.loop-i-test.false c.loop-i.invariant
