-- `GoodWidth::largest` meets its contract: 64 ones, shifted right by 65 - n, are the largest word. Assumes nothing.
use native.Mathlib.Omega.{arith}
use Rattle.bounds.specs.Widths.{largest}
use Rattle.bounds.proofs.Powers.{ones_shr}
use Rattle.bounds.proofs.good.GoodWidth.largest.Goals as goal

pub returns : goal.returns
unfolding largest
returns c = ones_shr _ _ 64 (omega (arith, c.args.self.least, c.args.self.most))
