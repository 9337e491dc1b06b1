-- `GoodWidth::ones` meets its contract: 64 ones, shifted right by 64 - n, are n ones. Assumes nothing.
use native.Mathlib.Omega.{arith}
use Rattle.bounds.proofs.Powers.{ones_shr}
use Rattle.bounds.proofs.good.GoodWidth.ones.Goals as goal

pub returns : goal.returns
returns c = ones_shr _ _ 64 (omega (arith, c.args.self.most))
