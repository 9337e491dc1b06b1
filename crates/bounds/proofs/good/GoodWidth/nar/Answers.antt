-- `GoodWidth::nar` meets its contract: NaR is the sign bit alone. Assumes nothing.
use native.Mathlib.Omega.{arith}
use Rattle.bounds.specs.Widths.{nar_word}
use Rattle.bounds.proofs.Powers.{one_shl}
use Rattle.bounds.proofs.good.GoodWidth.nar.Goals as goal

pub returns : goal.returns
unfolding nar_word
returns c = one_shl 64 _ (omega (arith, c.args.self.least, c.args.self.most))
