-- `Width::test` meets its contract: the three ways out are the three places of a number beside 2 to 64. Assumes nothing.
use mathlib.Core.Path.{sym}
use native.Mathlib.Omega.{arith}
use Rattle.bounds.proofs.Verdicts.{width_fits, width_short, width_long}
use Rattle.bounds.proofs.width.Width.test.Goals as goal

pub returns-then-n-lt-LEAST : goal.returns-then-n-lt-LEAST
returns-then-n-lt-LEAST c = sym (width_short _ (omega arith))

pub returns-then-n-gt-GREATEST : goal.returns-then-n-gt-GREATEST
returns-then-n-gt-GREATEST c = sym (width_long _ (omega arith) (omega arith))

pub returns : goal.returns
returns c = sym (width_fits _ (omega arith) (omega arith))
