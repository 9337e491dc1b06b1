-- `zero_word` meets its contract: the width, and zero. Assumes nothing.
use mathlib.Core.Path.{sym, ap}
use Rattle.std.specs.Prelude.{Ok}
use Rattle.bounds.specs.Refusals.{through}
use Rattle.bounds.proofs.Verdicts.{handed_on}
use Rattle.round.specs.Offers.{WritesZero}
use Rattle.round.proofs.writing.zero_word.Goals as goal

pub returns-in_err-test : goal.returns-in_err-test
unfolding WritesZero
returns-in_err-test c = handed_on _ _ c.from_residual.ensures.1 (sym c.in_err-test.ensures)

pub returns : goal.returns
unfolding WritesZero
returns c = through (sym c.in_ok-test.ensures) (ap Ok c.exactly.ensures)
