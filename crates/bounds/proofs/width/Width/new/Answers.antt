-- `Width::new` meets its contract: the answer follows the verdict. Assumes nothing.
use mathlib.Core.Path.{refl, sym}
use Rattle.bounds.specs.Refusals.{through}
use Rattle.bounds.specs.Widths.{Makes}
use Rattle.bounds.proofs.Verdicts.{handed_on}
use Rattle.bounds.proofs.width.Width.new.Goals as goal

pub returns-in_err-test : goal.returns-in_err-test
unfolding Makes
returns-in_err-test c = handed_on _ _ c.from_residual.ensures.1 (sym c.in_err-test.ensures)

pub returns : goal.returns
unfolding Makes
returns c = through (sym c.in_ok-test.ensures) refl
