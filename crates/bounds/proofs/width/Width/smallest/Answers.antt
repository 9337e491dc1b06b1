-- `Width::smallest` meets its contract: the answer follows the verdict. Assumes nothing.
use mathlib.Core.Path.{refl, sym}
use Rattle.bounds.specs.Refusals.{through}
use Rattle.bounds.specs.Widths.{GivesWord, smallest}
use Rattle.bounds.proofs.Verdicts.{handed_on}
use Rattle.bounds.proofs.width.Width.smallest.Goals as goal

pub returns-in_err-test : goal.returns-in_err-test
unfolding GivesWord
returns-in_err-test c = handed_on _ _ c.from_residual.ensures.1 (sym c.in_err-test.ensures)

pub returns : goal.returns
unfolding GivesWord smallest
returns c = through (sym c.in_ok-test.ensures) refl
