-- `Width::good` meets its contract: the answer follows the verdict. Assumes nothing.
use mathlib.Core.Path.{refl, sym}
use Rattle.bounds.specs.Refusals.{through}
use Rattle.bounds.specs.Widths.{IsGood}
use Rattle.bounds.proofs.Verdicts.{width_through, handed_on}
use Rattle.bounds.proofs.width.Width.good.Goals as goal

pub invariant_of-result : goal.invariant_of-result
invariant_of-result c = let t = width_through _ (sym c.in_ok-test.ensures) in record { least = t.0; most = t.1 }

pub returns-in_err-test : goal.returns-in_err-test
unfolding IsGood
returns-in_err-test c = handed_on _ _ c.from_residual.ensures.1 (sym c.in_err-test.ensures)

pub returns : goal.returns
unfolding IsGood
returns c = through (sym c.in_ok-test.ensures) (_, refl, refl)
