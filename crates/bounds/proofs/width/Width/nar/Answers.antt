-- `Width::nar` meets its contract: the answer follows the verdict. Assumes nothing.
use mathlib.Core.Path.{ap, ◌∙◌}
use Rattle.std.specs.Prelude.{Ok}
use Rattle.bounds.specs.Refusals.{through}
use Rattle.bounds.specs.Widths.{GivesWord, nar_word}
use Rattle.bounds.proofs.Goods.{good_through, good_refused}
use Rattle.bounds.proofs.Verdicts.{handed_on}
use Rattle.bounds.proofs.width.Width.nar.Goals as goal

pub returns-in_err-good : goal.returns-in_err-good
unfolding GivesWord
returns-in_err-good c = handed_on _ _ c.from_residual.ensures.1 (good_refused _ _ c.in_err-good.ensures)

pub returns : goal.returns
unfolding GivesWord
returns c = let t = good_through _ _ c.in_ok-good.ensures in through t.0 (ap Ok (c.nar.ensures ∙ ap nar_word t.1))
