-- `Width::test_word` meets its contract: the word is tested where the width is one. Assumes nothing.
use mathlib.Core.Path.{refl}
use Rattle.std.proofs.lemmas.Result.{err_from_is_err_and}
use Rattle.bounds.proofs.Goods.{good_through, good_refused}
use Rattle.bounds.proofs.width.Width.test_word.Goals as goal

pub returns-in_err-good : goal.returns-in_err-good
returns-in_err-good c = let p = err_from_is_err_and c.from_residual.result c.from_residual.ensures.1 in rw (p.1, p.2, good_refused _ _ c.in_err-good.ensures) refl

pub returns : goal.returns
returns c = let t = good_through _ _ c.in_ok-good.ensures in rw (t.0, ← t.1) c.test_word.ensures
