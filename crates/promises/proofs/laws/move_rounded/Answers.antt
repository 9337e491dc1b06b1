-- `move_rounded` meets its contract: what `move_word` answers, without its saying. Assumes nothing.
use mathlib.Core.Path.{sym, subst}
use Rattle.round.specs.declared.value.Rule.{Rule}
use Rattle.write.specs.Writes.{Moves}
use Rattle.write.specs.Sayings.{MovesAndSays}
use Rattle.promises.proofs.Moving.{handed}
use Rattle.promises.proofs.laws.move_rounded.Goals as goal

pub returns-in_err-move_word : goal.returns-in_err-move_word
unfolding MovesAndSays
returns-in_err-move_word c = subst (Moves _ _ Rule.Rounded _) (sym (handed _ _ c.from_residual.ensures.1)) c.in_err-move_word.ensures.answers

pub returns : goal.returns
unfolding MovesAndSays
returns c = c.in_ok-move_word.ensures.answers
