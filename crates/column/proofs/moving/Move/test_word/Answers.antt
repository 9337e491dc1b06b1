-- `Move::test_word` meets its contract: rounded, a word is refused only for a stray bit; strict, the move itself tells. Assumes nothing.
use mathlib.Core.Path.{refl, sym, ap, ◌∙◌, subst}
use Rattle.std.specs.Prelude.{Err}
use Rattle.std.proofs.lemmas.Result.{err_from_is_err_and}
use Rattle.bounds.specs.Refusals.{Verdict}
use Rattle.bounds.proofs.Verdicts.{width_fits}
use Rattle.round.specs.declared.value.Rule.{Rule}
use Rattle.write.specs.Sayings.{MovesAndSays}
use Rattle.column.specs.Trials.{TriesWord}
use Rattle.column.proofs.Trials.{rounded_tried, word_given, refusal_given}
use Rattle.column.proofs.moving.Move.test_word.Goals as goal

pub returns-in-Rounded : goal.returns-in-Rounded
returns-in-Rounded c =
    let from = width_fits c.args.self.from.bits c.args.self.from.least c.args.self.from.most in
    let to = width_fits c.args.self.to.bits c.args.self.to.least c.args.self.to.most in
    subst (λ (rule : Rule). TriesWord c.args.self.from.bits c.args.self.to.bits rule c.args.word c.test_word.result) (sym c.in-Rounded.is) (rounded_tried _ _ _ _ from to (rw from c.test_word.ensures))

pub returns-in_err-word-in-Strict : goal.returns-in_err-word-in-Strict
unfolding MovesAndSays
returns-in_err-word-in-Strict c =
    let p = err_from_is_err_and c.from_residual.result c.from_residual.ensures.1 in
    subst (λ (v : Verdict). TriesWord c.args.self.from.bits c.args.self.to.bits c.args.self.rule c.args.word v) (sym (p.1 ∙ ap Err p.2)) (refusal_given _ _ _ _ _ c.in_err-word-in-Strict.ensures.answers _ refl)

pub returns-in_ok-word-in-Strict : goal.returns-in_ok-word-in-Strict
unfolding MovesAndSays
returns-in_ok-word-in-Strict c = word_given _ _ _ _ _ c.in_ok-word-in-Strict.ensures.answers _ refl
