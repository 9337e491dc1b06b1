-- `Move::test_words` meets its contract. Assumes nothing.
use mathlib.Core.Path.{refl}
use Rattle.column.specs.Trials.{TriesWords}
use Rattle.column.proofs.Walks.{none_tried, one_more_tried, first_refused, all_tried}
use Rattle.column.proofs.moving.Move.test_words.Goals as goal

pub loop-position-init : goal.loop-position-init
loop-position-init c = none_tried _ _ _ _

pub returns-in-Err : goal.returns-in-Err
returns-in-Err c = first_refused _ _ _ _ _ _ c.loop-position-test.true c.in-Err.ensures c.loop-position.invariant

pub loop-position-preserved : goal.loop-position-preserved
loop-position-preserved c = one_more_tried _ _ _ _ _ _ c.in_default.ensures c.loop-position.invariant refl

pub returns : goal.returns
unfolding TriesWords
returns c = all_tried _ _ _ _ _ c.loop-position-test.false c.loop-position.invariant
