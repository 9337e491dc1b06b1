-- The invariant of the loop of `test_words`: every word before the position is moved to some word. Assumes nothing.
use Rattle.column.specs.Columns.{MovableUpTo}
use Rattle.column.proofs.moving.Move.test_words.Given as goal

abbrev pub invariant-loop-position : goal.invariant-loop-position
invariant-loop-position l = MovableUpTo l.self.from.bits l.self.to.bits l.self.rule l.words l.position
