-- The invariant of the loop of `write_words`: it goes over all words, the first i results are the moved words, the others are as they were. Assumes nothing.
use mathlib.Core.Path.{◌≡◌}
use lib.ListN.{length}
use Rattle.column.specs.Columns.{AreMoved}
use Rattle.column.specs.Counts.{Counts, KeepsTheMeaning}
use Rattle.column.proofs.moving.Move.write_words.Given as goal

abbrev pub invariant-loop-i : goal.invariant-loop-i
invariant-loop-i l = (l.i-end ≡ length l.words) × AreMoved l.self.from.bits l.self.to.bits l.self.rule l.words l.i l.initial.results l.results × Counts (KeepsTheMeaning l.self.from.bits l.self.to.bits l.words l.results) l.i l.exact
