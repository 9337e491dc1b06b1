-- The invariant of the loop of `unpack_by`: it goes over as many results as there are words, and they are the first i words and then what stood there.
-- Assumes nothing.
use Rattle.std.proofs.Common.{◌≡◌, ◌++◌, take, drop}
use Rattle.sheet.specs.Layout.{packed}
use Rattle.sheet.proofs.words.unpack_by.Given as goal

abbrev pub invariant-loop-i : goal.invariant-loop-i
invariant-loop-i g l = (l.i-end ≡ l.count) × (l.result-items ≡ take l.i (packed g.row.N l.count (drop 8 l.block)) ++ drop l.i l.initial.result-items)
