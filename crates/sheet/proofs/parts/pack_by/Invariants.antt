-- The invariant of the loop of `pack_by`: it goes over all words, and the first i of them are packed. Assumes nothing.
use Rattle.std.proofs.Common.{◌≡◌, length}
use Rattle.sheet.specs.Puts.{Packs}
use Rattle.sheet.proofs.parts.pack_by.Given as goal

abbrev pub invariant-loop-i : goal.invariant-loop-i
invariant-loop-i g l = (l.i-end ≡ length l.words) × Packs g.row.N l.words l.i l.initial.buffer l.buffer
