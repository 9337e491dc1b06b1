-- The invariant of the loop of `put_lines`: the lines of the words before this one stand. Assumes nothing.
use Rattle.std.proofs.Common.{ℕ, ◌*◌, ◌≤◌, List, length}
use Rattle.listing.specs.Adds.{Adds}
use Rattle.listing.proofs.Listed.{SoFar}
use Rattle.listing.proofs.blocks.put_lines.Given as goal

abbrev pub invariant-loop-position : goal.invariant-loop-position
invariant-loop-position l = (t : List ℕ) × (length t ≤ 96 * l.position) × Adds l.initial.text t l.text × SoFar l.block.number l.block.width l.words l.position t
