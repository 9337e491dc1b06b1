-- The invariant of the loop of `put_blocks`: the text of the blocks before the rest stands, `here` is the place of the next, and the counts are those of
-- the blocks before the rest. Assumes nothing.
use Rattle.std.proofs.Common.{◌≡◌, ℕ, ◌+◌, ◌*◌, ◌≤◌, List, length}
use Rattle.std.specs.Slice.Iter.{chunks_rest, chunks_size}
use Rattle.listing.specs.Puts.{Puts}
use Rattle.lister.specs.Runs.{blocks}
use Rattle.lister.proofs.Counted as Counted
use Rattle.lister.proofs.Gathered.{SoFar}
use Rattle.lister.proofs.runs.put_blocks.Given as goal

abbrev pub invariant-loop-block : goal.invariant-loop-block
invariant-loop-block l =
    (chunks_size l.block-iterator ≡ 512) × (l.here + blocks (length (chunks_rest l.block-iterator)) ≡ l.place + blocks (length l.piece)) × (l.at + 47616 * l.place ≤ 47616 * l.here) × (l.place ≤ l.here) × (t : List ℕ) × Puts l.initial.out 0 t l.out l.at × SoFar l.piece l.place (chunks_rest l.block-iterator) l.here t × Counted.SoFar l.piece l.initial.counts.by_number (chunks_rest l.block-iterator) l.counts.by_number
