-- `list_all` is safe and ends: where the input or the output does, or after 2^60 bytes. The measure is the number of bytes left. Assumes nothing.
use Rattle.std.proofs.Common.{◌≡◌, ◌-◌, ◌^◌, length}
use Rattle.lister.proofs.pieces.list_all.Given as goal

abbrev pub invariant-loop-total : goal.invariant-loop-total
invariant-loop-total l = (length l.piece ≡ 8192) × (length l.text ≡ 761856)

abbrev pub decreases-loop-total : goal.decreases-loop-total
decreases-loop-total l = 2 ^ 60 - l.total
