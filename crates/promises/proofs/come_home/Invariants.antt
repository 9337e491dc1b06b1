-- `come_home` meets its contract. The invariant of its loop: whatever is answered for the rest of the widths is answered for all of them. Assumes nothing.
use Rattle.bounds.specs.Refusals.{Answer}
use Prim.Native.Nat.{ℕ}
use lib.ListN.{drop}
use Rattle.promises.specs.Writing.{Goes}
use Rattle.promises.proofs.come_home.Given as goal

abbrev pub invariant-loop-bits : goal.invariant-loop-bits
invariant-loop-bits l = (r : Answer ℕ) → Goes l.width.bits l.here.bits l.carried (drop l.bits-index l.widths) r → Goes l.width.bits l.width.bits l.word l.widths r
