-- `pack_by` meets its contract. Assumes nothing.
use Rattle.std.proofs.Common.{length, arith}
use Rattle.sheet.specs.Puts.{AreOfBytes}
use Rattle.sheet.proofs.Packing.{word_inside}
use Rattle.sheet.proofs.Puts.{packs_more}
use Rattle.sheet.proofs.parts.pack_by.Goals as goal

pub put-requires : goal.put-requires
unfolding AreOfBytes
put-requires g c =
    let here = c.loop-i-test.true in
    let inside = word_inside g.row.N (length c.args.words.now) c.loop-i.i (omega (arith, here, c.loop-i.invariant.0)) in
    (c.requires.0, omega (arith, inside, c.requires.1, c.loop-i.invariant.1.within.size), c.requires.2 _ (omega (arith, here, c.loop-i.invariant.0)))

pub loop-i-preserved : goal.loop-i-preserved
loop-i-preserved g c = (c.loop-i.invariant.0, packs_more _ _ _ _ _ _ c.loop-i.invariant.1 c.put.ensures)
