-- `put_lines` meets its contract. Assumes nothing.
use Rattle.std.proofs.Common.{◌++◌, arith, length-append}
use Rattle.listing.proofs.Placed.{joined_adds}
use Rattle.listing.proofs.Listed.{one_more, all_of_them}
use Rattle.listing.proofs.blocks.put_lines.Goals as goal

pub overflow_cast-position : goal.overflow_cast-position
overflow_cast-position c = record { fits = omega (arith, c.loop-position-test.true, c.requires.1) }

pub loop-position-preserved : goal.loop-position-preserved
loop-position-preserved c =
    let l = c.loop-position in
    let k = l.invariant in
    let p = c.put_line.ensures in (
      k.0 ++ p.text,
      simp length-append (omega (arith, k.1, p.short)),
      joined_adds k.2 p.adds,
      one_more c.args.block.number c.args.block.width c.args.words.now l.position k.0 p.text c.loop-position-test.true k.3 p.is,
    )

pub returns : goal.returns
returns c =
    let l = c.loop-position in
    let k = l.invariant in
    record { text = k.0; is = all_of_them c.args.block.number c.args.block.width c.args.words.now l.position k.0 c.loop-position-test.false k.3; short = omega (arith, k.1, l.auto.position-end); adds = k.2 }
