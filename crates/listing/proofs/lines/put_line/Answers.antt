-- `put_line` meets its contract. Assumes nothing.
use Rattle.std.proofs.Common.{refl, arith, length-append}
use Rattle.listing.specs.Text.{newline, IsLine}
use Rattle.listing.proofs.Placed.{joined_adds}
use Rattle.listing.proofs.lines.put_line.Goals as goal

pub returns : goal.returns
unfolding IsLine newline
returns c =
    let b = c.put_field.ensures in
    let p = c.put_field-2.ensures in
    let h = c.put_hex.ensures in
    let x = c.put_whole.ensures in
    let o = c.put_own.ensures in
    let l = c.put_old.ensures in
    record {
      text = _;
      is = (_, _, _, _, b.is, p.is, x.is, o.is, rw (h.is, l.is) refl);
      short = simp length-append (omega (arith, b.short, p.short, h.short, x.short, o.short, l.short));
      adds = joined_adds (joined_adds (joined_adds (joined_adds (joined_adds (joined_adds b.adds p.adds) h.adds) x.adds) o.adds) l.adds) c.put_byte.ensures;
    }
