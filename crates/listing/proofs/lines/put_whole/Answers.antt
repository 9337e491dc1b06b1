-- `put_whole` meets its contract. Assumes nothing.
use Rattle.std.proofs.Common.{refl, arith, length-append}
use Rattle.listing.specs.Text.{IsWholeText, space}
use Rattle.listing.proofs.Placed.{joined_adds}
use Rattle.listing.proofs.lines.put_whole.Goals as goal

pub returns : goal.returns
unfolding IsWholeText space
returns c =
    let x = c.put_shown.ensures in
    record { text = _; is = (_, _, c.take_whole.ensures, x.is, refl); short = simp length-append (omega (arith, x.short)); adds = joined_adds c.put_byte.ensures x.adds }
