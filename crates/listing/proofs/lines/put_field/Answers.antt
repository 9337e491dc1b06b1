-- `put_field` meets its contract. Assumes nothing.
use Rattle.std.proofs.Common.{ℕ, refl, subst, arith, length-append}
use Rattle.listing.specs.Text.{IsDecimal, IsField, space}
use Rattle.listing.proofs.Digits.{short_decimal}
use Rattle.listing.proofs.Placed.{joined_adds}
use Rattle.listing.proofs.lines.put_field.Goals as goal

pub returns : goal.returns
unfolding IsField space
returns c =
    let d = c.put_decimal.ensures in
    record { text = _; is = (_, subst (λ (k : ℕ). IsDecimal k d.text) c.from.ensures d.is, refl); short = simp length-append (omega (arith, short_decimal c.args.n d.text c.ranges.n.fits (subst (λ (k : ℕ). IsDecimal k d.text) c.from.ensures d.is))); adds = joined_adds d.adds c.put_byte.ensures }
