-- `put_refused` meets its contract. Assumes nothing.
use Rattle.std.proofs.Common.{ℕ, refl, ◌∙◌, subst, arith, length-append}
use Rattle.listing.specs.Text.{IsDecimal, IsRefusedLine, block_text, refused_text, space, newline}
use Rattle.listing.proofs.Placed.{joined_adds}
use Rattle.listing.proofs.blocks.put_refused.Goals as goal

pub returns : goal.returns
unfolding IsRefusedLine block_text refused_text space newline
returns c =
    let d = c.put_decimal.ensures in
    let e = c.put_decimal-2.ensures in
    record {
      text = _;
      is = (_, _, d.is, subst (λ (k : ℕ). IsDecimal k e.text) (c.from.ensures ∙ c.number.ensures) e.is, refl);
      short = simp length-append (omega (arith, d.short, e.short));
      adds = joined_adds (joined_adds (joined_adds (joined_adds c.put_text.ensures d.adds) c.put_text-2.ensures) e.adds) c.put_byte.ensures;
    }
