-- `put_decimal` meets its contract. Assumes nothing.
use Rattle.std.proofs.Common.{refl, arith}
use Rattle.listing.specs.Text.{IsDecimal}
use Rattle.listing.proofs.Digits.{as_many}
use Rattle.listing.proofs.text.Text.put_decimal.Goals as goal

pub returns : goal.returns
unfolding IsDecimal
returns c =
    let k = c.places.ensures in
    record { text = _; is = (_, k.0, refl); short = omega (arith, as_many 10 c.places.result c.args.n, k.1); adds = c.put_digits.ensures }
