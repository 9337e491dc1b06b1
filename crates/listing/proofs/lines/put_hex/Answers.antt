-- `put_hex` meets its contract: a word of at most 64 bits has at most 16 digits. Assumes nothing.
use Rattle.std.proofs.Common.{◌/◌, refl, arith}
use Rattle.listing.specs.Text.{hex_of}
use Rattle.listing.proofs.Digits.{as_many}
use Rattle.listing.proofs.lines.put_hex.Goals as goal

pub returns : goal.returns
unfolding hex_of
returns c = record { text = _; is = refl; short = omega (arith, as_many 16 (c.args.width.bits / 4) c.args.word, c.requires.0); adds = c.put_digits.ensures }
