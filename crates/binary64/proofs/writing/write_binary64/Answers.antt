-- `write_binary64` meets its contract: a number is what its bits stand for. Assumes nothing.
use mathlib.Core.Path.{sym, ap, ◌∙◌, subst}
use lib.Dec.{T}
use lib.Ieee.{Float, binary64, of_bits}
use lib.Ieee.Bits.{of_bits-to_bits}
use Rattle.binary64.specs.Sayings.{WritesBinary64AndSays}
use Rattle.binary64.proofs.writing.write_binary64.Goals as goal

pub returns : goal.returns
returns c =
    let fits = subst T (sym c.well_formed.1.1.0.1) tt in
    subst (λ (x : Float). WritesBinary64AndSays c.args.width.bits c.args.rule x c.write_bits.result) (ap (of_bits binary64) c.f64_to_bits_with_nan.ensures ∙ of_bits-to_bits binary64 c.args.x fits) c.write_bits.ensures
