-- `fill_with_digits` meets its contract. Assumes nothing.
use Rattle.std.proofs.Common.{ℕ, ◌/◌, ◌%◌, ◌-◌, List, set, ap, ap₂, ◌∙◌}
use Rattle.io.specs.Digits.{hex_digit_ascii}
use Rattle.listing.proofs.Digits.{one_in_front, less_left}
use Rattle.listing.proofs.text.fill_with_digits.Goals as goal

pub loop-i-preserved : goal.loop-i-preserved
loop-i-preserved c =
    let l = c.loop-i in
    let k = l.invariant in
    let some = c.loop-i-test.true in
    let most = l.auto.i in (
      ap₂ (λ (t : List ℕ) (b : ℕ). set t (l.i - 1) b) k.0 (c.glyph.ensures ∙ ap (λ (x : ℕ). hex_digit_ascii (x % c.args.base)) k.1) ∙ one_in_front c.args.places.now c.args.base c.args.n l.i some most,
      ap (λ (x : ℕ). x / c.args.base) k.1 ∙ less_left c.args.places.now c.args.base c.args.n l.i some most,
    )
