-- `with_sign` meets its contract: the opposite by its place above NaR. Assumes nothing.
use mathlib.Core.Bool.{Bool}
use mathlib.Core.Path.{sym, ap, ◌∙◌}
use Prim.Native.Nat.{ℕ, ◌^◌, ◌≤◌}
use native.Mathlib.Omega.{arith}
use lib.Pow.{pow_mono}
use Rattle.bounds.specs.Widths.{nar_word}
use Rattle.bounds.proofs.Powers.{twice}
use Rattle.word.proofs.Signed.{negated_other}
use Rattle.nearest.specs.Parts.{with_sign}
use Rattle.nearest.proofs.size.with_sign.Goals as goal

most : (n : ℕ) → n ≤ 64 → 2 ^ n ≤ 2 ^ 64
most n hi = pow_mono {i = n} {j = 64} hi

pub overflow_sub-result : goal.overflow_sub-result
unfolding nar_word
overflow_sub-result c = omega (arith, c.nar-nar.ensures, c.requires.1)

pub overflow_add-result : goal.overflow_add-result
unfolding nar_word
overflow_add-result c = record { fits = omega (arith, c.nar-nar.ensures, twice c.args.width.bits c.args.width.least, most c.args.width.bits c.args.width.most, c.requires.0, c.requires.1) }

pub returns-then-negative : goal.returns-then-negative
unfolding with_sign nar_word
returns-then-negative c = sym (ap (λ (b : Bool). with_sign c.args.width.bits b c.args.word) c.if-negative.true ∙ negated_other c.args.width.bits c.args.word c.requires.0 (omega (arith, twice c.args.width.bits c.args.width.least, c.requires.1)) ∙ omega (arith, c.nar-nar.ensures, twice c.args.width.bits c.args.width.least, c.requires.1))

pub returns : goal.returns
unfolding with_sign
returns c = sym (ap (λ (b : Bool). with_sign c.args.width.bits b c.args.word) c.if-negative.false)
