-- `write_normal` meets its contract: zero, and any other significand with its top bit moved to 2^63. Assumes nothing.
use mathlib.Core.Path.{◌≡◌, refl, sym, ap, ◌∙◌, subst}
use Prim.Native.Nat.{ℕ, ◌-◌, ◌*◌, ◌%◌, ◌^◌}
use native.Mathlib.Nat.{pos_of_ne-zero, zero-mul, mul-pos, mod-lt}
use native.Mathlib.Omega.{arith}
use borrow.Author.Differences.{ints}
use mir.Val.{to_z, of_z}
use mir.Syntax.{w64}
use lib.Pow.{pow_pos}
use lib.Count.{count_leading_zeros}
use lib.IntN.{ℤ, pos, ◌+ℤ◌, ◌-ℤ◌}
use Rattle.std.specs.Prelude.{Ok}
use Rattle.bounds.proofs.Answers.{decided_said}
use Rattle.bounds.proofs.Verdicts.{handed_on}
use Rattle.word.specs.Reads.{num}
use Rattle.word.proofs.Units.{unit_some}
use Rattle.round.specs.Writes.{WritesShort}
use Rattle.round.specs.Sayings.{WritesShortAndSays}
use Rattle.nearest.specs.declared.size.Rest.{Rest}
use Rattle.nearest.specs.Offers.{IsRest}
use Rattle.nearest.specs.Sayings.{FindsAndSays}
use Rattle.round.proofs.Normal.{zeros_le, shifted_full, shifted_offer}
use Rattle.round.proofs.Rules.{zero_answered, found_refused, settles}
use Rattle.round.proofs.writing.write_normal.Goals as goal

pub returns-then-m-eq0 : goal.returns-then-m-eq0
unfolding WritesShortAndSays WritesShort
returns-then-m-eq0 c = zero_answered _ _ _ _ _ _ (ap (λ (x : ℕ). x * num (c.args.h -ℤ pos 63 +ℤ pos 307)) c.if-m-eq0.true ∙ zero-mul (num (c.args.h -ℤ pos 63 +ℤ pos 307))) c.zero_word.ensures

pub returns-in_err-found : goal.returns-in_err-found
unfolding WritesShortAndSays WritesShort
returns-in_err-found c = decided_said _ _ (handed_on _ _ c.from_residual.ensures.1 (found_refused _ _ _ _ _ _ c.in_err-found.ensures))

pub returns : goal.returns
unfolding WritesShortAndSays WritesShort IsRest
returns c = let m = c.args.m in
    let fits = c.ranges.m.fits in
    let positive = pos_of_ne-zero c.if-m-eq0.false in
    let held : to_z w64 (of_z w64 (to_z w64 (of_z w64 c.args.h) -ℤ to_z w64 (count_leading_zeros 64 c.args.m))) ≡ c.args.h -ℤ pos 63 +ℤ pos (63 - count_leading_zeros 64 c.args.m) = grind (arith, ints, zeros_le c.args.m positive fits) in
    subst (WritesShortAndSays c.args.width.bits c.args.rule c.args.negative m (c.args.h -ℤ pos 63)) (sym c.by_rule.ensures)
    (settles _ c.args.rule c.args.negative _ _ _ _ (shifted_full _ positive fits) (mod-lt _ (pow_pos 64))
    (subst (λ (z : ℤ). FindsAndSays c.args.width.bits c.args.negative z (m * 2 ^ count_leading_zeros 64 m % 2 ^ 64) 0 (Ok c.in_ok-found.found)) held c.in_ok-found.ensures)
    Rest.Nothing refl _ _ (mul-pos positive (unit_some _).0) (unit_some _).1 (shifted_offer _ positive fits (c.args.h -ℤ pos 63)))
