-- `write_whole` meets its contract: the number's sign and size are offered, with exponent 0. Assumes nothing.
use Rattle.std.specs.Prelude.{Err}
use mathlib.Core.Path.{◌≡◌, refl, ap, ◌∙◌, subst₂}
use mathlib.Core.Bool.{Bool}
use Prim.Native.Nat.{ℕ, ◌*◌, ◌^◌}
use lib.Dec.{leb-suc-zero}
use lib.IntN.{ℤ, pos, negsuc, nat_abs}
use lib.Signed.{lt_z}
use mir.Facts.{to_z-of_z}
use Rattle.word.specs.Reads.{num, den}
use Rattle.bounds.specs.Refusals.{Answer, width_test, Decided}
use Rattle.bounds.specs.Sayings.{AndSays}
use Rattle.nearest.specs.Sayings.{Says}
use Rattle.round.specs.Writes.{IsWritten}
use Rattle.write.specs.Writes.{is_negative, Writes}
use Rattle.write.specs.Sayings.{WritesAndSays}
use Rattle.whole.specs.Wholes.{WritesWhole}
use Rattle.whole.specs.Sayings.{WritesWholeAndSays}
use Rattle.whole.proofs.writing.write_whole.Goals as goal

-- the machine's test of the sign
below_zero : (x : ℤ) → lt_z x (pos 0) ≡ is_negative x
unfolding is_negative
below_zero (pos i) = leb-suc-zero i
below_zero (negsuc i) = refl

pub returns : goal.returns
unfolding WritesAndSays Writes WritesWholeAndSays WritesWhole num den
returns c =
    subst₂
    (λ (b : Bool) (a : ℕ). AndSays (λ (t : Answer ℕ). Decided (width_test c.args.width.bits) (λ q. t ≡ Err q) (IsWritten c.args.width.bits c.args.rule b (a * 2 ^ 307) 1 t)) (Says c.args.width.bits b (a * 2 ^ 307) 1) c.write.result)
    (ap (λ (z : ℤ). lt_z z (pos 0)) (to_z-of_z c.ranges.x) ∙ below_zero c.args.x) (c.unsigned_abs.ensures.value ∙ ap nat_abs (to_z-of_z c.ranges.x)) c.write.ensures
