-- `put_signed` meets its contract: a minus sign where the number is negative, and its size. Assumes nothing.
use Rattle.std.proofs.Common.{◌≡◌, ℕ, true, false, List, ◌∷◌, ℤ, pos, negsuc, nat_abs, refl, ap, ◌∙◌, subst, arith}
use borrow.Author.Tests.{ltb-true}
use lib.Signed.{lt_z}
use mir.Facts.{to_z-of_z}
use Rattle.listing.specs.declared.text.Text.{Text}
use Rattle.listing.specs.Adds.{Adds}
use Rattle.listing.specs.Text.{IsDecimal, IsSigned, minus}
use Rattle.listing.proofs.Placed.{joined_adds}
use Rattle.listing.proofs.text.Text.put_signed.Goals.{then-x-lt0, else-x-lt0}
use Rattle.listing.proofs.text.Text.put_signed.Goals as goal

below_zero : (x : ℤ) (n : ℕ) (d : List ℕ) → lt_z x (pos 0) ≡ true → n ≡ nat_abs x → IsDecimal n d → IsSigned x (minus ∷ d)
unfolding IsSigned
below_zero (pos n) k d h e p = absurd (omega (arith, ltb-true n 0 h))
below_zero (negsuc n) k d h e p = (d, subst (λ (i : ℕ). IsDecimal i d) e p, refl)

from_zero : (x : ℤ) (n : ℕ) (d : List ℕ) → lt_z x (pos 0) ≡ false → n ≡ nat_abs x → IsDecimal n d → IsSigned x d
unfolding IsSigned
from_zero (pos n) k d h e p = subst (λ (i : ℕ). IsDecimal i d) e p
from_zero (negsuc n) k d h e p = cc

pub returns : goal.returns
unfolding minus
returns c =
    let x = to_z-of_z c.ranges.x in
    let size = c.unsigned_abs.ensures.value ∙ ap nat_abs x in
    let d = c.put_decimal.ensures in
    elim c.if-x-lt0.branch [
      | then-x-lt0 w ↦
          let b = w.put_byte.ensures in
          record {
            text = minus ∷ d.text;
            is = below_zero c.args.x _ _ (rw x at w.if-x-lt0.true) size d.is;
            short = omega (arith, d.short);
            adds = joined_adds b (subst (λ (t : Text). Adds t d.text c.put_decimal.new.self) w.self-is d.adds);
          }
      | else-x-lt0 w ↦
          record {
            text = d.text;
            is = from_zero c.args.x _ _ (rw x at w.if-x-lt0.false) size d.is;
            short = omega (arith, d.short);
            adds = subst (λ (t : Text). Adds t d.text c.put_decimal.new.self) w.self-is d.adds;
          }
    ]
