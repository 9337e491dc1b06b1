-- `as_signed` meets its contract: below half the words the number is the word, above it is the word less 2^n. Assumes nothing.
use mathlib.Core.Path.{◌≡◌, sym, ap, ◌∙◌, subst}
use Prim.Native.Nat.{ℕ, ◌-◌, ◌^◌, ◌≤◌, ◌<◌}
use native.Mathlib.Nat.{lt_of_lt_of_le}
use native.Mathlib.Omega.{arith}
use lib.Pow.{pow_mono, pow_pos}
use lib.IntN.{ℤ, negsuc, ◌-ℤ◌}
use mir.Syntax.{w64}
use mir.Val.{SFits, to_z, of_z}
use mir.Facts.{to_z_pos, to_z-of_z}
use Rattle.word.proofs.Signed.{signed_low, signed_high, minus_one_less}
use Rattle.bounds.proofs.Powers.{twice}
use Rattle.word.specs.Orders.{signed}
use Rattle.bounds.specs.Refusals.{IsWord}
use Rattle.bounds.specs.Widths.{nar_word}
use Rattle.order.proofs.order.as_signed.Goals as goal

small : (n w : ℕ) → IsWord n w → w < 2 ^ (n - 1) → w < 2 ^ 63
small n w word h = lt_of_lt_of_le h (pow_mono {i = n - 1} {j = 63} (omega arith))

module _ (n w all : ℕ) (is : all ≡ 2 ^ n - 1) (word : IsWord n w) (half : 2 ^ (n - 1) ≤ w) where
  -- how far the word is below all ones
  gap : all - w < 2 ^ 63
  gap = lt_of_lt_of_le (omega (arith, twice n (omega arith), pow_pos (n - 1))) (pow_mono {i = n - 1} {j = 63} (omega arith))

  less : negsuc 0 -ℤ to_z w64 (all - w) ≡ negsuc (all - w)
  less = ap (λ (z : ℤ). negsuc 0 -ℤ z) (to_z_pos w64 gap) ∙ minus_one_less (all - w)

  high_fits : SFits w64 (negsuc 0 -ℤ to_z w64 (all - w))
  high_fits = subst (λ (z : ℤ). SFits w64 z) (sym less) (record { sfits = gap })

  high : to_z w64 (of_z w64 (negsuc 0 -ℤ to_z w64 (all - w))) ≡ signed n w
  high = to_z-of_z high_fits ∙ less ∙ ap (λ (x : ℕ). negsuc (x - w)) is ∙ sym (signed_high n w half word.fits)

below : (c : goal.Then-word-nar) → c.args.word < 2 ^ (c.args.good.bits - 1)
unfolding nar_word
below c = omega (arith, c.nar.ensures, c.if-word-nar.true)

from_half : (c : goal.After-ones) → 2 ^ (c.args.good.bits - 1) ≤ c.args.word
unfolding nar_word
from_half c = omega (arith, c.nar.ensures, c.if-word-nar.false)

pub overflow_cast-result : goal.overflow_cast-result
overflow_cast-result c = record { sfits = small _ _ c.requires (below c) }

pub returns-then-word-nar : goal.returns-then-word-nar
returns-then-word-nar c = to_z_pos w64 (small _ _ c.requires (below c)) ∙ sym (signed_low _ _ (below c))

pub overflow_cast-result-2 : goal.overflow_cast-result-2
overflow_cast-result-2 c = record { sfits = gap _ _ _ c.ones.ensures c.requires (from_half c) }

pub returns : goal.returns
returns c = high _ _ _ c.ones.ensures c.requires (from_half c)
