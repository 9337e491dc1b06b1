-- `low_bits` meets its contract: a mask of ones leaves the remainder. Assumes nothing.
use mathlib.Core.Path.{ap, ◌∙◌}
use Prim.Native.Nat.{ℕ, ◌-◌}
use lib.Bits.{bit_and, and_mask}
use Rattle.word.proofs.bits.low_bits.Goals as goal

pub returns : goal.returns
returns c = ap (λ (y : ℕ). bit_and c.args.x (y - 1)) c.power_of_two.ensures ∙ and_mask _ _
