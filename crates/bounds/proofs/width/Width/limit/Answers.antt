-- `Width::limit` meets its contract: the limit is the power of two of its exponent. Assumes nothing.
use mathlib.Core.Path.{refl, sym}
use Prim.Native.Nat.{◌<◌}
use Rattle.bounds.specs.Refusals.{through}
use Rattle.bounds.specs.Widths.{GivesLimit}
use Rattle.bounds.proofs.Powers.{one_shl}
use Rattle.bounds.proofs.Verdicts.{width_through, handed_on}
use Rattle.bounds.proofs.Limits.{exponent_small}
use Rattle.bounds.proofs.width.Width.limit.Goals as goal

-- once the test has let the width through, the exponent is below 64
small : (c : goal.After-limit_exponent) → c.limit_exponent.result < 64
small c = exponent_small _ (width_through _ (sym c.in_ok-test.ensures)).1 c.limit_exponent.ensures

pub overflow_shl-result : goal.overflow_shl-result
overflow_shl-result c = small c

pub returns-in_err-test : goal.returns-in_err-test
unfolding GivesLimit
returns-in_err-test c = handed_on _ _ c.from_residual.ensures.1 (sym c.in_err-test.ensures)

pub returns : goal.returns
unfolding GivesLimit
returns c = through (sym c.in_ok-test.ensures) (_, refl, record { v = c.limit_exponent.result; is = c.limit_exponent.ensures; limit = one_shl 64 _ (small c) })
