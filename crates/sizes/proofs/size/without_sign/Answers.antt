-- `without_sign` meets its contract. Assumes nothing.
use mathlib.Core.Path.{refl}
use native.Mathlib.Omega.{arith}
use borrow.Author.Tests.{lt-ltb, le-ltb}
use Rattle.sizes.specs.Sizes.{without_sign}
use Rattle.sizes.proofs.size.without_sign.Goals as goal

pub returns-then-t : goal.returns-then-t
unfolding without_sign
returns-then-t c = rw (lt-ltb _ _ c.if-t.true) refl

pub returns : goal.returns
unfolding without_sign
returns c = rw (le-ltb _ _ c.if-t.false) (omega (arith, c.if-t.false, c.ranges.t.fits, c.wrapping_neg.ensures, c.wrapping_neg.type_inv))
