-- What `compare` answers is the paper's -1, 0 or 1 by its number. Assumes nothing.
use mathlib.Core.Path.{◌≡◌, refl}
use mathlib.Core.Bool.{Bool, true, false, cond}
use lib.IntN.{ℤ, pos, negsuc}
use Rattle.std.specs.declared.cmp.Ordering.TheVariants.{Less, Equal, Greater}
use Rattle.std.specs.Int.Signed.{lt_z}
use Rattle.std.specs.Ordering.{int_cmp}
use Rattle.word.specs.Orders.{order}
use Rattle.order.specs.Orders.{order_number}

pub order_number_is : (x y : ℤ) → order_number (int_cmp x y) ≡ order x y
unfolding order
order_number_is x y = by (lt_z x y) (lt_z y x)
  where
    by : (a b : Bool) → order_number (cond a Less (cond b Greater Equal)) ≡ cond a (negsuc 0) (cond b (pos 1) (pos 0))
    by true b = refl
    by false true = refl
    by false false = refl
