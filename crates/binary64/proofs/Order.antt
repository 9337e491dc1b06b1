-- Words taken out keep their order: it is never reversed, and up to width 57 it stays strict. Assumes nothing.
use mathlib.Core.Path.{◌≡◌, refl, sym, ◌∙◌, subst₂}
use mathlib.Core.Bool.{Bool, true, false, cond}
use Prim.Native.Nat.{ℕ, ◌^◌, ◌≤◌}
use lib.Dec.{T}
use lib.IntN.{ℤ, pos, negsuc, pos-ne-negsuc}
use lib.Signed.{lt_z}
use lib.Ieee.{Float, lt, le}
use Rattle.word.specs.Orders.{signed, order}
use Rattle.word.proofs.Values.{order_of_values}
use Rattle.binary64.specs.declared.taking.Binary64.{Binary64}
use Rattle.binary64.specs.Takes.{TakesBinary64}
use Rattle.binary64.proofs.Exactness.{word_exact}
use Rattle.binary64.proofs.Taken.{Taken, taken}
use Rattle.binary64.proofs.Comparisons.{rounded_order, exact_order}

-- what `order` tells
is_below : (a b : ℤ) → order a b ≡ negsuc 0 → lt_z a b ≡ true
unfolding order
is_below a b h = by (lt_z a b) (lt_z b a) h
  where
    by : (s t : Bool) → cond s (negsuc 0) (cond t (pos 1) (pos 0)) ≡ negsuc 0 → s ≡ true
    by true t q = refl
    by false true q = absurd (pos-ne-negsuc 1 0 q)
    by false false q = absurd (pos-ne-negsuc 0 0 q)

-- ---- the laws
module _ (n v w : ℕ) (x y : Float) (p : TakesBinary64 n v (Binary64.Number x)) (q : TakesBinary64 n w (Binary64.Number y)) (less : order (signed n v) (signed n w) ≡ negsuc 0) where
  tv : Taken n v x
  tv = taken n v x p

  tw : Taken n w y
  tw = taken n w y q

  below_it : lt_z tv.z tw.z ≡ true
  below_it = is_below tv.z tw.z (sym (order_of_values n v w tv.word tw.word tv.z tw.z tv.means tw.means) ∙ less)

  pub order_kept : T (le x y)
  order_kept = subst₂ (λ (x y : Float). T (le x y)) (sym tv.is) (sym tw.is) (rounded_order tv.z tw.z below_it)

  pub order_strict : n ≤ 57 → T (lt x y)
  order_strict narrow =
      subst₂ (λ (x y : Float). T (lt x y)) (sym tv.is) (sym tw.is)
      (exact_order _ _ tv.z tw.z (2 ^ 307) (word_exact n v tv.word narrow tv.z tv.means) (word_exact n w tw.word narrow tw.z tw.means) below_it)
