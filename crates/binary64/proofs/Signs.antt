-- A sign is changed without a rounding: the negative of a rounded size is the rounded size with its sign. Assumes nothing.
use mathlib.Core.Path.{◌≡◌, refl, sym, ap, ◌∙◌}
use mathlib.Core.Bool.{Bool, true, false, cond}
use Prim.Native.Nat.{ℕ, zero, suc, ◌*◌, ◌^◌}
use lib.Dec.{ltb}
use lib.Ieee.{Float, nan, inf, fin, Format, prec, low, odd, units, round, neg}
use lib.Ieee.Fits.{round_is}
use lib.Ieee.Scale.{overflow}

odd_negated : (d q k l : ℕ) → neg (odd d false q k l) ≡ odd d true q k l
unfolding neg odd
odd_negated d zero k l = refl
odd_negated d (suc q) k l = refl

units_negated : (f : Format) (q k : ℕ) → neg (units f false q k) ≡ units f true q k
unfolding units
units_negated f q k = by (ltb (q * 2 ^ k) (overflow f))
  where
    by : (b : Bool) → neg (cond b (odd (suc (prec f)) false q k (low f)) (inf false)) ≡ cond b (odd (suc (prec f)) true q k (low f)) (inf true)
    by true = odd_negated (suc (prec f)) q k (low f)
    by false = unfold neg in refl

pub round_negated : (f : Format) (a c : ℕ) → neg (round f false a c) ≡ round f true a c
round_negated f a c = ap neg (round_is f false a c) ∙ units_negated f _ _ ∙ sym (round_is f true a c)

pub neg_neg : (x : Float) → neg (neg x) ≡ x
unfolding neg
neg_neg nan = refl
neg_neg (inf true) = refl
neg_neg (inf false) = refl
neg_neg (fin true m e) = refl
neg_neg (fin false m e) = refl
