-- A word that is neither zero nor NaR is a number: sign, exponent and significand. Assumes nothing.
use mathlib.Core.Path.{◌≡◌, sym, ap, subst}
use mathlib.Core.Bool.{Bool}
use Prim.Native.Nat.{ℕ, ◌-◌, ◌^◌, ◌≤◌, ◌<◌, max}
use native.Mathlib.Nat.{le_of_eq}
use native.Mathlib.Omega.{arith}
use native.Mathlib.Decide.{dec_le}
use lib.IntN.{ℤ, pos, negsuc, neg_ℤ, +ℤ_idl}
use lib.Signed.{mag}
use Rattle.bounds.specs.Refusals.{IsWord}
use Rattle.bounds.proofs.Powers.{shl_below}
use Rattle.word.specs.Takum.{Takum, real, S, p, F, c, value, N, padded, takum, fraction_bits}
use Rattle.word.specs.Reads.{IsNumber}
use Rattle.word.proofs.Numbers.{positive_number, negative_power, negative_number, sign_one, characteristic_of_string}
use Rattle.word.proofs.Signed.{sub_mag}
use Rattle.word.proofs.Words.{takum_number}

pub record Holds (n w : ℕ) : Type 0 where
  pub sign : Bool
  pub h : ℤ
  pub m : ℕ
  pub number : IsNumber (takum n w) (fraction_bits n w) sign h m (fraction_bits n w)
  pub small : mag h ≤ 255

pub holds : (n w : ℕ) → IsWord n w → (w ≡ 0 → ⊥) → (w ≡ 2 ^ (n - 1) → ⊥) → Holds n w
unfolding N padded fraction_bits
holds n w i not_zero not_nar = by (dec_le (S (N n) T) 0) (dec_le (F (N n) T) 0)
  where
    T : ℕ
    T = padded n w

    long : 12 ≤ N n
    long = omega arith

    most : N n ≤ 64
    most = omega (arith, i.most)

    fits : T < 2 ^ N n
    fits = shl_below n (max n 12 - n) (max n 12) i.fits (omega arith)

    means : takum n w ≡ real (value (N n) T)
    means = takum_number n w i.least i.most i.fits not_zero not_nar

    none : {x : ℕ} → x ≤ 0 → x ≡ 0
    none h = omega (arith, h)

    some_left : {x : ℕ} → ¬ (x ≤ 0) → x ≡ 0 → ⊥
    some_left f q = f (le_of_eq q)

    means_it : {s : Bool} {h : ℤ} {m : ℕ} → IsNumber (real (value (N n) T)) (p (N n) T) s h m (p (N n) T) → mag h ≤ 255 → Holds n w
    means_it {s} {h} {m} x b = record { sign = s; h = h; m = m; number = subst (λ (t : Takum). IsNumber t (p (N n) T) s h m (p (N n) T)) (sym means) x; small = b }

    by : Dec (S (N n) T ≤ 0) → Dec (F (N n) T ≤ 0) → Holds n w
    by (yes z) d = means_it (positive_number (N n) T long most fits (none z)) (omega (arith, characteristic_of_string (N n) T))
    by (no f) (yes z) =
        means_it (negative_power (N n) T long most fits (sign_one (N n) T long most fits (some_left f)) (none z))
        (omega (arith, ap mag (+ℤ_idl (neg_ℤ (c (N n) T))), sub_mag (pos 0) (c (N n) T), characteristic_of_string (N n) T))
    by (no f) (no g) =
        means_it (negative_number (N n) T long most fits (sign_one (N n) T long most fits (some_left f)) (some_left g)) (omega (arith, sub_mag (negsuc 0) (c (N n) T), characteristic_of_string (N n) T))
