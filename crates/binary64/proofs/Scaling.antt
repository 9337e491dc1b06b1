-- A whole number of no more than 53 digits, or 2^53, is cast and scaled by a power of two without loss. Assumes nothing.
use mathlib.Core.Path.{◌≡◌, refl, sym, ap, ap₂, ◌∙◌, subst}
use mathlib.Core.Bool.{Bool, true, false}
use mathlib.Core.Logic.{◌⊎◌, inl, inr}
use Prim.Native.Nat.{ℕ, ◌+◌, ◌*◌, ◌^◌, ◌≤◌, ◌<◌}
use native.Mathlib.Nat.{one-mul, mul-pos, mul-mul-mul_comm, mul_assoc, eq-or-lt_of_le, lt_of_lt_of_le, zero-lt-suc}
use native.Mathlib.Omega.{arith}
use lib.Dec.{lit<}
use lib.Pow.{pow_pos, pow_mono}
use lib.Ieee.{Float, nan, inf, fin, binary64, unlike, up, down, round, mul}
use lib.Ieee.Back.{round_whole}
use lib.Ieee.Exact.{HasValue, round_exact}
use lib.Ieee.Fits.{down_pos}
use lib.Ieee.Scale.{round_same}
use Rattle.bounds.proofs.Powers.{pow_sum, shl_below}

-- m times 2^(j - 1023)
product_below : (s : Bool) (m j : ℕ) → m < 2 ^ 53 → j ≤ 1401 → HasValue (round binary64 s (m * 2 ^ j) (2 ^ 1023)) s (m * 2 ^ j) (2 ^ 1023)
product_below s m j short hi =
    round_exact binary64 s (m * 2 ^ j) (2 ^ 1023) m (j + 51) (pow_pos 1023) short (lt_of_lt_of_le (shl_below 53 (j + 51) (j + 104) short (omega arith)) (pow_mono {i = j + 104} {j = 2098} (omega arith)))
    (mul_assoc m (2 ^ j) (2 ^ 1074) ∙ ap (λ (z : ℕ). m * z) (pow_sum j 1074 (j + 1074) refl ∙ sym (pow_sum (j + 51) 1023 (j + 1074) (omega arith))) ∙ sym (mul_assoc m (2 ^ (j + 51)) (2 ^ 1023)))

pub product_exact : (s : Bool) (m j : ℕ) → m ≤ 2 ^ 53 → j ≤ 1400 → HasValue (round binary64 s (m * 2 ^ j) (2 ^ 1023)) s (m * 2 ^ j) (2 ^ 1023)
product_exact s m j short hi = by (eq-or-lt_of_le short)
  where
    Exact : ℕ → Type 0
    Exact a = HasValue (round binary64 s a (2 ^ 1023)) s a (2 ^ 1023)

    by : (m ≡ 2 ^ 53) ⊎ (m < 2 ^ 53) → Exact (m * 2 ^ j)
    by (inl q) = subst Exact (pow_sum 52 (j + 1) (j + 53) (omega arith) ∙ sym (pow_sum 53 j (j + 53) (omega arith)) ∙ ap (λ (m : ℕ). m * 2 ^ j) (sym q)) (product_below s (2 ^ 52) (j + 1) (lit< tt) (omega (arith, hi)))
    by (inr h) = product_below s m j h (omega (arith, hi))

pub cast_exact : (m : ℕ) → m ≤ 2 ^ 53 → HasValue (round binary64 false m 1) false m 1
cast_exact m short = round_whole binary64 false m short

-- the product of a number that is not negative and one with the sign s, by the fractions that they equal
product : (x y : Float) (s : Bool) (a c b d : ℕ) → 0 < c → 0 < d → HasValue x false a c → HasValue y s b d → mul binary64 x y ≡ round binary64 s (a * b) (c * d)
unfolding mul
product nan y s a c b d C D h k = absurd h
product (inf t) y s a c b d C D h k = absurd h
product (fin t m e) nan s a c b d C D h k = absurd k
product (fin t m e) (inf u) s a c b d C D h k = absurd k
product (fin t m e) (fin u n i) s a c b d C D h k =
    ap (λ (z : Bool). round binary64 z (m * up e * (n * up i)) (down e * down i)) (ap₂ unlike h.0 k.0 ∙ its_own s)
    ∙ round_same binary64 s (m * up e * (n * up i)) (down e * down i) (a * b) (c * d) (mul-pos (down_pos e) (down_pos i)) (mul-pos C D)
    (mul-mul-mul_comm (m * up e) (n * up i) c d ∙ ap₂ (λ (x y : ℕ). x * y) h.1 k.1 ∙ mul-mul-mul_comm a (down e) b (down i))
  where
    its_own : (s : Bool) → unlike false s ≡ s
    its_own true = refl
    its_own false = refl

pub scaling_exact : (s : Bool) (m j : ℕ) (y : Float) → m ≤ 2 ^ 53 → j ≤ 1400 → HasValue y s (2 ^ j) (2 ^ 1023) → HasValue (mul binary64 (round binary64 false m 1) y) s (m * 2 ^ j) (2 ^ 1023)
scaling_exact s m j y short hi is =
    subst (λ (x : Float). HasValue x s (m * 2 ^ j) (2 ^ 1023))
    (sym (product (round binary64 false m 1) y s m 1 (2 ^ j) (2 ^ 1023) (zero-lt-suc 0) (pow_pos 1023) (cast_exact m short) is ∙ ap (λ (c : ℕ). round binary64 s (m * 2 ^ j) c) (one-mul (2 ^ 1023))))
    (product_exact s m j short hi)
