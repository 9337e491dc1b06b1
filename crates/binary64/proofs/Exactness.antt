-- Up to width 57 the number taken out is exactly the word's value. Assumes nothing.
use mathlib.Core.Path.{◌≡◌, refl, sym, ap, ◌∙◌, subst, subst₂}
use mathlib.Core.Bool.{Bool, false}
use Prim.Native.Nat.{ℕ, ◌+◌, ◌-◌, ◌*◌, ◌^◌, ◌≤◌, ◌<◌}
use native.Mathlib.Nat.{le_of_lt, lt_of_lt_of_le, ne_of_gt, ne_of_lt}
use native.Mathlib.Omega.{arith}
use lib.Dec.{lit<}
use lib.IntN.{ℤ, pos, nat_abs}
use lib.Pow.{pow_pos, pow_mono}
use lib.Ieee.{Float, binary64, round}
use lib.Ieee.Exact.{HasValue, round_exact}
use lib.Ieee.Scale.{round_same}
use Rattle.bounds.specs.Refusals.{IsWord}
use Rattle.word.specs.Takum.{real, p, N, takum, fraction_bits}
use Rattle.word.specs.Reads.{signed_size}
use Rattle.word.proofs.Readings.{Holds, holds}
use Rattle.word.proofs.Values.{real_inj, not_NaR}
use Rattle.word.proofs.Words.{Lies, at_zero, above, at_NaR, under, lies, takum_zero, takum_NaR}
use Rattle.write.specs.Writes.{is_negative}
use Rattle.binary64.specs.declared.taking.Binary64.{Binary64}
use Rattle.binary64.specs.Takes.{TakesBinary64}
use Rattle.binary64.proofs.Values.{value_same}
use Rattle.binary64.proofs.Scaling.{product_exact}
use Rattle.binary64.proofs.Taken.{taken}
use Rattle.binary64.proofs.Raised.{raise, same_size, number_sign}

-- ---- the number that is taken out
few_bits : (n w : ℕ) → n ≤ 57 → fraction_bits n w ≤ 52
unfolding fraction_bits p N
few_bits n w narrow = omega arith

module _ (n w : ℕ) (i : IsWord n w) (narrow : n ≤ 57) where
  number_exact : (x : Holds n w) → HasValue (round binary64 x.sign x.number.v (2 ^ 307)) x.sign x.number.v (2 ^ 307)
  number_exact x =
      let up = raise x.h x.small in
      let few = few_bits n w narrow in
      let j = up.0 - fraction_bits n w in
      let back : j + fraction_bits n w ≡ up.0 = omega (arith, few, up.2) in
      let hi : j ≤ 1400 = omega (arith, up.3) in
      let short : x.m < 2 ^ 53 = lt_of_lt_of_le x.number.high (pow_mono {i = fraction_bits n w + 1} {j = 53} (omega (arith, few))) in
      let same = same_size x.number j (up.1 ∙ ap pos (sym back)) in
      subst (λ (y : Float). HasValue y x.sign x.number.v (2 ^ 307)) (round_same binary64 x.sign (x.m * 2 ^ j) (2 ^ 1023) x.number.v (2 ^ 307) (pow_pos 1023) (pow_pos 307) same)
      (value_same (round binary64 x.sign (x.m * 2 ^ j) (2 ^ 1023)) x.sign (x.m * 2 ^ j) (2 ^ 1023) x.number.v (2 ^ 307) (pow_pos 1023) same (product_exact x.sign x.m j (le_of_lt short) hi))

  pub word_exact : (z : ℤ) → takum n w ≡ real z → HasValue (round binary64 (is_negative z) (nat_abs z) (2 ^ 307)) (is_negative z) (nat_abs z) (2 ^ 307)
  word_exact z q = by (lies n w)
    where
      Exact : Bool → ℕ → Type 0
      Exact s v = HasValue (round binary64 s v (2 ^ 307)) s v (2 ^ 307)

      as_number : Holds n w → Exact (is_negative z) (nat_abs z)
      as_number x =
          let signs = number_sign x.number in
          let is : signed_size x.sign x.number.v ≡ z = real_inj (sym x.number.means ∙ q) in
          subst₂ Exact (sym signs.0 ∙ ap is_negative is) (sym signs.1 ∙ ap nat_abs is) (number_exact x)

      none : Exact (is_negative (pos 0)) 0
      none = unfold is_negative in round_exact binary64 false 0 (2 ^ 307) 0 0 (pow_pos 307) (lit< tt) (lit< tt) refl

      by : Lies n w → Exact (is_negative z) (nat_abs z)
      by (at_zero e) = subst (λ (z : ℤ). Exact (is_negative z) (nat_abs z)) (real_inj (sym (takum_zero n) ∙ ap (takum n) (sym e) ∙ q)) none
      by (above a b) = as_number (holds n w i (ne_of_gt a) (ne_of_lt b))
      by (at_NaR e) = absurd (not_NaR z (sym q ∙ takum_NaR n w i.least i.most e))
      by (under b) = as_number (holds n w i (λ e. omega (arith, b, e)) (λ e. omega (arith, b, e)))

-- the number taken out has exactly the word's value
pub taken_exact : (n w : ℕ) (x : Float) → n ≤ 57 → TakesBinary64 n w (Binary64.Number x) → (z : ℤ) × (takum n w ≡ real z) × HasValue x (is_negative z) (nat_abs z) (2 ^ 307)
taken_exact n w x narrow y =
    let t = taken n w x y in
    (t.z, t.means, subst (λ (x : Float). HasValue x (is_negative t.z) (nat_abs t.z) (2 ^ 307)) (sym t.is) (word_exact n w t.word narrow t.z t.means))
