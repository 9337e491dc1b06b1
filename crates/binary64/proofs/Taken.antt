-- What is taken out for what a word means. Assumes nothing.
use mathlib.Core.Path.{◌≡◌, refl, sym, ap, ap₂, ◌∙◌, subst}
use mathlib.Core.Bool.{Bool, false}
use Prim.Native.Nat.{ℕ, ◌+◌, ◌*◌, ◌^◌}
use native.Mathlib.Omega.{arith}
use lib.IntN.{ℤ, pos, nat_abs, ◌+ℤ◌}
use lib.Pow.{pow_pos}
use lib.Ieee.{Float, binary64, round, of_bits}
use lib.Ieee.Scale.{round_same}
use Rattle.bounds.specs.Refusals.{IsWord, through, refused}
use Rattle.word.specs.Takum.{Takum, real, NaR, takum}
use Rattle.word.specs.Reads.{IsNumber}
use Rattle.bounds.proofs.Verdicts.{word_through}
use Rattle.write.specs.Writes.{is_negative}
use Rattle.binary64.specs.declared.taking.Binary64.{Binary64}
use Rattle.binary64.specs.Takes.{IsTakenBinary64, TakesBinary64}
use Rattle.binary64.proofs.Raised.{same_size, number_sign}

-- zero is positive zero
pub zero_taken : (t : Takum) → t ≡ real (pos 0) → IsTakenBinary64 t (Binary64.Number (of_bits binary64 0))
unfolding IsTakenBinary64 is_negative
zero_taken t q = subst (λ (t : Takum). IsTakenBinary64 t (Binary64.Number (of_bits binary64 0))) (sym q) (ap Binary64.Number zeros)
  where
    zeros : of_bits binary64 0 ≡ round binary64 false 0 (2 ^ 307)
    zeros = unfold of_bits round in refl

-- a number is rounded once
pub number_taken : {t : Takum} {f : ℕ} {s : Bool} {h : ℤ} {m p : ℕ} (x : IsNumber t f s h m p) (j : ℕ) → h +ℤ pos 1023 ≡ pos (j + p) → IsTakenBinary64 t (Binary64.Number (round binary64 s (m * 2 ^ j) (2 ^ 1023)))
unfolding IsTakenBinary64
number_taken {s = s} {m = m} x j raised =
    subst (λ (t : Takum). IsTakenBinary64 t (Binary64.Number (round binary64 s (m * 2 ^ j) (2 ^ 1023)))) (sym x.means)
    (ap Binary64.Number (round_same binary64 s (m * 2 ^ j) (2 ^ 1023) x.v (2 ^ 307) (pow_pos 1023) (pow_pos 307) (same_size x j raised) ∙ sym (ap₂ (λ (s : Bool) (v : ℕ). round binary64 s v (2 ^ 307)) (number_sign x).0 (number_sign x).1)))

-- ---- the other way round: where a number is taken out, it is the nearest to the word's value
pub record Taken (n w : ℕ) (x : Float) : Type 0 where
  pub word : IsWord n w
  pub z : ℤ
  pub means : takum n w ≡ real z
  pub is : x ≡ round binary64 (is_negative z) (nat_abs z) (2 ^ 307)

pub taken : (n w : ℕ) (x : Float) → TakesBinary64 n w (Binary64.Number x) → Taken n w x
unfolding TakesBinary64 IsTakenBinary64
taken n w x (through v y) = by (takum n w) refl y
  where
    by : (t : Takum) → takum n w ≡ t → IsTakenBinary64 t (Binary64.Number x) → Taken n w x
    by (real z) q y = record { word = word_through n w v; z = z; means = q; is = cc }
    by NaR q y = let z : ◌≡◌ {A = ℕ} 0 1 = cc in absurd (omega arith)
taken n w x (refused v y) = let z : ◌≡◌ {A = ℕ} 0 1 = cc in absurd (omega arith)
