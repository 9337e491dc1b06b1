-- A whole number with its top bit moved to 2^63, and the exponent that makes up for it. Assumes nothing.
use mathlib.Core.Path.{◌≡◌, sym, ap, ◌∙◌, subst₂}
use Prim.Native.Nat.{ℕ, zero, suc, ◌-◌, ◌*◌, ◌%◌, ◌^◌, ◌≤◌, ◌<◌}
use native.Mathlib.Nat.{le_of_suc-le-suc, le_trans, le_of_eq, mul-le-mul_right}
use native.Mathlib.Omega.{arith}
use lib.Count.{count_leading_zeros}
use lib.IntN.{ℤ, pos, ◌+ℤ◌, ◌-ℤ◌, +ℤ-neg_ℤ_cancel}
use lib.Pow.{shl_exact}
use Rattle.word.specs.Reads.{num, den}
use Rattle.bounds.proofs.Powers.{pow_sum, Log, leading_log}
use Rattle.nearest.specs.declared.size.Rest.{Rest}
use Rattle.nearest.specs.Offers.{IsOffered}
use Rattle.round.proofs.Scales.{raise_offer}
use Rattle.word.proofs.Units.{lower_by}

module _ (m : ℕ) (some : zero < m) (fits : m < 2 ^ 64) where
  zeros : ℕ
  zeros = count_leading_zeros 64 m

  log : (zeros < 64) × Log (63 - zeros) m
  unfolding zeros
  log = leading_log 64 m some fits

  pub zeros_le : count_leading_zeros 64 m ≤ 63
  unfolding zeros
  zeros_le = le_of_suc-le-suc log.0

  shifted : m * 2 ^ zeros % 2 ^ 64 ≡ m * 2 ^ zeros
  unfolding zeros
  shifted = shl_exact (suc (63 - zeros)) zeros 64 log.1.high (omega (arith, zeros_le))

  pub shifted_full : 2 ^ 63 ≤ m * 2 ^ count_leading_zeros 64 m % 2 ^ 64
  unfolding zeros
  shifted_full = le_trans (le_of_eq (sym (pow_sum (63 - zeros) zeros 63 (omega (arith, zeros_le))))) (le_trans (mul-le-mul_right (2 ^ zeros) log.1.low) (le_of_eq (sym shifted)))

  -- the exponent is k + 63 - zeros: the size is m * 2^k as before
  back : (k : ℤ) → k +ℤ pos (63 - zeros) -ℤ pos 63 +ℤ pos zeros ≡ k
  unfolding zeros
  back k = ap (λ (x : ℕ). k +ℤ pos (63 - zeros) -ℤ pos 63 +ℤ pos x) rest ∙ lower_by (k +ℤ pos (63 - zeros)) (63 - zeros) 63 (omega arith) ∙ +ℤ-neg_ℤ_cancel k (pos (63 - zeros))
    where
      rest : zeros ≡ 63 - (63 - zeros)
      rest = omega (arith, zeros_le)

  pub shifted_offer : (k : ℤ) → IsOffered (m * 2 ^ count_leading_zeros 64 m % 2 ^ 64) Rest.Nothing (k +ℤ pos (63 - count_leading_zeros 64 m) -ℤ pos 63) (m * num (k +ℤ pos 307)) (den (k +ℤ pos 307))
  unfolding zeros
  shifted_offer k =
      subst₂ (λ (x : ℕ) (z : ℤ). IsOffered x Rest.Nothing (k +ℤ pos (63 - zeros) -ℤ pos 63) (m * num (z +ℤ pos 307)) (den (z +ℤ pos 307))) (sym shifted) (back k) (raise_offer m (k +ℤ pos (63 - zeros) -ℤ pos 63) zeros)
