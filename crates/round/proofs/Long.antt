-- A long significand: its first 64 bits with the top one set, what lies below them, and the size that both are offered as. Assumes nothing.
use mathlib.Core.Path.{◌≡◌, sym, ap, ◌∙◌, subst, subst₂}
use Prim.Native.Nat.{ℕ, zero, suc, ◌+◌, ◌-◌, ◌*◌, ◌/◌, ◌%◌, ◌^◌, ◌≤◌, ◌<◌}
use native.Mathlib.Nat.{add-mul, mul_assoc, mul_comm, mul_right_comm, mul-lt-mul_of_pos_right, mul-le-mul_right, lt_of_mul-lt-mul_right, le_trans, le_of_eq, le_of_suc-le-suc, le-add_right, lt_of_lt_of_le, mul-pos}
use native.Mathlib.Decide.{dec_lt}
use native.Mathlib.Omega.{arith}
use lib.Count.{count_leading_zeros}
use lib.Dec.{lit≤}
use lib.IntN.{ℤ, pos, ◌+ℤ◌, ◌-ℤ◌, +ℤ-neg_ℤ_cancel}
use lib.Pow.{shr_lt, split}
use Rattle.word.specs.Reads.{num, den}
use Rattle.bounds.proofs.Powers.{pow_sum, not_more, shl_below, shl_out, Log, leading_log}
use Rattle.word.proofs.Units.{unit_some, lower_by}
use Rattle.nearest.specs.declared.size.Rest.{Rest}
use Rattle.std.specs.declared.cmp.Ordering.{Ordering}
use Rattle.nearest.specs.Offers.{Amounts, IsOffered, IsRest}
use Rattle.nearest.specs.Parts.{TellsSide}
use Rattle.round.specs.Offers.{top_bits}
use Rattle.round.proofs.Scales.{raise_offer, coarser}

-- ---- what lies below the last unit is under a half of it, a half, or over
module _ (m below x unit : ℕ) (some : zero < unit) (fits : below < 2 ^ 64) (is : x * 2 ^ 64 ≡ (m * 2 ^ 64 + below) * unit) where
  parts : x * 2 ^ 64 ≡ m * unit * 2 ^ 64 + below * unit
  parts = is ∙ add-mul (m * 2 ^ 64) below unit ∙ ap (λ (y : ℕ). y + below * unit) (mul_right_comm m (2 ^ 64) unit)

  beyond : (y : ℕ) → y < below → y * unit < below * unit
  beyond y h = mul-lt-mul_of_pos_right h some

  short : (y : ℕ) → below < y → below * unit < y * unit
  short y h = mul-lt-mul_of_pos_right h some

  pub rest_amounts : (rest : Rest) → IsRest below rest → Amounts m rest x unit
  unfolding IsRest Amounts
  rest_amounts Rest.Nothing q = omega (arith, parts, ap (λ (y : ℕ). y * unit) q)
  rest_amounts Rest.UnderHalf h = (omega (arith, parts, beyond 0 h.0), omega (arith, parts, short (2 ^ 63) h.1))
  rest_amounts Rest.Half q = omega (arith, parts, ap (λ (y : ℕ). y * unit) q)
  rest_amounts Rest.OverHalf h = (omega (arith, parts, beyond (2 ^ 63) h), omega (arith, parts, short (2 ^ 64) fits))

-- one of the four it always is
pub some_rest : (below : ℕ) → (rest : Rest) × IsRest below rest
unfolding IsRest
some_rest below = by (dec_lt 0 below) (dec_lt below (2 ^ 63)) (dec_lt (2 ^ 63) below)
  where
    by : Dec (0 < below) → Dec (below < 2 ^ 63) → Dec (2 ^ 63 < below) → (rest : Rest) × IsRest below rest
    by (no f) y z = (Rest.Nothing, omega (arith, not_more f))
    by (yes h) (yes l) z = (Rest.UnderHalf, (h, l))
    by (yes h) (no f) (yes g) = (Rest.OverHalf, g)
    by (yes h) (no f) (no g) = (Rest.Half, omega (arith, not_more f, not_more g))

-- ---- the size of 128 bits in the units of its first 64
pub finer_offer : (m below : ℕ) (rest : Rest) (h : ℤ) (a b : ℕ) → 0 < b → below < 2 ^ 64 → IsRest below rest → IsOffered (m * 2 ^ 64 + below) Rest.Nothing (h -ℤ pos 127) a b → IsOffered m rest (h -ℤ pos 63) a b
unfolding IsOffered Amounts TellsSide
finer_offer m below rest h a b some fits is offered =
    let k = h -ℤ pos 127 in
    let y = k +ℤ pos 64 +ℤ pos 307 in
    subst (λ (z : ℤ). Amounts m rest (a * den (z +ℤ pos 307)) (num (z +ℤ pos 307) * b)) (lower_by h 63 127 (lit≤ tt))
    (rest_amounts m below (a * den y) (num y * b) (mul-pos (unit_some y).0 some) fits (mul_comm (a * den y) (2 ^ 64) ∙ coarser k 64 a b Ordering.Equal (2 ^ 64) (m * 2 ^ 64 + below) (times (m * 2 ^ 64 + below) (a * den (k +ℤ pos 307)) (num (k +ℤ pos 307) * b) offered)) rest is)
  where
    times : (x y z : ℕ) → y ≡ x * z → 2 ^ 64 * y ≡ x * 2 ^ 64 * z
    times x y z q = ap (λ (v : ℕ). 2 ^ 64 * v) q ∙ sym (mul_assoc (2 ^ 64) x z) ∙ ap (λ (v : ℕ). v * z) (mul_comm (2 ^ 64) x)

-- two numbers in a row, shifted by so many zeros, stay within 64 bits
pub high_room : (high low zeros : ℕ) → zeros ≤ 63 → high * 2 ^ zeros < 2 ^ 64 → low < 2 ^ 64 → high * 2 ^ zeros + low / 2 ^ (64 - zeros) < 2 ^ 64
high_room high low zeros few h l =
    let all = pow_sum (64 - zeros) zeros 64 (omega (arith, few)) in
    let room : high < 2 ^ (64 - zeros) = lt_of_mul-lt-mul_right (2 ^ zeros) (lt_of_lt_of_le h (le_of_eq (sym all))) in
    let part : low / 2 ^ (64 - zeros) < 2 ^ zeros = shr_lt zeros (64 - zeros) (lt_of_lt_of_le l (le_of_eq (ap (λ (k : ℕ). 2 ^ k) (sum zeros few)))) in
    omega (arith, part, all, mul-le-mul_right (2 ^ zeros) room)
  where
    sum : (zeros : ℕ) → zeros ≤ 63 → 64 ≡ zeros + (64 - zeros)
    sum zeros few = omega (arith, few)

-- ---- the normal form of two numbers in a row
module _ (high low : ℕ) (some : zero < high) (fits : high < 2 ^ 64) (low_fits : low < 2 ^ 64) where
  zeros : ℕ
  zeros = count_leading_zeros 64 high

  log : (zeros < 64) × Log (63 - zeros) high
  unfolding zeros
  log = leading_log 64 high some fits

  pub few_zeros : count_leading_zeros 64 high ≤ 63
  unfolding zeros
  few_zeros = le_of_suc-le-suc log.0

  pub high_shifted : high * 2 ^ count_leading_zeros 64 high < 2 ^ 64
  unfolding zeros
  high_shifted = shl_below (suc (63 - zeros)) zeros 64 log.1.high (omega (arith, few_zeros))

  -- the bits stay what they were
  pub whole : top_bits high low (count_leading_zeros 64 high) * 2 ^ 64 + low * 2 ^ count_leading_zeros 64 high % 2 ^ 64 ≡ (high * 2 ^ 64 + low) * 2 ^ count_leading_zeros 64 high
  unfolding zeros top_bits
  whole =
      omega (arith, shl_out low zeros (omega (arith, few_zeros)), ap (λ (x : ℕ). x * 2 ^ zeros) (split low (64 - zeros)), ap (λ (x : ℕ). low / 2 ^ (64 - zeros) * x) (pow_sum (64 - zeros) zeros 64 (omega (arith, few_zeros))))

  pub top_full : 2 ^ 63 ≤ top_bits high low (count_leading_zeros 64 high)
  unfolding zeros top_bits
  top_full = le_trans (le_of_eq (sym (pow_sum (63 - zeros) zeros 63 (omega (arith, few_zeros))))) (le_trans (mul-le-mul_right (2 ^ zeros) log.1.low) (le-add_right _ _))

  -- the exponent is k + 127 - zeros: the size is as before
  back : (k : ℤ) → k +ℤ pos (127 - zeros) -ℤ pos 127 +ℤ pos zeros ≡ k
  unfolding zeros
  back k = ap (λ (x : ℕ). k +ℤ pos (127 - zeros) -ℤ pos 127 +ℤ pos x) rest ∙ lower_by (k +ℤ pos (127 - zeros)) (127 - zeros) 127 (omega arith) ∙ +ℤ-neg_ℤ_cancel k (pos (127 - zeros))
    where
      rest : zeros ≡ 127 - (127 - zeros)
      rest = omega (arith, few_zeros)

  pub long_offer : (k : ℤ) → IsOffered (top_bits high low (count_leading_zeros 64 high) * 2 ^ 64 + low * 2 ^ count_leading_zeros 64 high % 2 ^ 64) Rest.Nothing (k +ℤ pos (127 - count_leading_zeros 64 high) -ℤ pos 127) ((high * 2 ^ 64 + low) * num (k +ℤ pos 307)) (den (k +ℤ pos 307))
  unfolding zeros
  long_offer k =
      subst₂ (λ (x : ℕ) (z : ℤ). IsOffered x Rest.Nothing (k +ℤ pos (127 - zeros) -ℤ pos 127) ((high * 2 ^ 64 + low) * num (z +ℤ pos 307)) (den (z +ℤ pos 307))) (sym whole) (back k) (raise_offer (high * 2 ^ 64 + low) (k +ℤ pos (127 - zeros) -ℤ pos 127) zeros)
