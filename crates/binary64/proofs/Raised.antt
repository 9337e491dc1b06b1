-- A number that was read, with its exponent raised by 1023: its size is a fraction over 2^1023. Assumes nothing.
use mathlib.Core.Path.{◌≡◌, refl, sym, ap, ◌∙◌}
use mathlib.Core.Bool.{Bool, true, false}
use Prim.Native.Nat.{ℕ, zero, suc, ◌+◌, ◌-◌, ◌*◌, ◌^◌, ◌≤◌, ◌<◌}
use native.Mathlib.Nat.{mul_assoc, mul_comm, mul_right_comm, lt_of_lt_of_le, eq_of_mul-eq-mul_right}
use native.Mathlib.Omega.{arith}
use borrow.Author.Tests.{le-ltb}
use lib.IntN.{ℤ, pos, negsuc, nat_abs, ◌+ℤ◌, ◌-ℤ◌, +ℤ_assoc, +ℤ_idr}
use lib.Pow.{pow-add, pow_pos}
use lib.Signed.{mag}
use Rattle.word.specs.Takum.{Takum}
use Rattle.word.specs.Reads.{num, den, signed_size, IsSize, IsNumber}
use Rattle.word.proofs.Integers.{balance}
use Rattle.write.specs.Writes.{is_negative}
use Rattle.word.proofs.Units.{unit_some}
use Rattle.nearest.proofs.Exponents.{shift}
use Rattle.write.proofs.Meanings.{size_some}

-- an exponent raised by 1023
pub raise : (h : ℤ) → mag h ≤ 255 → (g : ℕ) × (h +ℤ pos 1023 ≡ pos g) × (767 ≤ g) × (g ≤ 1278)
raise (pos i) small = (i + 1023, refl, omega arith, omega (arith, small))
raise (negsuc i) small = (1023 - suc i, rw (le-ltb 1023 (suc i) (omega (arith, small))), omega (arith, small), omega arith)

-- and by 971, as the code does: 11 more than the exponent of the lowest of 64 digits
pub raise_less : (h : ℤ) → mag h ≤ 255 → (g : ℕ) × (h +ℤ pos 971 ≡ pos (g + 11)) × (h +ℤ pos 1023 ≡ pos (g + 63)) × (704 ≤ g) × (g ≤ 1215)
raise_less (pos i) small = (i + 960, ap pos (omega arith), ap pos (omega arith), omega arith, omega (arith, small))
raise_less (negsuc i) small = (960 - suc i, rw (le-ltb 971 (suc i) (omega (arith, small))) (ap pos (omega (arith, small))), rw (le-ltb 1023 (suc i) (omega (arith, small))) (ap pos (omega (arith, small))), omega (arith, small), omega arith)

module _ {t : Takum} {f : ℕ} {s : Bool} {h : ℤ} {m p : ℕ} (x : IsNumber t f s h m p) where
  abbrev e : ℤ
  e = h -ℤ pos p +ℤ pos 307

  number_some : 0 < x.v
  unfolding IsSize
  number_some = size_some m x.v e (lt_of_lt_of_le (pow_pos p) x.low) x.size

  -- its value has its sign and its size
  pub number_sign : (is_negative (signed_size s x.v) ≡ s) × (nat_abs (signed_size s x.v) ≡ x.v)
  unfolding is_negative signed_size
  number_sign = by s x.v number_some
    where
      by : (s : Bool) (v : ℕ) → 0 < v → (is_negative (signed_size s v) ≡ s) × (nat_abs (signed_size s v) ≡ v)
      by false v k = (refl, refl)
      by true (suc v) k = (refl, refl)
      by true zero k = absurd (omega (arith, k))

  -- its size with the exponent raised, as a fraction over 2^1023 and over 2^307
  pub same_size : (j : ℕ) → h +ℤ pos 1023 ≡ pos (j + p) → m * 2 ^ j * 2 ^ 307 ≡ x.v * 2 ^ 1023
  unfolding IsSize
  same_size j raised =
      eq_of_mul-eq-mul_right (den e) (unit_some e).1 (m * 2 ^ j * 2 ^ 307) (x.v * 2 ^ 1023)
      (ap (λ (z : ℕ). z * den e) (mul_assoc m (2 ^ j) (2 ^ 307) ∙ ap (λ (z : ℕ). m * z) (sym (pow-add 2 j 307))) ∙ mul_assoc m (2 ^ (j + 307)) (den e)
      ∙ ap (λ (z : ℕ). m * z) (shift e 1023 (j + 307) count ∙ mul_comm (2 ^ 1023) (num e)) ∙ sym (mul_assoc m (num e) (2 ^ 1023)) ∙ ap (λ (z : ℕ). z * 2 ^ 1023) x.size ∙ mul_right_comm x.v (den e) (2 ^ 1023))
    where
      count : e +ℤ pos 1023 ≡ pos (j + 307)
      count = +ℤ_assoc (h -ℤ pos p) (pos 307) (pos 1023) ∙ balance h 0 1023 (j + p) (ap (λ (z : ℤ). z +ℤ pos 1023) (+ℤ_idr h) ∙ raised) p 1330 (j + 307) (omega arith)
