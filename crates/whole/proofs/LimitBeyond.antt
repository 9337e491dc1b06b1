-- A string of a whole number needs all the bits of `whole_bits` but the zeros that these end in. Assumes nothing.
use mathlib.Core.Path.{◌≡◌, refl, sym, ap, ◌∙◌, subst₂}
use Prim.Native.Nat.{ℕ, zero, suc, ◌+◌, ◌-◌, ◌*◌, ◌%◌, ◌^◌, ◌≤◌, ◌<◌, zero-le}
use native.Mathlib.Nat.{le_of_eq, le_trans, add_comm, add-zero, mul_assoc, mul-le-mul_left, mul-le-mul_right, le_of_mul-le-mul_right, eq_of_mul-eq-mul_right, two-pow-succ}
use native.Mathlib.Omega.{arith}
use lib.Pow.{pow_pos, pow-add, pow_mono}
use Rattle.bounds.proofs.Powers.{Log, not_more, pow_sum}
use Rattle.bounds.proofs.Limits.{below_power}
use Rattle.word.proofs.Sizes.{size, size_lt}
use Rattle.whole.proofs.LimitBinades.{beginning, WholeBinade}
use Rattle.whole.proofs.LimitStrings.{whole_bits}

-- an odd number of units of 2^y is a multiple of no larger power of two
pub odd_units : (a b x y : ℕ) → b % 2 ≡ 1 → a * 2 ^ x ≡ b * 2 ^ y → x ≤ y
odd_units a b x y odd q = not_more (λ (l : y < x). even l (eq_of_mul-eq-mul_right (2 ^ y) (pow_pos y) (a * 2 ^ (x - y)) b (parts l ∙ q)))
  where
    parts : y < x → a * 2 ^ (x - y) * 2 ^ y ≡ a * 2 ^ x
    parts l = mul_assoc a (2 ^ (x - y)) (2 ^ y) ∙ ap (λ (z : ℕ). a * z) (pow_sum (x - y) y x (omega (arith, l)))

    even : y < x → a * 2 ^ (x - y) ≡ b → ⊥
    even l e = omega (arith, odd, e, ap (λ (z : ℕ). a * z) (pow_sum (x - y - 1) 1 (x - y) (omega (arith, l))))

-- so it is at most the number of units of another power
pub odd_at_most : (a b x y : ℕ) → b % 2 ≡ 1 → a * 2 ^ x ≡ b * 2 ^ y → b ≤ a
odd_at_most a b x y odd q = le_of_mul-le-mul_right (le_trans (mul-le-mul_left b (pow_mono (odd_units a b x y odd q))) (le_of_eq (sym q))) (pow_pos x)

-- the bits of 2^h + 1 end in 1; at h = 0 it is 2, and the beginning is even
pub ends_in_one : (ρ h : ℕ) → Log ρ (suc h) → whole_bits ρ h h (2 ^ h + 1) % 2 ≡ 1
unfolding whole_bits beginning
ends_in_one ρ zero log =
    let none : ρ ≡ 0 = omega (arith, below_power ρ, log.low) in
    ap (λ (x : ℕ). (((7 + x) * 2 ^ x + 1) * 1 + 1) % 2) none
ends_in_one ρ (suc h) log = omega (arith, ap (λ (x : ℕ). beginning ρ (suc h) * x) (two-pow-succ h), two-pow-succ h)

-- and so do those of every odd number but 1, with as many zeros after them as there may be
pub odd_ends_in_one : (ρ h g o : ℕ) → 2 ^ suc g ≤ o → o % 2 ≡ 1 → whole_bits ρ h (suc g) o % 2 ≡ 1
unfolding whole_bits
odd_ends_in_one ρ h g o low odd = omega (arith, ap (λ (x : ℕ). beginning ρ h * x) (two-pow-succ g), two-pow-succ g)

-- a string of the whole number o * 2^(h - g), whose last d bits are zeros
module _ (ρ h K : ℕ) (binade : WholeBinade ρ h K) (g o : ℕ) (inside_h : g ≤ h) (low : 2 ^ g ≤ o) (high : o ≤ 2 ^ suc g) (u d : ℕ) (below : u * 2 ^ d < 2 ^ 63) (is : size (u * 2 ^ d) ≡ o * 2 ^ (h - g + 307)) where
  from : ℕ
  from = beginning ρ h * 2 ^ (59 - ρ)

  -- one of o, counted in 2^-307
  unit : ℕ
  unit = 2 ^ (h - g + 307)

  first : 2 ^ (59 - ρ) * 2 ^ K ≡ 2 ^ g * unit
  unfolding unit
  first = pow_sum (59 - ρ) K (h + 307) (add_comm (59 - ρ) K ∙ binade.last) ∙ sym (pow_sum g (h - g + 307) (h + 307) (omega (arith, inside_h)))

  -- it begins as those from 2^h on, or is the first that doesn't
  not_before : from ≤ u * 2 ^ d
  unfolding from unit
  not_before = not_more (λ (l : u * 2 ^ d < from). less (2 ^ g) unit (2 ^ (59 - ρ)) (2 ^ K) first (mul-le-mul_right unit low) (subst₂ (λ (x y : ℕ). x < y) is (ap size (sym (add-zero from)) ∙ binade.sizes 0 zero-le) (size_lt (u * 2 ^ d) from l (omega (arith, binade.room)))))
    where
      less : (H E X Y : ℕ) → X * Y ≡ H * E → H * E ≤ o * E → o * E < (X + 0) * Y → ⊥
      less H E X Y q m l = omega (arith, q, m, l)

  not_after : u * 2 ^ d ≤ from + 2 ^ (59 - ρ)
  unfolding from unit
  not_after = not_more (λ (l : from + 2 ^ (59 - ρ) < u * 2 ^ d). more (2 ^ g) unit (2 ^ (59 - ρ)) (2 ^ K) first (mul-le-mul_right {m = o} {n = 2 ^ g * 2} unit (omega (arith, high, two-pow-succ g))) (subst₂ (λ (x y : ℕ). x < y) (binade.sizes (2 ^ (59 - ρ)) (le_of_eq refl)) is (size_lt (from + 2 ^ (59 - ρ)) (u * 2 ^ d) l below)))
    where
      more : (H E X Y : ℕ) → X * Y ≡ H * E → o * E ≤ H * 2 * E → (X + X) * Y < o * E → ⊥
      more H E X Y q m l = omega (arith, q, m, l)

  f : ℕ
  f = u * 2 ^ d - from

  string : from + f ≡ u * 2 ^ d
  unfolding f
  string = omega (arith, not_before)

  -- it is as many units of its last bit as `whole_bits` is of its own
  in_units : u * 2 ^ (d + K) ≡ whole_bits ρ h g o * unit
  unfolding from whole_bits unit
  in_units =
      ap (λ (x : ℕ). u * x) (pow-add 2 d K) ∙ sym (mul_assoc u (2 ^ d) (2 ^ K))
      ∙ units (beginning ρ h) (2 ^ g) unit (2 ^ (59 - ρ)) (2 ^ K) f (u * 2 ^ d) (o - 2 ^ g) (omega (arith, low)) first string (sym (binade.sizes f (omega (arith, string, not_after))) ∙ ap size string ∙ is)
    where
      units : (B H E X Y f U r : ℕ) → H + r ≡ o → X * Y ≡ H * E → B * X + f ≡ U → (X + f) * Y ≡ o * E → U * Y ≡ (B * H + r) * E
      units B H E X Y f U r p q s t = omega (arith, t, q, ap (λ (x : ℕ). x * E) p, ap (λ (x : ℕ). B * x) q, ap (λ (x : ℕ). x * Y) s)

  pub bits_needed : (q z : ℕ) → q % 2 ≡ 1 → whole_bits ρ h g o ≡ q * 2 ^ z → d + g + ρ ≤ 59 + z
  unfolding unit
  bits_needed q z odd ends = omega (arith, odd_units u q (d + K) (z + (h - g + 307)) odd without_zeros, binade.last, binade.regime, inside_h)
    where
      without_zeros : u * 2 ^ (d + K) ≡ q * 2 ^ (z + (h - g + 307))
      without_zeros = in_units ∙ ap (λ (x : ℕ). x * 2 ^ (h - g + 307)) ends ∙ mul_assoc q (2 ^ z) (2 ^ (h - g + 307)) ∙ ap (λ (x : ℕ). q * x) (sym (pow-add 2 z (h - g + 307)))
