-- What Definition 2 says of a word, by its size at the top of 64 bits: a word w of n bits stands there as w * 2^(64 - n), with sign 1 as
-- the complement of such a word. Assumes nothing.
use mathlib.Core.Path.{◌≡◌, sym, ap, ap₂, ◌∙◌, subst}
use Prim.Native.Nat.{ℕ, ◌+◌, ◌-◌, ◌*◌, ◌/◌, ◌%◌, ◌^◌, ◌≤◌, ◌<◌}
use native.Mathlib.Nat.{add_comm, mul_comm, mul-sub, mod-lt, le_of_lt, sub-le, le-div_iff_mul-le}
use native.Mathlib.Omega.{arith}
use lib.IntN.{ℤ, pos, neg_ℤ, ◌+ℤ◌, ◌-ℤ◌, ◌*ℤ◌}
use lib.Pow.{pow-add, pow_pos, shr_lt, split}
use Rattle.word.specs.Takum.{S, p, F, e, value, power}
use Rattle.word.proofs.Integers.{balance, neg_add, neg_mul}
use Rattle.bounds.proofs.Powers.{pow_sum, shl_below}
use Rattle.word.proofs.Heads.{k, scale, head}
use Rattle.word.proofs.Cut.{S_head, p_head, F_head, e_head}
use Rattle.word.proofs.Sizes.{lead, onward, size, seam}

-- the value of a string from its fields
pub value_at : (n T s P f K : ℕ) → S n T ≡ s → p n T ≡ P → F n T ≡ f → e n T -ℤ pos P +ℤ pos 307 ≡ pos K → value n T ≡ ((pos 1 -ℤ pos (3 * s)) *ℤ pos (2 ^ P) +ℤ pos f) *ℤ pos (2 ^ K)
unfolding value power
value_at n T s P f K hs hp hf hk = rw (hs, hp, hf, hk)

-- a significand of which the last j bits are the tail, in steps of the last of 64 bits
expand : (t P f J I K : ℕ) → J * I ≡ 2 ^ 52 → (1 * (P * J) + (f * J + t)) * (K * I) ≡ ((P + f) * 2 ^ 52 + t * I) * K
expand t P f J I K q = sym (ap (λ (x : ℕ). ((P + f) * x + t * I) * K) (sym q) ∙ omega arith)

-- the same for a fraction F' that counts up from -2, with f its complement
expand' : (t P f F' J I K : ℕ) → t < J → F' + f + 1 ≡ P → J * I ≡ 2 ^ 52 → (2 * (P * J) - (F' * J + t)) * (K * I) ≡ ((P + f) * 2 ^ 52 + (2 ^ 52 - t * I)) * K
expand' t P f F' J I K ht hf q =
    ap (λ (x : ℕ). x * (K * I)) up ∙ expand (J - t) P f J I K q ∙ ap (λ (x : ℕ). ((P + f) * 2 ^ 52 + x) * K) (sym down)
  where
    up : 2 * (P * J) - (F' * J + t) ≡ 1 * (P * J) + (f * J + (J - t))
    up = omega (arith, ht, ap (λ (x : ℕ). x * J) hf)

    down : 2 ^ 52 - t * I ≡ (J - t) * I
    down = ap (λ (x : ℕ). x - t * I) (sym q) ∙ sym (mul_comm (J - t) I ∙ mul-sub I J t ∙ ap₂ (λ (x y : ℕ). x - y) (mul_comm I J) (mul_comm I t))

module _ (j i g t : ℕ) (bits : i + j ≡ 52) (low : g < 2048) (tail : t < 2 ^ j) where
  whole : 2 ^ j * 2 ^ i ≡ 2 ^ 52
  whole = pow_sum j i 52 (add_comm j i ∙ bits)

  positive : value (12 + j) (g * 2 ^ j + t) ≡ pos (onward g (t * 2 ^ i))
  unfolding onward lead
  positive =
      value_at (12 + j) (g * 2 ^ j + t) 0 (p 12 g + j) (F 12 g * 2 ^ j + t) (k g + i) (S_head j g t tail ∙ (head g low).sign) (p_head j g t tail) (F_head j g t tail)
      (ap (λ (z : ℤ). z -ℤ pos (p 12 g + j) +ℤ pos 307) (e_head j g t tail) ∙ balance (e 12 g) (p 12 g) 255 (k g) (scale g (omega arith)) (p 12 g + j) 307 (k g + i) (omega arith))
      ∙ ap pos (ap₂ (λ (x y : ℕ). (1 * x + (F 12 g * 2 ^ j + t)) * y) (pow-add 2 (p 12 g) j) (pow-add 2 (k g) i) ∙ expand t (2 ^ p 12 g) (F 12 g) (2 ^ j) (2 ^ i) (2 ^ k g) whole)

  negative : value (12 + j) ((4095 - g) * 2 ^ j + t) ≡ neg_ℤ (pos (onward g (2 ^ 52 - t * 2 ^ i)))
  unfolding onward lead p
  negative =
      value_at (12 + j) (H * 2 ^ j + t) 1 (p 12 g + j) (F 12 H * 2 ^ j + t) (k g + i) (S_head j H t tail ∙ (head g low).sign') (p_head j H t tail ∙ ap (λ (x : ℕ). x + j) same_p) (F_head j H t tail)
      (ap₂ (λ (z : ℤ) (x : ℕ). z -ℤ pos (x + j) +ℤ pos 307) (e_head j H t tail) (sym same_p) ∙ balance (e 12 H) (p 12 H) 255 (k g) (scale H (omega arith) ∙ ap pos (head g low).scale') (p 12 H + j) 307 (k g + i) (omega arith))
      ∙ ap (λ (z : ℤ). z *ℤ pos (2 ^ (k g + i))) (neg_add (2 * 2 ^ (p 12 g + j)) (F 12 H * 2 ^ j + t) fits) ∙ neg_mul (2 * 2 ^ (p 12 g + j) - (F 12 H * 2 ^ j + t)) (2 ^ (k g + i))
      ∙ ap (λ (x : ℕ). neg_ℤ (pos x))
      (ap₂ (λ (x y : ℕ). (2 * x - (F 12 H * 2 ^ j + t)) * y) (pow-add 2 (p 12 g) j) (pow-add 2 (k g) i) ∙ expand' t (2 ^ p 12 g) (F 12 g) (F 12 H) (2 ^ j) (2 ^ i) (2 ^ k g) tail (head g low).fraction' whole)
    where
      H : ℕ
      H = 4095 - g

      same_p : p 12 H ≡ p 12 g
      same_p = ap (λ (x : ℕ). 12 - x - 5) (head g low).regime'

      fits : F 12 H * 2 ^ j + t ≤ 2 * 2 ^ (p 12 g + j)
      fits = omega (arith, tail, pow-add 2 (p 12 g) j, ap (λ (x : ℕ). x * 2 ^ j) (head g low).fraction')

-- the exponent of a string's last bit, counted from 2^-307, is a whole number
pub exponent_whole : (n T : ℕ) → 12 ≤ n → n ≤ 64 → T < 2 ^ n → (K : ℕ) × (e n T -ℤ pos (p n T) +ℤ pos 307 ≡ pos K)
exponent_whole n T lo hi fits = (
  k G + i,
  ap₂ (λ (m x : ℕ). e m x -ℤ pos (p m x) +ℤ pos 307) long (sym (split T j)) ∙ ap₂ (λ (z : ℤ) (x : ℕ). z -ℤ pos x +ℤ pos 307) (e_head j G t tail) (p_head j G t tail)
      ∙ balance (e 12 G) (p 12 G) 255 (k G) (scale G (shr_lt 12 j (subst (λ (m : ℕ). T < 2 ^ m) long fits))) (p 12 G + j) 307 (k G + i) (omega (arith, lo, hi)),
)
  where
    j : ℕ
    j = n - 12

    i : ℕ
    i = 64 - n

    G : ℕ
    G = T / 2 ^ j

    t : ℕ
    t = T % 2 ^ j

    long : n ≡ 12 + j
    long = omega (arith, lo)

    tail : t < 2 ^ j
    tail = mod-lt T (pow_pos j)

-- a string with sign 0, and one with sign 1 that isn't NaR's
module _ (j i x : ℕ) (bits : i + j ≡ 52) where
  apart : x * 2 ^ i ≡ x / 2 ^ j * 2 ^ 52 + x % 2 ^ j * 2 ^ i
  apart = omega (arith, ap (λ (y : ℕ). y * 2 ^ i) (split x j), ap (λ (y : ℕ). x / 2 ^ j * y) (pow_sum j i 52 (add_comm j i ∙ bits)))

  tail_le : x % 2 ^ j * 2 ^ i ≤ 2 ^ 52
  tail_le = le_of_lt (shl_below j i 52 (mod-lt x (pow_pos j)) (add_comm j i ∙ bits))

  pub string_positive : x < 2 ^ (11 + j) → value (12 + j) x ≡ pos (size (x * 2 ^ i))
  string_positive h =
      ap (value (12 + j)) (sym (split x j)) ∙ positive j i (x / 2 ^ j) (x % 2 ^ j) bits (shr_lt 11 j h) (mod-lt x (pow_pos j))
      ∙ ap pos (sym (ap size apart ∙ seam (x / 2 ^ j) (x % 2 ^ j * 2 ^ i) tail_le (subst (λ (u : ℕ). u < 2 ^ 63) apart (shl_below (11 + j) i 63 h (omega arith)))))

  pub string_negative : 2 ^ (11 + j) < x → x < 2 ^ (12 + j) → value (12 + j) x ≡ neg_ℤ (pos (size ((2 ^ (12 + j) - x) * 2 ^ i)))
  string_negative lo hi =
      ap (value (12 + j)) parts ∙ negative j i g t bits low (mod-lt x (pow_pos j))
      ∙ ap (λ (u : ℕ). neg_ℤ (pos u)) (sym (ap size same ∙ seam g (2 ^ 52 - t * 2 ^ i) (sub-le (2 ^ 52) (t * 2 ^ i)) (subst (λ (u : ℕ). u < 2 ^ 63) same (shl_below (11 + j) i 63 room (omega arith)))))
    where
      g : ℕ
      g = 4095 - x / 2 ^ j

      t : ℕ
      t = x % 2 ^ j

      twelve : 2 ^ (12 + j) ≡ 4096 * 2 ^ j
      twelve = pow-add 2 12 j

      eleven : 2 ^ (11 + j) ≡ 2048 * 2 ^ j
      eleven = pow-add 2 11 j

      H_lt : x / 2 ^ j < 4096
      H_lt = shr_lt 12 j hi

      H_ge : 2048 ≤ x / 2 ^ j
      H_ge = (le-div_iff_mul-le (pow_pos j)).1 (omega (arith, lo, eleven))

      low : g < 2048
      low = omega (arith, H_lt, H_ge)

      back : x / 2 ^ j ≡ 4095 - g
      back = omega (arith, H_lt)

      parts : x ≡ (4095 - g) * 2 ^ j + t
      parts = sym (split x j) ∙ ap (λ (y : ℕ). y * 2 ^ j + t) back

      room : 2 ^ (12 + j) - x < 2 ^ (11 + j)
      room = omega (arith, lo, hi, twelve, eleven)

      together : 2 ^ (12 + j) - x + x ≡ 2 ^ (12 + j)
      together = omega (arith, hi)

      same : (2 ^ (12 + j) - x) * 2 ^ i ≡ g * 2 ^ 52 + (2 ^ 52 - t * 2 ^ i)
      same = omega (arith, ap (λ (y : ℕ). y * 2 ^ i) together, pow_sum (12 + j) i 64 (omega arith), apart, tail_le, H_lt)
