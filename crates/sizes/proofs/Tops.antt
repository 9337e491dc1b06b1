-- A word at the top of 64 bits: the string without its sign has the word's size in the normal form. Assumes nothing.
use mathlib.Core.Path.{◌≡◌, refl, sym, ap, ap₂, ◌∙◌, subst, subst₂}
use mathlib.Core.Bool.{false}
use Prim.Native.Nat.{ℕ, ◌+◌, ◌-◌, ◌*◌, ◌^◌, ◌≤◌, ◌<◌}
use native.Mathlib.Nat.{add-mul, mul_comm, mul-one, mul-sub, mul-lt-mul_of_pos_right, div-eq_of_lt, le_of_lt, le_of_eq, lt_of_lt_of_le}
use native.Mathlib.Omega.{arith}
use borrow.Author.Tests.{lt-ltb, le-ltb}
use lib.Dec.{ltb, lit≤}
use lib.IntN.{ℤ, pos, neg_ℤ, nat_abs, ◌-ℤ◌}
use lib.Pow.{pow_pos}
use Rattle.bounds.specs.Refusals.{IsWord}
use Rattle.sizes.specs.declared.size.Size.{Size}
use Rattle.word.specs.Takum.{real, S, p, F, c, value, takum}
use Rattle.word.specs.Reads.{IsSize, signed_size, IsNumber}
use Rattle.sizes.specs.Sizes.{without_sign, Sizes}
use Rattle.bounds.proofs.Powers.{pow_sum, shl_below}
use Rattle.word.proofs.Sizes.{size}
use Rattle.word.proofs.Meaning.{string_positive}
use Rattle.word.proofs.Top.{NaR_shifted}
use Rattle.word.proofs.Words.{Lies, at_zero, above, at_NaR, under, lies, takum_positive, takum_negative}
use Rattle.word.proofs.Values.{real_inj}
use Rattle.word.proofs.Numbers.{positive_number, same_number}
use Rattle.word.proofs.Units.{raise_size, lower_by}

-- ---- a string with sign 0, and its size with the top bit of its significand at 2^63
module _ (u : ℕ) (half : u < 2 ^ 63) where
  number : IsNumber (real (value 64 u)) (p 64 u) false (c 64 u) (2 ^ p 64 u + F 64 u) (p 64 u)
  unfolding S
  number = positive_number 64 u (lit≤ tt) (lit≤ tt) (omega (arith, half)) (div-eq_of_lt half)

  -- its value is its size
  is_size : number.v ≡ size u
  unfolding signed_size
  is_size = ap nat_abs (real_inj (sym number.means ∙ ap real (string_positive 52 0 u refl half))) ∙ ap size (mul-one u)

  few : p 64 u ≤ 59
  unfolding p
  few = omega arith

  up : ℕ
  up = 2 ^ (63 - p 64 u)

  top_bit : 2 ^ p 64 u * up ≡ 2 ^ 63
  unfolding up
  top_bit = pow_sum (p 64 u) (63 - p 64 u) 63 (omega (arith, few))

  significand : (2 ^ p 64 u + F 64 u) * up ≡ 2 ^ 63 + F 64 u * up
  significand = add-mul (2 ^ p 64 u) (F 64 u) up ∙ ap (λ (x : ℕ). x + F 64 u * up) top_bit

  pub string_number : IsNumber (real (pos (size u))) 63 false (c 64 u) (2 ^ 63 + F 64 u * 2 ^ (63 - p 64 u)) 63
  unfolding up signed_size
  string_number =
      record {
        v = size u;
        means = refl;
        size =
            subst₂ (λ (m v : ℕ). IsSize m (c 64 u -ℤ pos 63) v) significand is_size
            (raise_size (2 ^ p 64 u + F 64 u) (c 64 u -ℤ pos 63) (63 - p 64 u) number.v (subst (λ (k : ℤ). IsSize (2 ^ p 64 u + F 64 u) k number.v) (sym (lower_by (c 64 u) (p 64 u) 63 (omega (arith, few)))) number.size));
        count = refl;
        low = omega arith;
        high = subst (λ (x : ℕ). x < 2 ^ 64) significand (lt_of_lt_of_le (mul-lt-mul_of_pos_right number.high (pow_pos (63 - p 64 u))) (le_of_eq (pow_sum (p 64 u + 1) (63 - p 64 u) 64 (omega (arith, few)))));
      }

-- ---- a word of any width
module _ (n w : ℕ) (i : IsWord n w) where
  T : ℕ
  T = w * 2 ^ (64 - n)

  -- the complement of a word, shifted, is that of its string
  complement : (2 ^ n - w) * 2 ^ (64 - n) ≡ 2 ^ 63 + 2 ^ 63 - T
  unfolding T
  complement = mul_comm (2 ^ n - w) (2 ^ (64 - n)) ∙ mul-sub (2 ^ (64 - n)) (2 ^ n) w ∙ ap₂ (λ (x y : ℕ). x - y) (mul_comm (2 ^ (64 - n)) (2 ^ n) ∙ pow_sum n (64 - n) 64 (omega (arith, i.most))) (mul_comm (2 ^ (64 - n)) w)

  module _ (some : w ≡ 0 → ⊥) (other : w ≡ 2 ^ (n - 1) → ⊥) where
    -- the string without its sign has sign 0, and the size of what the word means
    by_string : (without_sign (2 ^ 63) T < 2 ^ 63) × (takum n w ≡ real (signed_size (ltb (2 ^ 63) T) (size (without_sign (2 ^ 63) T))))
    unfolding T without_sign signed_size
    by_string = by (lies n w)
      where
        by : Lies n w → (without_sign (2 ^ 63) T < 2 ^ 63) × (takum n w ≡ real (signed_size (ltb (2 ^ 63) T) (size (without_sign (2 ^ 63) T))))
        by (at_zero q) = absurd (some q)
        by (above h b) =
            let low : T < 2 ^ 63 = shl_below (n - 1) (64 - n) 63 b (omega (arith, i.least, i.most)) in
            rw (lt-ltb T (2 ^ 63) low, le-ltb (2 ^ 63) T (le_of_lt low)) (low, takum_positive n w i.least i.most h b)
        by (at_NaR q) = absurd (other q)
        by (under b) =
            let high : 2 ^ 63 < T = subst (λ (x : ℕ). x < T) (NaR_shifted n i.least i.most) (mul-lt-mul_of_pos_right b (pow_pos (64 - n))) in
            rw (le-ltb T (2 ^ 63) (le_of_lt high), lt-ltb (2 ^ 63) T high) (omega (arith, high), takum_negative n w i.least i.most b i.fits ∙ ap (λ (x : ℕ). real (neg_ℤ (pos (size x)))) complement)

    -- so the word's number is the string's, with its sign
    pub word_number : (s : Size) → Sizes (w * 2 ^ (64 - n)) s → IsNumber (takum n w) 63 s.negative s.h s.m 63
    unfolding T string_number
    word_number s x =
        let y = string_number (without_sign (2 ^ 63) T) by_string.0 in
        same_number (takum n w) 63 x.sign x.characteristic x.significand refl (record { v = y.v; means = by_string.1; size = y.size; count = refl; low = y.low; high = y.high })
