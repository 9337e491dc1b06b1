-- How many fraction bits a word has of its own, by where it lies; zeros appended leave the regime. Assumes nothing.
use mathlib.Core.Path.{◌≡◌, sym, ap, ap₂, ◌∙◌}
use Prim.Native.Nat.{ℕ, ◌+◌, ◌-◌, ◌*◌, ◌%◌, ◌^◌, ◌≤◌, max}
use native.Mathlib.Nat.{mul_assoc, zero-mod, mod_self, mod-eq_of_lt, mod-eq-sub-mod, le_of_lt, lt_of_not-le, ne_of_gt}
use native.Mathlib.Decide.{dec_le}
use native.Mathlib.Omega.{arith}
use borrow.Author.Tests.{eq-eqb, ne_eqb}
use lib.IntN.{ℤ, pos, ◌-ℤ◌}
use Rattle.bounds.specs.Refusals.{IsWord}
use Rattle.bounds.proofs.Powers.{pow_sum, twice}
use Rattle.word.specs.Takum.{r, N, padded, or_zero, own_fraction_bits}
use Rattle.word.proofs.Cut.{r_appended}
use Rattle.word.proofs.Signed.{difference, short_by}
use Rattle.word.proofs.Words.{Lies, at_zero, above, at_NaR, under, lies}

-- n - k - 5, or 0 where that is negative, is the cut-off difference
pub or_zero_lem : (n k : ℕ) → or_zero (pos n -ℤ pos k -ℤ pos 5) ≡ n - (k + 5)
unfolding or_zero
or_zero_lem n k = by (dec_le k n) (dec_le 5 (n - k))
  where
    by : Dec (k ≤ n) → Dec (5 ≤ n - k) → or_zero (pos n -ℤ pos k -ℤ pos 5) ≡ n - (k + 5)
    by (yes h) (yes g) = ap (λ (z : ℤ). or_zero (z -ℤ pos 5)) (difference n k h) ∙ ap or_zero (difference (n - k) 5 g) ∙ omega arith
    by (yes h) (no g) = ap (λ (z : ℤ). or_zero (z -ℤ pos 5)) (difference n k h) ∙ ap or_zero (short_by (n - k) 5 (lt_of_not-le g)) ∙ omega (arith, lt_of_not-le g)
    by (no h) d = ap (λ (z : ℤ). or_zero (z -ℤ pos 5)) (short_by n k (lt_of_not-le h)) ∙ omega (arith, lt_of_not-le h)

module _ (n w : ℕ) where
  none : w % 2 ^ (n - 1) ≡ 0 → own_fraction_bits n w ≡ 0
  unfolding own_fraction_bits
  none q = rw (eq-eqb (w % 2 ^ (n - 1)) 0 q)

  pub zero_has_none : w ≡ 0 → own_fraction_bits n w ≡ 0
  zero_has_none q = none (ap (λ (x : ℕ). x % 2 ^ (n - 1)) q ∙ zero-mod (2 ^ (n - 1)))

  pub NaR_has_none : w ≡ 2 ^ (n - 1) → own_fraction_bits n w ≡ 0
  NaR_has_none q = none (ap (λ (x : ℕ). x % 2 ^ (n - 1)) q ∙ mod_self (2 ^ (n - 1)))

  -- a number has those that sign, direction, regime and characteristic leave of its n bits
  pub number_has : IsWord n w → (w ≡ 0 → ⊥) → (w ≡ 2 ^ (n - 1) → ⊥) → own_fraction_bits n w ≡ n - (r (N n) (padded n w) + 5)
  unfolding own_fraction_bits
  number_has i f g = rw (ne_eqb (w % 2 ^ (n - 1)) 0 (some (lies n w))) (or_zero_lem n (r (N n) (padded n w)))
    where
      some : Lies n w → w % 2 ^ (n - 1) ≡ 0 → ⊥
      some (at_zero q) z = f q
      some (above h b) z = f (sym (mod-eq_of_lt b) ∙ z)
      some (at_NaR q) z = g q
      some (under b) z = ne_of_gt (omega (arith, b)) (sym rest ∙ z)
        where
          rest : w % 2 ^ (n - 1) ≡ w - 2 ^ (n - 1)
          rest = mod-eq-sub-mod (le_of_lt b) ∙ mod-eq_of_lt (omega (arith, b, i.fits, twice n i.least))

-- ---- zeros appended leave the regime
pub same_regime : (n k w : ℕ) → r (N (n + k)) (padded (n + k) (w * 2 ^ k)) ≡ r (N n) (padded n w)
unfolding N padded
same_regime n k w = ap₂ r long appended ∙ r_appended (max n 12) i (w * 2 ^ d) (omega arith)
  where
    d : ℕ
    d = max n 12 - n

    i : ℕ
    i = max (n + k) 12 - max n 12

    long : max (n + k) 12 ≡ max n 12 + i
    long = omega arith

    all : (a b c : ℕ) → a + b ≡ c → w * 2 ^ a * 2 ^ b ≡ w * 2 ^ c
    all a b c e = mul_assoc w (2 ^ a) (2 ^ b) ∙ ap (λ (x : ℕ). w * x) (pow_sum a b c e)

    appended : w * 2 ^ k * 2 ^ (max (n + k) 12 - (n + k)) ≡ w * 2 ^ d * 2 ^ i
    appended = all k (max (n + k) 12 - (n + k)) (max (n + k) 12 - n) (omega arith) ∙ sym (all d i (max (n + k) 12 - n) (omega arith))
