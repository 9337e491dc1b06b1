-- What a word means: document 004, Definition 2, in the paper's letters; and how many fraction bits are its own (paper 02, Wish 3).
use Rattle.std.specs.Prelude.{cond, ℕ, ◌+◌, ◌-◌, ◌*◌, ◌/◌, ◌%◌, ◌^◌, max, eqb, ℤ, pos, negsuc, neg_ℤ, ◌+ℤ◌, ◌-ℤ◌, ◌*ℤ◌}

-- Every value at widths up to 64 is a whole multiple of 2^-307, so a value is the whole number "value times 2^307".
-- NaR is "not a real".
pub data Takum : Type 0 where
  real : ℤ → Takum
  NaR : Takum

-- 2^k as a whole number. Below exponent 0 there is none, and 0 stands for that; no word goes there (`exponent_whole` in proofs/Meaning.antt).
unfoldable pub power : ℤ → ℕ
power (pos k) = 2 ^ k
power (negsuc k) = 0

-- (4) the regime: R where D = 1, and R's complement where D = 0
unfoldable pub regime_of : ℕ → ℕ → ℕ
regime_of D R = cond (eqb D 1) R (7 - R)

-- (5) the characteristic, from -255 to 254
unfoldable pub characteristic_of : ℕ → ℕ → ℕ → ℤ
characteristic_of D r C = cond (eqb D 1) (pos (2 ^ r) -ℤ pos 1 +ℤ pos C) (pos C +ℤ pos 1 -ℤ pos (2 ^ (r + 1)))

-- Definition 2 speaks of a string T of n bits, n at least 12, which is given here as a number below 2^n.
module _ (n T : ℕ) where
  -- From the top: sign bit S, direction bit D, regime bits R (3).
  unfoldable pub S : ℕ
  S = T / 2 ^ (n - 1)

  unfoldable pub D : ℕ
  D = T / 2 ^ (n - 2) % 2

  unfoldable pub R : ℕ
  R = T / 2 ^ (n - 5) % 8

  -- the regime
  unfoldable pub r : ℕ
  r = regime_of D R

  -- the fraction bit count
  unfoldable pub p : ℕ
  p = n - r - 5

  -- characteristic bits C (r), fraction bits F (p)
  unfoldable pub C : ℕ
  C = T / 2 ^ p % 2 ^ r

  unfoldable pub F : ℕ
  F = T % 2 ^ p

  -- the characteristic
  unfoldable pub c : ℤ
  c = characteristic_of D r C

  -- (6) the exponent e = (-1)^S (c + S)
  unfoldable pub e : ℤ
  e = cond (eqb S 1) (neg_ℤ (c +ℤ pos 1)) c

  -- (7) the value [(1 - 3S) + f] 2^e with f = F / 2^p, times 2^307: [(1 - 3S) 2^p + F] 2^(e - p + 307)
  unfoldable pub value : ℤ
  value = ((pos 1 -ℤ pos (3 * S)) *ℤ pos (2 ^ p) +ℤ pos F) *ℤ pos (power (e -ℤ pos p +ℤ pos 307))

  -- (7) with its special cases: where all bits after the sign are zero, S = 0 is the number 0 and S = 1 is NaR
  unfoldable pub meaning : Takum
  meaning = cond (eqb (T % 2 ^ (n - 1)) 0) (cond (eqb S 0) (real (pos 0)) NaR) (real value)

-- A string shorter than 12 bits has zero bits appended on the right until there are 12.
unfoldable pub N : ℕ → ℕ
N n = max n 12

unfoldable pub padded : ℕ → ℕ → ℕ
padded n w = w * 2 ^ (N n - n)

-- What the word w of n bits means, and its fraction bit count.
unfoldable pub takum : ℕ → ℕ → Takum
takum n w = meaning (N n) (padded n w)

unfoldable pub fraction_bits : ℕ → ℕ → ℕ
fraction_bits n w = p (N n) (padded n w)

-- a number, or 0 where it is negative
unfoldable pub or_zero : ℤ → ℕ
or_zero (pos k) = k
or_zero (negsuc k) = 0

-- The own fraction bits of the word w of n bits (paper 02, Wish 3): n - r - 5 with r of the padded string, or 0 where that is negative, since zeros that
-- were appended are no precision. Zero and NaR, all of whose bits after the sign are zero, have none.
unfoldable pub own_fraction_bits : ℕ → ℕ → ℕ
own_fraction_bits n w = cond (eqb (w % 2 ^ (n - 1)) 0) 0 (or_zero (pos n -ℤ pos (r (N n) (padded n w)) -ℤ pos 5))
