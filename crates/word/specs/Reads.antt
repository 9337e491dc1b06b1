-- What reading a word answers: zero, NaR, or sign, exponent h and significand m with its fraction bit count p (paper 01), and how fine it is: the word's
-- own fraction bits (paper 02, Wish 3).
use Rattle.std.specs.Prelude.{Ok, Err, ◌≡◌, Bool, true, false, ℕ, suc, ◌+◌, ◌*◌, ◌^◌, ◌≤◌, ◌<◌, ℤ, pos, negsuc, neg_ℤ, ◌+ℤ◌, ◌-ℤ◌}
use Rattle.word.specs.declared.reading.Kind.{Kind}
use Rattle.word.specs.declared.reading.Reading.{Reading}
use Rattle.bounds.specs.Refusals.{Answer, word_test, Decided}
use Rattle.word.specs.Takum.{Takum, real, NaR, takum, fraction_bits, own_fraction_bits}

-- 2^k as a fraction of two whole numbers
unfoldable pub num : ℤ → ℕ
num (pos k) = 2 ^ k
num (negsuc k) = 1

unfoldable pub den : ℤ → ℕ
den (pos k) = 1
den (negsuc k) = 2 ^ suc k

-- the size m * 2^k is v * 2^-307: the two are compared as whole numbers, times the denominator of 2^(k + 307)
unfoldable pub IsSize : ℕ → ℤ → ℕ → Type 0
IsSize m k v = m * num (k +ℤ pos 307) ≡ v * den (k +ℤ pos 307)

-- a size with its sign
unfoldable pub signed_size : Bool → ℕ → ℤ
signed_size false v = pos v
signed_size true v = neg_ℤ (pos v)

-- sign, h, m and p are the number that a word means, and p is its fraction bit count
pub record IsNumber (meaning : Takum) (fraction_count : ℕ) (negative : Bool) (h : ℤ) (m p : ℕ) : Type 0 where
  pub v : ℕ
  pub means : meaning ≡ real (signed_size negative v)
  pub size : IsSize m (h -ℤ pos p) v
  pub count : p ≡ fraction_count
  pub low : 2 ^ p ≤ m
  pub high : m < 2 ^ (p + 1)

-- the kind of a reading is what the word means
unfoldable pub IsKind : Takum → ℕ → Kind → Type 0
IsKind meaning fraction_count Kind.Zero = meaning ≡ real (pos 0)
IsKind meaning fraction_count Kind.Nar = meaning ≡ NaR
IsKind meaning fraction_count (Kind.Number negative h m p) = IsNumber meaning fraction_count negative h m p

-- a reading, of whatever kind, has the word's own fraction bits
pub record IsReading (meaning : Takum) (fraction_count own_bits : ℕ) (a : Reading) : Type 0 where
  pub what : IsKind meaning fraction_count a.kind
  pub fine : a.own ≡ own_bits

-- ---- what the call answers
unfoldable pub Reads : ℕ → ℕ → Answer Reading → Type 0
Reads n w a = Decided (word_test n w) (λ q. a ≡ Err q) ((r : Reading) × (a ≡ Ok r) × IsReading (takum n w) (fraction_bits n w) (own_fraction_bits n w) r)
