-- What paper 01 says of every word ("The word"), in its letters; T is the word's string, N bits long.
use Rattle.std.specs.Prelude.{◌≡◌, ℕ, ◌*◌, ◌^◌, ◌≤◌, ◌<◌, ℤ, pos, neg_ℤ, nat_abs, ◌+ℤ◌, ◌-ℤ◌, ◌*ℤ◌}
use Rattle.bounds.specs.Refusals.{IsWord}
use Rattle.bounds.specs.Widths.{nar_word}
use Rattle.word.specs.Takum.{Takum, real, S, p, F, c, e, N, padded, takum}

-- ---- "c runs from -255 to 254"
-- c + 255 is a whole number up to 509
unfoldable pub IsFromMinus255To254 : ℤ → Type 0
IsFromMinus255To254 c = (k : ℕ) × (c +ℤ pos 255 ≡ pos k) × (k ≤ 509)

-- of every word, and at width 16 the smallest and the largest positive word reach both ends
unfoldable pub CRunsFromMinus255To254 : Type 0
CRunsFromMinus255To254 = ((n w : ℕ) → IsWord n w → IsFromMinus255To254 (c (N n) (padded n w))) × (c 16 0x0001 ≡ neg_ℤ (pos 255)) × (c 16 0x7FFF ≡ pos 254)

-- ---- "Every value at these widths is a whole multiple of 2^-307 and is below 2^255 in size"
-- t is the value [(1 - 3S) + F / 2^p] 2^e, and nothing of it is lost where it is counted in 2^-307: the exponent e - p of its last bit isn't below -307,
-- and with K = e - p + 307 the value times 2^307 is the whole number [(1 - 3S) 2^p + F] 2^K
pub record IsWholeMultiple (N T : ℕ) (t : Takum) : Type 0 where
  pub K : ℕ
  pub exponent : e N T -ℤ pos (p N T) +ℤ pos 307 ≡ pos K
  pub is : t ≡ real (((pos 1 -ℤ pos (3 * S N T)) *ℤ pos (2 ^ p N T) +ℤ pos (F N T)) *ℤ pos (2 ^ K))

-- of every word that is neither zero nor NaR
unfoldable pub EveryValueIsAWholeMultiple : Type 0
EveryValueIsAWholeMultiple = (n w : ℕ) → IsWord n w → (w ≡ 0 → ⊥) → (w ≡ nar_word n → ⊥) → IsWholeMultiple (N n) (padded n w) (takum n w)

unfoldable pub EveryValueIsBelow2To255 : Type 0
EveryValueIsBelow2To255 = (n w : ℕ) (z : ℤ) → IsWord n w → takum n w ≡ real z → nat_abs z < 2 ^ 255 * 2 ^ 307
