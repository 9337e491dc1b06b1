-- The sign of a string of 64 bits, and its size without it, as the call gives them; and the same of a word.
use Rattle.std.specs.Prelude.{Ok, Err, ◌≡◌, cond, ℕ, ◌+◌, ◌-◌, ◌*◌, ◌^◌, ltb, pos}
use Rattle.bounds.specs.Refusals.{Answer, word_test, Decided}
use Rattle.sizes.specs.declared.size.Size.{Size}
use Rattle.sizes.specs.declared.size.WordSize.{WordSize}
use Rattle.word.specs.Takum.{Takum, real, NaR, takum, p, F, c}
use Rattle.word.specs.Reads.{IsNumber}

-- a word that lies above NaR mirrored to below it
unfoldable pub without_sign : ℕ → ℕ → ℕ
without_sign nar w = cond (ltb w nar) w (nar + nar - w)

-- what a word means, as a size m * 2^(h - 63) with 2^63 <= m < 2^64 and its sign
unfoldable pub IsWordSize : Takum → WordSize → Type 0
IsWordSize meaning WordSize.Zero = meaning ≡ real (pos 0)
IsWordSize meaning WordSize.Nar = meaning ≡ NaR
IsWordSize meaning (WordSize.Number s) = IsNumber meaning 63 s.negative s.h s.m 63

-- ---- what the calls answer
-- WIDTH, then STRAY
unfoldable pub ReadsSize : ℕ → ℕ → Answer WordSize → Type 0
ReadsSize n w a = Decided (word_test n w) (λ q. a ≡ Err q) ((s : WordSize) × (a ≡ Ok s) × IsWordSize (takum n w) s)

-- the string without its sign has the size (1 + F / 2^p) * 2^c, which is m * 2^(h - 63)
pub record Sizes (T : ℕ) (x : Size) : Type 0 where
  pub sign : x.negative ≡ ltb (2 ^ 63) T
  pub characteristic : x.h ≡ c 64 (without_sign (2 ^ 63) T)
  pub significand : x.m ≡ 2 ^ 63 + F 64 (without_sign (2 ^ 63) T) * 2 ^ (63 - p 64 (without_sign (2 ^ 63) T))
