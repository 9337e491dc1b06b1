-- What a word is as a binary64 number (paper 01, "Whole numbers and binary64"), in the toolchain's account of IEEE 754.
use Rattle.std.specs.Prelude.{◌≡◌, ℕ, ◌^◌, nat_abs}
use Rattle.std.specs.Float.{binary64}
use Rattle.std.specs.Float.Ieee.{round}
use Rattle.bounds.specs.Refusals.{word_test, Decided}
use Rattle.word.specs.Takum.{Takum, real, NaR, takum}
use Rattle.write.specs.Writes.{is_negative}
use Rattle.binary64.specs.declared.taking.Binary64.{Binary64}

-- The nearest binary64, ties to even, to the value z * 2^-307; zero is positive zero. It has the property `NearestBinary64` (Nearest.antt), and
-- only it has: proofs/Nearest.antt. Up to width 57 it has the value itself (`taken_exact` in proofs/Exactness.antt).
unfoldable pub IsTakenBinary64 : Takum → Binary64 → Type 0
IsTakenBinary64 (real z) a = a ≡ Binary64.Number (round binary64 (is_negative z) (nat_abs z) (2 ^ 307))
IsTakenBinary64 NaR a = a ≡ Binary64.Nar

-- ---- what the call answers
-- WIDTH, then STRAY
unfoldable pub TakesBinary64 : ℕ → ℕ → Binary64 → Type 0
TakesBinary64 n w a = Decided (word_test n w) (λ q. a ≡ Binary64.Refused q) (IsTakenBinary64 (takum n w) a)
