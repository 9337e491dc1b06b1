-- What writing a binary64 number means (paper 01, "Whole numbers and binary64"), in the toolchain's account of IEEE 754.
use Rattle.std.specs.Prelude.{Ok, Err, ◌≡◌, ℕ, ◌*◌, ◌^◌, Float}
use Rattle.std.specs.Float.{nan, inf, fin}
use Rattle.std.specs.Float.Ieee.{up, down}
use Rattle.bounds.specs.Refusals.{Answer, width_test, Decided}
use Rattle.bounds.specs.Widths.{nar_word}
use Rattle.round.specs.declared.value.Rule.{Rule}
use Rattle.round.specs.Writes.{IsWritten}

-- NaN and both infinities give NaR. Every other number is plus or minus m * 2^e, the fraction m * up e / down e, and is written as that value:
-- it is offered counted in 2^-307. Both zeros have m = 0, and give the zero word.
unfoldable pub IsWrittenBinary64 : ℕ → Rule → Float → Answer ℕ → Type 0
IsWrittenBinary64 n rule nan r = r ≡ Ok (nar_word n)
IsWrittenBinary64 n rule (inf s) r = r ≡ Ok (nar_word n)
IsWrittenBinary64 n rule (fin s m e) r = IsWritten n rule s (m * up e * 2 ^ 307) (down e) r

-- ---- what the call answers
-- WIDTH, then INEXACT
unfoldable pub WritesBinary64 : ℕ → Rule → Float → Answer ℕ → Type 0
WritesBinary64 n rule x r = Decided (width_test n) (λ q. r ≡ Err q) (IsWrittenBinary64 n rule x r)
