-- What is special: NaN and both infinities give NaR, both zeros give zero, and NaR has no number. Assumes nothing.
use Rattle.std.specs.Prelude.{Ok}
use Rattle.bounds.specs.Refusals.{Answer, IsWord}
use mathlib.Core.Path.{◌≡◌, ap, ◌∙◌, subst}
use mathlib.Core.Bool.{Bool}
use Prim.Native.Nat.{ℕ, ◌*◌, ◌^◌, ◌≤◌}
use native.Mathlib.Nat.{zero-mul}
use lib.IntN.{ℤ}
use lib.Ieee.{nan, inf, fin, up, down}
use lib.Ieee.Fits.{down_pos}
use Rattle.word.specs.Takum.{Takum}
use Rattle.bounds.specs.Widths.{nar_word}
use Rattle.bounds.proofs.Verdicts.{width_fits, word_passes, answered}
use Rattle.word.proofs.Words.{takum_NaR}
use Rattle.round.specs.declared.value.Rule.{Rule}
use Rattle.round.proofs.Rounding.{written_one}
use Rattle.round.proofs.Rules.{zero_written}
use Rattle.binary64.specs.declared.taking.Binary64.{Binary64}
use Rattle.binary64.specs.Takes.{IsTakenBinary64, TakesBinary64}
use Rattle.binary64.specs.Writes.{IsWrittenBinary64, WritesBinary64}

module _ (n : ℕ) (lo : 2 ≤ n) (hi : n ≤ 64) (rule : Rule) (r : Answer ℕ) where
  pub nan_written : WritesBinary64 n rule nan r → r ≡ Ok (nar_word n)
  unfolding WritesBinary64 IsWrittenBinary64
  nan_written x = answered (width_fits n lo hi) x

  pub infinity_written : (s : Bool) → WritesBinary64 n rule (inf s) r → r ≡ Ok (nar_word n)
  unfolding WritesBinary64 IsWrittenBinary64
  infinity_written s x = answered (width_fits n lo hi) x

  pub zero_number_written : (s : Bool) (e : ℤ) → WritesBinary64 n rule (fin s 0 e) r → r ≡ Ok 0
  unfolding WritesBinary64 IsWrittenBinary64
  zero_number_written s e x =
      written_one n lo hi rule s (0 * up e * 2 ^ 307) (down e) r (Ok 0) (down_pos e) (answered (width_fits n lo hi) x)
      (zero_written n lo hi rule s (0 * up e * 2 ^ 307) (down e) (ap (λ (y : ℕ). y * 2 ^ 307) (zero-mul (up e)) ∙ zero-mul (2 ^ 307)))

pub NaR_not_taken : (n w : ℕ) (a : Binary64) → IsWord n w → w ≡ nar_word n → TakesBinary64 n w a → a ≡ Binary64.Nar
unfolding TakesBinary64 IsTakenBinary64 nar_word
NaR_not_taken n w a i q x = subst (λ (t : Takum). IsTakenBinary64 t a) (takum_NaR n w i.least i.most q) (answered (word_passes n w i) x)
