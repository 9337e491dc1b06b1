-- What writing a value and moving a word mean (paper 01, "Writing a value").
use Rattle.std.specs.Prelude.{Ok, Err, ◌≡◌, Bool, true, false, ℕ, ◌*◌, ℤ, pos, negsuc, nat_abs, ◌+ℤ◌}
use Rattle.word.specs.Takum.{Takum, real, NaR, takum}
use Rattle.word.specs.Reads.{num, den}
use Rattle.bounds.specs.Refusals.{Answer, width_test, stray_test, ◌then◌, Decided}
use Rattle.bounds.specs.Widths.{nar_word}
use Rattle.round.specs.declared.value.Rule.{Rule}
use Rattle.round.specs.Writes.{IsWritten}
use Rattle.write.specs.declared.value.Value.{Value}

unfoldable pub is_negative : ℤ → Bool
is_negative (pos z) = false
is_negative (negsuc z) = true

-- what the rule gives for what a word means
unfoldable pub IsMoved : ℕ → Rule → Takum → Answer ℕ → Type 0
unfolding is_negative
IsMoved n rule (real z) r = IsWritten n rule (is_negative z) (nat_abs z) 1 r
IsMoved n rule NaR r = r ≡ Ok (nar_word n)

-- ---- what the calls answer
-- WIDTH, then INEXACT; the value m * 2^k is offered as a fraction counted in 2^-307
unfoldable pub Writes : ℕ → Rule → Value → Answer ℕ → Type 0
Writes n rule v r = Decided (width_test n) (λ q. r ≡ Err q) (IsWritten n rule v.negative (v.m * num (v.k +ℤ pos 307)) (den (v.k +ℤ pos 307)) r)

-- WIDTH of the source, then of the target, then STRAY, then INEXACT
unfoldable pub Moves : ℕ → ℕ → Rule → ℕ → Answer ℕ → Type 0
Moves n n' rule w r = Decided (width_test n then width_test n' then stray_test n w) (λ q. r ≡ Err q) (IsMoved n' rule (takum n w) r)
