-- What writing a value and moving a word say (paper 02, Wish 4): what is written is as in Writes.antt, and which way it went as in
-- crates/nearest/specs/Sayings.antt.
use Rattle.std.specs.Prelude.{◌≡◌, ℕ, ◌*◌, pos, nat_abs, ◌+ℤ◌}
use Rattle.bounds.specs.declared.answer.Written.{Written}
use Rattle.bounds.specs.declared.saying.Saying.{Saying}
use Rattle.bounds.specs.declared.saying.Saying.TheVariants.{Exact}
use Rattle.bounds.specs.Refusals.{Answer}
use Rattle.bounds.specs.Sayings.{AndSays}
use Rattle.word.specs.Takum.{Takum, real, NaR, takum}
use Rattle.word.specs.Reads.{num, den}
use Rattle.nearest.specs.Sayings.{Says}
use Rattle.round.specs.declared.value.Rule.{Rule}
use Rattle.write.specs.declared.value.Value.{Value}
use Rattle.write.specs.Writes.{is_negative, Writes, Moves}

-- what is said of the word w of n bits beside what another word means; NaR is given for NaR alone
unfoldable pub SaysMoved : ℕ → Takum → ℕ → Saying → Type 0
SaysMoved n (real z) w s = Says n (is_negative z) (nat_abs z) 1 w s
SaysMoved n NaR w s = s ≡ Exact

-- ---- what the calls answer, and say
unfoldable pub WritesAndSays : ℕ → Rule → Value → Answer Written → Type 0
WritesAndSays n rule v r = AndSays (Writes n rule v) (Says n v.negative (v.m * num (v.k +ℤ pos 307)) (den (v.k +ℤ pos 307))) r

unfoldable pub MovesAndSays : ℕ → ℕ → Rule → ℕ → Answer Written → Type 0
MovesAndSays n n' rule w r = AndSays (Moves n n' rule w) (SaysMoved n' (takum n w)) r
