-- Two outcomes that a contract of this crate allows are equal. Assumes nothing.
use Rattle.std.specs.Prelude.{Ok}
use mathlib.Core.Path.{◌≡◌, sym, ◌∙◌, subst}
use Prim.Native.Nat.{ℕ, ◌*◌, ◌^◌, ◌≤◌}
use lib.Ieee.{Float, nan, inf, fin, up, down}
use lib.Ieee.Fits.{down_pos}
use Rattle.bounds.specs.Refusals.{Answer, through, refused}
use Rattle.word.specs.Takum.{Takum, real, NaR, takum}
use Rattle.bounds.specs.declared.answer.Written.{Written}
use Rattle.bounds.specs.declared.saying.Saying.{Saying}
use Rattle.bounds.proofs.Answers.{GivesAWord, said_one}
use Rattle.bounds.proofs.Verdicts.{width_fits, width_through, answered, refused_as, decided_one}
use Rattle.round.specs.declared.value.Rule.{Rule}
use Rattle.round.proofs.OneOutcome.{written_says_one}
use Rattle.round.proofs.Rounding.{written_one}
use Rattle.binary64.specs.declared.taking.Binary64.{Binary64}
use Rattle.binary64.specs.Takes.{IsTakenBinary64, TakesBinary64}
use Rattle.binary64.specs.Writes.{IsWrittenBinary64, WritesBinary64}
use Rattle.binary64.specs.Sayings.{SaysBinary64, WritesBinary64AndSays}

written_one_of : (n : ℕ) → 2 ≤ n → n ≤ 64 → (rule : Rule) (x : Float) (r r' : Answer ℕ) → IsWrittenBinary64 n rule x r → IsWrittenBinary64 n rule x r' → r ≡ r'
unfolding IsWrittenBinary64
written_one_of n lo hi rule nan r r' p q = p ∙ sym q
written_one_of n lo hi rule (inf s) r r' p q = p ∙ sym q
written_one_of n lo hi rule (fin s m e) r r' p q = written_one n lo hi rule s (m * up e * 2 ^ 307) (down e) r r' (down_pos e) p q

pub writes_binary64_one : (n : ℕ) (rule : Rule) (x : Float) (r r' : Answer ℕ) → WritesBinary64 n rule x r → WritesBinary64 n rule x r' → r ≡ r'
unfolding WritesBinary64
writes_binary64_one n rule x r r' (through h p) q = let t = width_through n h in written_one_of n t.0 t.1 rule x r r' p (answered h q)
writes_binary64_one n rule x r r' (refused h p) q = p ∙ sym (refused_as _ h q)

-- with its saying
said_one_of : (n : ℕ) → 2 ≤ n → n ≤ 64 → (rule : Rule) (x : Float) (w : ℕ) (q q' : Saying) → IsWrittenBinary64 n rule x (Ok w) → SaysBinary64 n x w q → SaysBinary64 n x w q' → q ≡ q'
unfolding IsWrittenBinary64 SaysBinary64
said_one_of n lo hi rule nan w q q' x y z = y ∙ sym z
said_one_of n lo hi rule (inf s) w q q' x y z = y ∙ sym z
said_one_of n lo hi rule (fin s m e) w q q' x y z = written_says_one n rule s (m * up e * 2 ^ 307) (down e) w q q' (through (width_fits n lo hi) x) y z

pub writes_binary64_and_says_one : (n : ℕ) (rule : Rule) (x : Float) (a b : Answer Written) → WritesBinary64AndSays n rule x a → WritesBinary64AndSays n rule x b → a ≡ b
unfolding WritesBinary64AndSays WritesBinary64 GivesAWord
writes_binary64_and_says_one n rule x a b p q = said_one (writes_binary64_one n rule x) (λ w s t. by w s t) a b p q
  where
    by : (w : ℕ) (s t : Saying) → WritesBinary64 n rule x (Ok w) → SaysBinary64 n x w s → SaysBinary64 n x w t → s ≡ t
    by w s t (through h y) z z' = let u = width_through n h in said_one_of n u.0 u.1 rule x w s t y z z'
    by w s t (refused h y) z z' = absurd (subst GivesAWord y tt)

taken_one : (t : Takum) (a b : Binary64) → IsTakenBinary64 t a → IsTakenBinary64 t b → a ≡ b
unfolding IsTakenBinary64
taken_one (real z) a b p q = p ∙ sym q
taken_one NaR a b p q = p ∙ sym q

pub takes_binary64_one : (n w : ℕ) (a b : Binary64) → TakesBinary64 n w a → TakesBinary64 n w b → a ≡ b
unfolding TakesBinary64
takes_binary64_one n w a b = decided_one Binary64.Refused (IsTakenBinary64 (takum n w)) (taken_one (takum n w)) a b
