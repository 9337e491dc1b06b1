-- Two outcomes that the hub's contracts allow are equal, with their sayings. Assumes nothing.
use Rattle.std.specs.Prelude.{Ok, Err}
use mathlib.Core.Path.{◌≡◌, sym, ◌∙◌, subst}
use mathlib.Core.Bool.{Bool}
use Prim.Native.Nat.{ℕ, ◌+◌, ◌*◌, ◌^◌, ◌≤◌}
use lib.IntN.{ℤ, pos, ◌+ℤ◌, ◌-ℤ◌}
use Rattle.bounds.specs.declared.answer.Written.{Written}
use Rattle.bounds.specs.declared.saying.Saying.{Saying}
use Rattle.sizes.specs.declared.size.Size.{Size}
use Rattle.word.specs.Reads.{num, den}
use Rattle.bounds.specs.Refusals.{Answer, width_test, IsWord, Decided, through, refused}
use Rattle.bounds.proofs.Answers.{GivesAWord, said_one}
use Rattle.bounds.proofs.Verdicts.{width_through, answered, refused_as}
use Rattle.word.proofs.Units.{unit_some}
use Rattle.round.specs.declared.value.Rule.{Rule}
use Rattle.round.specs.declared.value.LongValue.{LongValue}
use Rattle.nearest.specs.Sayings.{Says}
use Rattle.nearest.proofs.Sayings.{says_one}
use Rattle.round.specs.Writes.{zero, other, IsWritten, WritesShort, WritesSize, WritesLong}
use Rattle.round.specs.Sayings.{WritesShortAndSays, WritesSizeAndSays, WritesLongAndSays}
use Rattle.round.proofs.Rounding.{written_one}
use Rattle.round.proofs.Rules.{zero_value}

pub writes_short_one : (n : ℕ) (rule : Rule) (negative : Bool) (m : ℕ) (k : ℤ) (a b : Answer ℕ) → WritesShort n rule negative m k a → WritesShort n rule negative m k b → a ≡ b
unfolding WritesShort
writes_short_one n rule negative m k a b (through h x) y =
    let t = width_through n h in
    written_one n t.0 t.1 rule negative (m * num (k +ℤ pos 307)) (den (k +ℤ pos 307)) a b (unit_some (k +ℤ pos 307)).1 x (answered h y)
writes_short_one n rule negative m k a b (refused h x) y = x ∙ sym (refused_as _ h y)

pub writes_size_one : (n : ℕ) (rule : Rule) (s : Size) (a b : Answer ℕ) → WritesSize n rule s a → WritesSize n rule s b → a ≡ b
unfolding WritesSize
writes_size_one n rule s a b x y = writes_short_one n rule s.negative s.m (s.h -ℤ pos 63) a b x y

pub writes_long_one : (n : ℕ) (rule : Rule) (v : LongValue) (a b : Answer ℕ) → WritesLong n rule v a → WritesLong n rule v b → a ≡ b
unfolding WritesLong
writes_long_one n rule v a b x y = writes_short_one n rule v.negative (v.high * 2 ^ 64 + v.low) v.k a b x y

-- ---- with their sayings
-- a word that is written is one of the width
pub written_word : (n : ℕ) → 2 ≤ n → n ≤ 64 → (rule : Rule) (s : Bool) (a b w : ℕ) → IsWritten n rule s a b (Ok w) → IsWord n w
unfolding IsWritten
written_word n lo hi Rule.Rounded s a b w (zero q e) = subst (IsWord n) (sym e) (zero_value n lo hi s).word
written_word n lo hi Rule.Rounded s a b w (other h x) = x.is.word
written_word n lo hi Rule.Strict s a b w x = x.is.word

-- and one thing is said of it
pub written_says_one : (n : ℕ) (rule : Rule) (s : Bool) (a b w : ℕ) (q q' : Saying) → Decided (width_test n) (λ t. Ok w ≡ Err t) (IsWritten n rule s a b (Ok w)) → Says n s a b w q → Says n s a b w q' → q ≡ q'
unfolding GivesAWord
written_says_one n rule s a b w q q' (through e x) y z = let t = width_through n e in
    says_one n t.0 t.1 s a b w q q' (written_word n t.0 t.1 rule s a b w x) y z
written_says_one n rule s a b w q q' (refused e x) y z = absurd (subst GivesAWord x tt)

pub writes_short_and_says_one : (n : ℕ) (rule : Rule) (negative : Bool) (m : ℕ) (k : ℤ) (a b : Answer Written) → WritesShortAndSays n rule negative m k a → WritesShortAndSays n rule negative m k b → a ≡ b
unfolding WritesShortAndSays WritesShort
writes_short_and_says_one n rule negative m k a b x y =
    said_one (writes_short_one n rule negative m k) (λ w s t. written_says_one n rule negative (m * num (k +ℤ pos 307)) (den (k +ℤ pos 307)) w s t) a b x y

pub writes_size_and_says_one : (n : ℕ) (rule : Rule) (s : Size) (a b : Answer Written) → WritesSizeAndSays n rule s a → WritesSizeAndSays n rule s b → a ≡ b
unfolding WritesSizeAndSays
writes_size_and_says_one n rule s a b x y = writes_short_and_says_one n rule s.negative s.m (s.h -ℤ pos 63) a b x y

pub writes_long_and_says_one : (n : ℕ) (rule : Rule) (v : LongValue) (a b : Answer Written) → WritesLongAndSays n rule v a → WritesLongAndSays n rule v b → a ≡ b
unfolding WritesLongAndSays
writes_long_and_says_one n rule v a b x y = writes_short_and_says_one n rule v.negative (v.high * 2 ^ 64 + v.low) v.k a b x y
