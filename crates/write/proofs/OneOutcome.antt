-- Two outcomes that the contracts of writing and of moving allow are equal, with their sayings. Assumes nothing.
use Rattle.std.specs.Prelude.{Ok}
use mathlib.Core.Path.{◌≡◌, sym, ◌∙◌, subst}
use Prim.Native.Nat.{ℕ, ◌*◌, ◌≤◌}
use native.Mathlib.Nat.{zero-lt-suc}
use lib.IntN.{pos, nat_abs, ◌+ℤ◌}
use Rattle.bounds.specs.declared.answer.Written.{Written}
use Rattle.bounds.specs.declared.saying.Saying.{Saying}
use Rattle.word.specs.Takum.{Takum, real, NaR, takum}
use Rattle.word.specs.Reads.{num, den}
use Rattle.bounds.specs.Refusals.{Answer, through, refused}
use Rattle.bounds.proofs.Answers.{GivesAWord, said_one}
use Rattle.bounds.proofs.Verdicts.{width_fits, width_through, move_through, answered, refused_as}
use Rattle.round.specs.declared.value.Rule.{Rule}
use Rattle.write.specs.declared.value.Value.{Value}
use Rattle.write.specs.Writes.{is_negative, IsMoved, Writes, Moves}
use Rattle.write.specs.Sayings.{SaysMoved, WritesAndSays, MovesAndSays}
use Rattle.word.proofs.Units.{unit_some}
use Rattle.round.proofs.OneOutcome.{written_says_one}
use Rattle.round.proofs.Rounding.{written_one}

pub writes_one : (n : ℕ) (rule : Rule) (v : Value) (a b : Answer ℕ) → Writes n rule v a → Writes n rule v b → a ≡ b
unfolding Writes
writes_one n rule v a b (through h x) y =
    let t = width_through n h in
    written_one n t.0 t.1 rule v.negative (v.m * num (v.k +ℤ pos 307)) (den (v.k +ℤ pos 307)) a b (unit_some (v.k +ℤ pos 307)).1 x (answered h y)
writes_one n rule v a b (refused h x) y = x ∙ sym (refused_as _ h y)

moved_one : (n : ℕ) → 2 ≤ n → n ≤ 64 → (rule : Rule) (t : Takum) (a b : Answer ℕ) → IsMoved n rule t a → IsMoved n rule t b → a ≡ b
unfolding IsMoved
moved_one n lo hi rule (real z) a b x y = written_one n lo hi rule (is_negative z) (nat_abs z) 1 a b (zero-lt-suc 0) x y
moved_one n lo hi rule NaR a b x y = x ∙ sym y

pub moves_one : (n n' : ℕ) (rule : Rule) (w : ℕ) (a b : Answer ℕ) → Moves n n' rule w a → Moves n n' rule w b → a ≡ b
unfolding Moves
moves_one n n' rule w a b (through h x) y =
    let t = width_through n' (move_through n n' w h).1 in
    moved_one n' t.0 t.1 rule (takum n w) a b x (answered h y)
moves_one n n' rule w a b (refused h x) y = x ∙ sym (refused_as _ h y)

-- ---- with their sayings
pub writes_and_says_one : (n : ℕ) (rule : Rule) (v : Value) (a b : Answer Written) → WritesAndSays n rule v a → WritesAndSays n rule v b → a ≡ b
unfolding WritesAndSays Writes
writes_and_says_one n rule v a b x y =
    said_one (writes_one n rule v) (λ w s t. written_says_one n rule v.negative (v.m * num (v.k +ℤ pos 307)) (den (v.k +ℤ pos 307)) w s t) a b x y

moved_says_one : (n : ℕ) → 2 ≤ n → n ≤ 64 → (rule : Rule) (t : Takum) (w : ℕ) (q q' : Saying) → IsMoved n rule t (Ok w) → SaysMoved n t w q → SaysMoved n t w q' → q ≡ q'
unfolding IsMoved SaysMoved
moved_says_one n lo hi rule (real z) w q q' x y y' = written_says_one n rule (is_negative z) (nat_abs z) 1 w q q' (through (width_fits n lo hi) x) y y'
moved_says_one n lo hi rule NaR w q q' x y y' = y ∙ sym y'

pub moves_says_one : (n n' : ℕ) (rule : Rule) (w v : ℕ) (q q' : Saying) → Moves n n' rule w (Ok v) → SaysMoved n' (takum n w) v q → SaysMoved n' (takum n w) v q' → q ≡ q'
unfolding Moves GivesAWord
moves_says_one n n' rule w v q q' (through h x) y y' = let t = width_through n' (move_through n n' w h).1 in
    moved_says_one n' t.0 t.1 rule (takum n w) v q q' x y y'
moves_says_one n n' rule w v q q' (refused h x) y y' = absurd (subst GivesAWord x tt)

pub moves_and_says_one : (n n' : ℕ) (rule : Rule) (w : ℕ) (a b : Answer Written) → MovesAndSays n n' rule w a → MovesAndSays n n' rule w b → a ≡ b
unfolding MovesAndSays
moves_and_says_one n n' rule w a b x y = said_one (moves_one n n' rule w) (λ v s t. moves_says_one n n' rule w v s t) a b x y
