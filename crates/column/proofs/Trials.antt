-- A word that is tried is let through exactly where it is moved to some word. Assumes nothing.
use Rattle.std.specs.Prelude.{Ok, Err}
use mathlib.Core.Path.{◌≡◌, refl, sym, ◌∙◌, subst}
use Prim.Native.Nat.{ℕ}
use Rattle.bounds.specs.declared.refusal.Refusal.{Refusal}
use Rattle.bounds.specs.Refusals.{Answer, Verdict, passed, width_test, word_test, refused}
use Rattle.bounds.proofs.Answers.{GivesAWord}
use Rattle.bounds.proofs.Verdicts.{width_through, word_through}
use Rattle.round.specs.declared.value.Rule.{Rule}
use Rattle.write.specs.Writes.{Moves}
use Rattle.write.proofs.Moves.{rounded_moves}
use Rattle.write.proofs.OneOutcome.{moves_one}
use Rattle.column.specs.Columns.{Movable}
use Rattle.column.specs.Trials.{TriesWord}

-- Rounded, only a stray bit is refused: every word of the width is moved to some word.
pub rounded_movable : (n n' w : ℕ) → width_test n' ≡ passed → word_test n w ≡ passed → Movable n n' Rule.Rounded w
unfolding Movable
rounded_movable n n' w h' s = let t = width_through n' h' in rounded_moves n n' w (word_through n w s) t.0 t.1

pub rounded_tried : (n n' w : ℕ) (v : Verdict) → width_test n ≡ passed → width_test n' ≡ passed → v ≡ word_test n w → TriesWord n n' Rule.Rounded w v
unfolding TriesWord Moves
rounded_tried n n' w (Ok _) h h' s = rounded_movable n n' w h' (sym s)
rounded_tried n n' w (Err q) h h' s = refused {q = q} (rw (h, h') (rw h at (sym s))) refl

-- By either rule, the move itself tells.
module _ (n n' w : ℕ) (rule : Rule) (a : Answer ℕ) (is : Moves n n' rule w a) where
  pub word_given : (w' : ℕ) → a ≡ Ok w' → TriesWord n n' rule w passed
  unfolding TriesWord Movable
  word_given w' q = (w', subst (Moves n n' rule w) q is)

  pub refusal_given : (q : Refusal) → a ≡ Err q → TriesWord n n' rule w (Err q)
  unfolding TriesWord
  refusal_given q e = subst (Moves n n' rule w) e is

  -- a word that is moved to some word is not refused
  pub not_refused : (q : Refusal) → Movable n n' rule w → a ≡ Err q → ⊥
  unfolding Movable GivesAWord
  not_refused q (w', m) e = subst GivesAWord (moves_one n n' rule w (Ok w') a m is ∙ e) tt
