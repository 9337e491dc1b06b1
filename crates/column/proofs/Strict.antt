-- Demand 3 at each position: a strict column that was moved keeps every value, and moved back it is the first column. Assumes nothing.
use Rattle.std.specs.Prelude.{Ok, Err}
use Rattle.bounds.specs.declared.refusal.ListRefusal.{ListRefusal}
use Rattle.bounds.specs.Refusals.{Answer, ListAnswer}
use mathlib.Core.Path.{◌≡◌, sym, ap, ◌∙◌, subst}
use mathlib.Core.List.{List}
use Prim.Native.Nat.{ℕ, ◌≤◌, ◌<◌}
use native.Mathlib.Omega.{arith}
use lib.ListN.{length, get_or, take}
use lib.Seq.{length-take-le, get_or-take, ext_get_or}
use Rattle.word.specs.Takum.{takum}
use Rattle.bounds.proofs.Answers.{word_of, GivesAWord}
use Rattle.bounds.proofs.Verdicts.{answered}
use Rattle.round.specs.declared.value.Rule.{Rule}
use Rattle.write.specs.Writes.{Moves}
use Rattle.write.proofs.Moves.{strict_keeps, there_and_back}
use Rattle.column.specs.Columns.{IsTried, how_many, MovesColumn, Holds}
use Rattle.column.specs.declared.moving.MovedColumn.{MovedColumn}
use Rattle.column.proofs.Positions.{Passed, passes, moved_passed, every_word_counted, word_at}

module _ (n n' : ℕ) (words before : List ℕ) (m : MovedColumn) (after : List ℕ) (answer : MovesColumn n n' Rule.Strict words (length before) (Ok m)) (held : Holds n n' Rule.Strict words before (Ok m) after) where
  moved_at : (i : ℕ) → i < length words → Moves n n' Rule.Strict (get_or words i 0) (Ok (get_or after i 0))
  moved_at = word_at n n' Rule.Strict words before m after answer held

  pub strict_column_keeps : (i : ℕ) → i < length words → takum n' (get_or after i 0) ≡ takum n (get_or words i 0)
  strict_column_keeps i h = (strict_keeps n n' (get_or words i 0) (get_or after i 0) (moved_at i h)).same

  -- the results as the words of a second column, which goes back by either rule
  module _ (rule : Rule) (before' : List ℕ) (room : m.moved ≤ length before') where
    every_word : m.moved ≡ length words
    every_word = every_word_counted n n' Rule.Strict words before m after answer held

    ready : Passed n n' Rule.Strict words (length before) (Ok m)
    ready = moved_passed n n' Rule.Strict words before m after answer held

    pub results_counted : length (take m.moved after) ≡ m.moved
    unfolding Holds
    results_counted = length-take-le m.moved after (omega (arith, every_word, ready.fits, held.room))

    back : (i : ℕ) (r : Answer ℕ) → i < m.moved → Moves n' n rule (get_or (take m.moved after) i 0) r → r ≡ Ok (get_or words i 0)
    back i r h x = there_and_back n n' (get_or words i 0) (get_or after i 0) rule r (moved_at i (omega (arith, h, every_word))) (subst (λ (w : ℕ). Moves n' n rule w r) (get_or-take m.moved after i 0 h) x)

    pub column_comes_home : (a : ListAnswer MovedColumn) (after' : List ℕ) → MovesColumn n' n rule (take m.moved after) (length before') a → Holds n' n rule (take m.moved after) before' a after' → (how_many a ≡ Ok m.moved) × (take m.moved after' ≡ words)
    unfolding MovesColumn IsTried Holds word_of GivesAWord
    column_comes_home a after' x = by a (answered (passes n' n (length (take m.moved after)) (length before') ready.target ready.source (omega (arith, results_counted, room))) x)
      where
        by : (a : ListAnswer MovedColumn) → IsTried n' n rule (take m.moved after) a → Holds n' n rule (take m.moved after) before' a after' → (how_many a ≡ Ok m.moved) × (take m.moved after' ≡ words)
        by (Ok m') z y = (ap Ok (z.0 ∙ results_counted), ext_get_or 0 (take m.moved after') words (counted ∙ every_word) same)
          where
            counted : length (take m.moved after') ≡ m.moved
            counted = length-take-le m.moved after' (omega (arith, room, y.room))

            same : (i : ℕ) → i < length (take m.moved after') → get_or (take m.moved after') i 0 ≡ get_or words i 0
            same i h =
                let inside : i < m.moved = omega (arith, h, counted) in
                get_or-take m.moved after' i 0 inside ∙ ap word_of (back i (Ok (get_or after' i 0)) inside (y.moved i (omega (arith, inside, z.0, results_counted))))
        by (Err (ListRefusal.Whole q)) z y = absurd z
        by (Err (ListRefusal.At position q)) z y = absurd (subst GivesAWord (sym (back position (Err q) (omega (arith, z.inside, results_counted)) z.is)) tt)
