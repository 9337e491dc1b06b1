-- Two outcomes that the contract of a column allows are equal: the answers, how many are exact, and what the result slice holds afterwards. Assumes
-- nothing.
use Rattle.std.specs.Prelude.{Ok, Err}
use mathlib.Core.Path.{◌≡◌, refl, sym, ap, ap₂, ◌∙◌, subst, subst₂}
use mathlib.Core.List.{List}
use Prim.Native.Nat.{ℕ, ◌≤◌, ◌<◌}
use native.Mathlib.Decide.{dec_lt}
use native.Mathlib.Nat.{le_antisymm}
use native.Mathlib.Omega.{arith}
use lib.ListN.{length, get_or}
use lib.Seq.{ext_get_or}
use Rattle.bounds.specs.declared.refusal.ListRefusal.{ListRefusal}
use Rattle.bounds.specs.declared.refusal.Refusal.{Refusal}
use Rattle.bounds.specs.Refusals.{ListAnswer, through, refused}
use Rattle.bounds.proofs.Answers.{word_of}
use Rattle.bounds.proofs.Powers.{not_more}
use Rattle.bounds.proofs.Verdicts.{answered, refused_as}
use Rattle.round.specs.declared.value.Rule.{Rule}
use Rattle.write.specs.Writes.{Moves}
use Rattle.write.proofs.OneOutcome.{moves_one}
use Rattle.column.specs.declared.moving.MovedColumn.{MovedColumn}
use Rattle.column.specs.Counts.{Counts, KeepsTheMeaning, CountsExact, HoldsAndCounts}
use Rattle.column.specs.Columns.{MovableUpTo, FirstRefusal, IsTried, AreMoved, how_many, MovesColumn, Holds}
use Rattle.column.proofs.Counts.{counts_one}
use Rattle.column.proofs.Trials.{not_refused}

-- a number of words, or a refusal
number_of : ListAnswer ℕ → ℕ
number_of (Ok k) = k
number_of (Err e) = 0

GivesANumber : ListAnswer ℕ → Type 0
GivesANumber (Ok k) = Unit {0}
GivesANumber (Err e) = ⊥

given : ℕ → ℕ → ListAnswer MovedColumn
given k e = Ok (record { moved = k; exact = e })

without : ListAnswer ℕ → ListAnswer MovedColumn
without (Ok k) = given k 0
without (Err e) = Err e

module _ (n n' : ℕ) (rule : Rule) (words : List ℕ) where
  -- a refusal is not at a position before which every word is moved
  refused_later : {position count : ℕ} {q : Refusal} → FirstRefusal n n' rule words position q → MovableUpTo n n' rule words count → count ≤ position
  unfolding MovableUpTo
  refused_later {position} {count} {q} x movable = by (dec_lt position count)
    where
      by : Dec (position < count) → count ≤ position
      by (yes l) = absurd (not_refused n n' (get_or words position 0) rule (Err q) x.is q (movable position l) refl)
      by (no f) = not_more f

  column_one : (a b : ListAnswer MovedColumn) → IsTried n n' rule words a → IsTried n n' rule words b → how_many a ≡ how_many b
  unfolding IsTried
  column_one (Ok m) (Ok m') x y = ap counted (x.0 ∙ sym y.0)
    where
      counted : ℕ → ListAnswer ℕ
      counted k = Ok k
  column_one (Ok m) (Err (ListRefusal.At position q)) x y = absurd (omega (arith, refused_later y x.1, x.0, y.inside))
  column_one (Err (ListRefusal.At position q)) (Ok m) x y = absurd (omega (arith, refused_later x y.1, y.0, x.inside))
  column_one (Err (ListRefusal.At position q)) (Err (ListRefusal.At position' q')) x y = ap₂ (λ (k : ℕ) (r : Refusal). refused_at k r) same_position same_refusal
    where
      refused_at : ℕ → Refusal → ListAnswer ℕ
      refused_at k r = Err (ListRefusal.At k r)

      same_position : position ≡ position'
      same_position = le_antisymm (refused_later y x.lowest) (refused_later x y.lowest)

      same_refusal : q ≡ q'
      same_refusal =
          let there = subst (λ (k : ℕ). Moves n n' rule (get_or words k 0) (Err q')) (sym same_position) y.is in
          let same = moves_one n n' rule (get_or words position 0) (Err q) (Err q') x.is there in
          cc
  column_one (Err (ListRefusal.Whole q)) b x y = absurd x
  column_one (Ok m) (Err (ListRefusal.Whole q)) x y = absurd y
  column_one (Err (ListRefusal.At position q)) (Err (ListRefusal.Whole q')) x y = absurd y

  pub moves_column_one : (room : ℕ) (a b : ListAnswer MovedColumn) → MovesColumn n n' rule words room a → MovesColumn n n' rule words room b → how_many a ≡ how_many b
  unfolding MovesColumn
  moves_column_one room a b (through h x) y = column_one a b x (answered h y)
  moves_column_one room a b (refused h x) y = ap how_many (x ∙ sym (refused_as _ h y))

  are_moved_one : (count : ℕ) (before after after' : List ℕ) → AreMoved n n' rule words count before after → AreMoved n n' rule words count before after' → after ≡ after'
  unfolding word_of
  are_moved_one count before after after' x y = ext_get_or 0 after after' (x.room ∙ sym y.room) (λ i h. by i (dec_lt i count))
    where
      by : (i : ℕ) → Dec (i < count) → get_or after i 0 ≡ get_or after' i 0
      by i (yes l) = ap word_of (moves_one n n' rule (get_or words i 0) (Ok (get_or after i 0)) (Ok (get_or after' i 0)) (x.moved i l) (y.moved i l))
      by i (no f) = x.others i (not_more f) ∙ sym (y.others i (not_more f))

  pub holds_one : (before : List ℕ) (a : ListAnswer MovedColumn) (after after' : List ℕ) → Holds n n' rule words before a after → Holds n n' rule words before a after' → after ≡ after'
  unfolding Holds
  holds_one before (Ok m) after after' x y = are_moved_one m.moved before after after' x y
  holds_one before (Err (ListRefusal.Whole q)) after after' x y = x ∙ sym y
  holds_one before (Err (ListRefusal.At position q)) after after' x y = x ∙ sym y

  -- and how many words are exact
  pub moved_column_one : (before : List ℕ) (a b : ListAnswer MovedColumn) (after after' : List ℕ) → MovesColumn n n' rule words (length before) a → HoldsAndCounts n n' rule words before a after → MovesColumn n n' rule words (length before) b → HoldsAndCounts n n' rule words before b after' → (a ≡ b) × (after ≡ after')
  unfolding HoldsAndCounts Holds CountsExact number_of GivesANumber given without
  moved_column_one before a b after after' x h y g = by a b (moves_column_one (length before) a b x y) h g
    where
      by : (a b : ListAnswer MovedColumn) → how_many a ≡ how_many b → Holds n n' rule words before a after × CountsExact n n' words after a → Holds n n' rule words before b after' × CountsExact n n' words after' b → (a ≡ b) × (after ≡ after')
      by (Ok m) (Ok m') q h g =
          let moved : m.moved ≡ m'.moved = ap number_of q in
          let slice = are_moved_one m.moved before after after' h.0 (subst (λ (k : ℕ). AreMoved n n' rule words k before after') (sym moved) g.0) in
          let exact = counts_one h.1 (subst₂ (λ (k : ℕ) (l : List ℕ). Counts (KeepsTheMeaning n n' words l) k m'.exact) (sym moved) (sym slice) g.1) in
          (ap₂ (λ (k e : ℕ). given k e) moved exact, slice)
      by (Ok m) (Err e) q h g = absurd (subst GivesANumber q tt)
      by (Err e) (Ok m) q h g = absurd (subst GivesANumber (sym q) tt)
      by (Err e) (Err f) q h g =
          let same : ◌≡◌ {A = ListAnswer MovedColumn} (Err e) (Err f) = ap (λ (a : ListAnswer ℕ). without a) q in
          (same, holds_one before (Err e) after after' h.0 (subst (λ (a : ListAnswer MovedColumn). Holds n n' rule words before a after') (sym same) g.0))
