-- What a refusal of a column tells: nothing was written, and none counted. Assumes nothing.
use Rattle.std.specs.Prelude.{Ok, Err}
use mathlib.Core.Path.{◌≡◌, refl, sym, subst}
use mathlib.Core.List.{List}
use Prim.Native.Nat.{ℕ}
use Rattle.bounds.specs.declared.refusal.ListRefusal.{ListRefusal}
use Rattle.bounds.specs.Refusals.{ListAnswer}
use Rattle.round.specs.declared.value.Rule.{Rule}
use Rattle.column.specs.declared.moving.MovedColumn.{MovedColumn}
use Rattle.column.specs.Columns.{IsTried, Holds}
use Rattle.column.specs.Counts.{CountsExact, HoldsAndCounts}
use Rattle.column.specs.Trials.{TriesWords}

-- an answer that is no count
pub nothing_written : (n n' : ℕ) (rule : Rule) (words before : List ℕ) (a : ListAnswer MovedColumn) → ((m : MovedColumn) → a ≡ Ok m → ⊥) → HoldsAndCounts n n' rule words before a before
unfolding HoldsAndCounts Holds CountsExact
nothing_written n n' rule words before (Ok m) h = absurd (h m refl)
nothing_written n n' rule words before (Err (ListRefusal.Whole q)) h = (refl, tt)
nothing_written n n' rule words before (Err (ListRefusal.At position q)) h = (refl, tt)

IsRefusal : ListAnswer MovedColumn → Type 0
IsRefusal (Ok m) = ⊥
IsRefusal (Err e) = Unit {0}

pub no_count : (e : ListRefusal) (a : ListAnswer MovedColumn) → a ≡ Err e → (m : MovedColumn) → a ≡ Ok m → ⊥
unfolding IsRefusal
no_count e a h m k = subst IsRefusal k (subst IsRefusal (sym h) tt)

-- what the trial of the words refuses, the column is refused for
pub tried_refused : (n n' : ℕ) (rule : Rule) (words : List ℕ) (e : ListRefusal) → TriesWords n n' rule words (Err e) → IsTried n n' rule words (Err e)
unfolding TriesWords IsTried
tried_refused n n' rule words (ListRefusal.At position q) x = x
tried_refused n n' rule words (ListRefusal.Whole q) x = absurd x
