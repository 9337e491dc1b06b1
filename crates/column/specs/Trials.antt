-- Serves private functions only: what the crate's trials answer.
use Rattle.std.specs.Prelude.{List, ℕ, length, ⊤, Ok, Err}
use Rattle.bounds.specs.declared.refusal.ListRefusal.{ListRefusal}
use Rattle.bounds.specs.Refusals.{Verdict, ListAnswer}
use Rattle.round.specs.declared.value.Rule.{Rule}
use Rattle.write.specs.Writes.{Moves}
use Rattle.column.specs.Columns.{Movable, MovableUpTo, FirstRefusal}

-- let through exactly where the word is moved to some word, else refused as its move is
unfoldable pub TriesWord : ℕ → ℕ → Rule → ℕ → Verdict → Type 0
TriesWord n n' rule w (Ok _) = Movable n n' rule w
TriesWord n n' rule w (Err q) = Moves n n' rule w (Err q)

-- let through exactly where every word is moved to some word, else refused as the first that isn't
unfoldable pub TriesWords : ℕ → ℕ → Rule → List ℕ → ListAnswer ⊤ → Type 0
TriesWords n n' rule words (Ok _) = MovableUpTo n n' rule words (length words)
TriesWords n n' rule words (Err (ListRefusal.At position q)) = FirstRefusal n n' rule words position q
TriesWords n n' rule words (Err (ListRefusal.Whole q)) = ⊥
