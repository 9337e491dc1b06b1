-- What the answer of a read tells. Assumes nothing.
use Rattle.std.proofs.Common.{ℕ, ◌≤◌, Result, Ok, Err, Option, IfSome, subst, sym, arith}
use Rattle.lister.specs.Told.{Tells}

-- no more bytes came than there was room for
pub within : {E : Type 0} (a : Result ℕ E) (room : ℕ) (r : Option ℕ) → Tells a room r → IfSome r (λ count. count ≤ room)
unfolding Tells
within (Ok k) room r t = subst (λ (o : Option ℕ). IfSome o (λ count. count ≤ room)) (sym t) (omega arith)
within (Err e) room r t = subst (λ (o : Option ℕ). IfSome o (λ count. count ≤ room)) (sym t) tt
