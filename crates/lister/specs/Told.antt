-- What the answer of a read tells: nothing, where it failed; else how many bytes came, of as many as there was room for. A read that failed is not the end
-- of the input.
use Rattle.std.specs.Prelude.{◌≡◌, ℕ, min, Result, Ok, Err, Option, Some, None}

unfoldable pub Tells : {E : Type 0} → Result ℕ E → ℕ → Option ℕ → Type 0
Tells (Ok k) room r = r ≡ Some (min k room)
Tells (Err _) room r = r ≡ None
