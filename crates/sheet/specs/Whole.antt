-- Serves private functions only: the bytes of a block, once their number was tested.
use Rattle.std.specs.Prelude.{◌≡◌, ℕ, List, Ok, Err}
use Rattle.bounds.specs.Refusals.{Answer, Decided}
use Rattle.sheet.specs.declared.bytes.Bytes.{Bytes}
use Rattle.sheet.specs.Reads.{size_test}

unfoldable pub IsBytes : List ℕ → Answer Bytes → Type 0
IsBytes block a = Decided (size_test block) (λ q. a ≡ Err q) ((b : Bytes) × (a ≡ Ok b) × (b.all.now ≡ block))
