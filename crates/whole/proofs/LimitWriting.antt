-- Strict writing never refuses a whole number up to the exact-count limit. Assumes nothing.
use Rattle.std.specs.Prelude.{Ok}
use Rattle.bounds.specs.Refusals.{Answer}
use mathlib.Core.Path.{◌≡◌}
use mathlib.Core.Bool.{Bool}
use Prim.Native.Nat.{ℕ, ◌*◌, ◌^◌, ◌≤◌}
use native.Mathlib.Nat.{mul-one, zero-lt-suc}
use Rattle.bounds.specs.Widths.{IsLimit}
use Rattle.round.specs.declared.value.Rule.{Rule}
use Rattle.nearest.specs.Nearest.{HasValue}
use Rattle.round.specs.Writes.{IsWritten}
use Rattle.round.proofs.Rounding.{exact_written}
use Rattle.whole.specs.Limits as promise
use Rattle.whole.proofs.LimitWords.{every_whole_number_up_to_the_limit_has_a_word}

pub strict_writing_up_to_the_limit_is_never_refused :
    (n l : ℕ) → 2 ≤ n → n ≤ 64 → IsLimit n l → (i : ℕ) → i ≤ l → (negative : Bool) (r : Answer ℕ) → IsWritten n Rule.Strict negative (i * 2 ^ 307) 1 r → (w : ℕ) × (r ≡ Ok w) × HasValue n negative (i * 2 ^ 307) w
unfolding promise.EveryWholeNumberUpToTheLimitHasAWord
strict_writing_up_to_the_limit_is_never_refused n l lo hi x i le s r y =
    let t = every_whole_number_up_to_the_limit_has_a_word n l lo hi x i le s in
    (t.0, exact_written n lo hi Rule.Strict s (i * 2 ^ 307) 1 t.0 r (zero-lt-suc 0) (record { z = i * 2 ^ 307; is = t.1; same = mul-one (i * 2 ^ 307) }) y, t.1)
