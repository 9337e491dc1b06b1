-- What the exact-count limit l of a width n promises (paper 01, "Whole numbers and binary64"). No contract cites it; crate promises states the same of
-- the calls. A value is counted in 2^-307, so the whole number i is i * 2^307.
use Rattle.std.specs.Prelude.{Bool, ℕ, ◌+◌, ◌*◌, ◌^◌, ◌≤◌}
use Rattle.bounds.specs.Widths.{IsLimit}
use Rattle.nearest.specs.Nearest.{HasValue}

-- every whole number from -l to l has a word
unfoldable pub EveryWholeNumberUpToTheLimitHasAWord : Type 0
EveryWholeNumberUpToTheLimitHasAWord = (n l : ℕ) → 2 ≤ n → n ≤ 64 → IsLimit n l → (i : ℕ) → i ≤ l → (negative : Bool) → (w : ℕ) × HasValue n negative (i * 2 ^ 307) w

-- l + 1 has none, and -(l + 1) neither
unfoldable pub TheLimitPlusOneHasNoWord : Type 0
TheLimitPlusOneHasNoWord = (n l : ℕ) → 2 ≤ n → n ≤ 64 → IsLimit n l → (negative : Bool) (w : ℕ) → HasValue n negative ((l + 1) * 2 ^ 307) w → ⊥
