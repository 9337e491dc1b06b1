-- The normal size that is offered to `nearest`, (m + rest) * 2^(h - 63), and the word that it answers.
use Rattle.std.specs.Prelude.{Ok, Err}
use Rattle.bounds.specs.Refusals.{Answer}
use Rattle.std.specs.Prelude.{◌≡◌, Bool, false, ℕ, ◌+◌, ◌*◌, ◌%◌, ◌^◌, ◌<◌, ℤ, pos, ◌+ℤ◌, ◌-ℤ◌}
use Rattle.bounds.specs.Refusals.{width_test, Decided}
use Rattle.word.specs.Reads.{num, den}
use Rattle.nearest.specs.declared.size.Rest.{Rest}
use Rattle.nearest.specs.Nearest.{Nearest}

-- a is (m + rest) * unit
unfoldable pub Amounts : ℕ → Rest → ℕ → ℕ → Type 0
Amounts m Rest.Nothing a unit = a ≡ m * unit
Amounts m Rest.UnderHalf a unit = (m * unit < a) × (2 * a < (2 * m + 1) * unit)
Amounts m Rest.Half a unit = 2 * a ≡ (2 * m + 1) * unit
Amounts m Rest.OverHalf a unit = ((2 * m + 1) * unit < 2 * a) × (a < (m + 1) * unit)

-- the exact size a / b, counted in 2^-307, is (m + rest) * 2^k; both are multiplied by the denominators b and that of 2^(k + 307)
unfoldable pub IsOffered : ℕ → Rest → ℤ → ℕ → ℕ → Type 0
IsOffered m rest k a b = Amounts m rest (a * den (k +ℤ pos 307)) (num (k +ℤ pos 307) * b)

-- the positive word that is nearest to every exact size that is so offered
unfoldable pub IsNearest : ℕ → ℤ → ℕ → Rest → ℕ → Type 0
IsNearest n h m rest w = (a b : ℕ) → 0 < b → IsOffered m rest (h -ℤ pos 63) a b → Nearest n false a b w

-- what `below`, counted in 2^-64 of a unit, is of the unit
unfoldable pub IsRest : ℕ → Rest → Type 0
IsRest below Rest.Nothing = below ≡ 0
IsRest below Rest.UnderHalf = (0 < below) × (below < 2 ^ 63)
IsRest below Rest.Half = below ≡ 2 ^ 63
IsRest below Rest.OverHalf = 2 ^ 63 < below

-- the word of the sign that is nearest to every exact size that is so offered
unfoldable pub IsSignedNearest : ℕ → Bool → ℤ → ℕ → Rest → ℕ → Type 0
IsSignedNearest n negative h m rest w = (a b : ℕ) → 0 < b → IsOffered m rest (h -ℤ pos 63) a b → Nearest n negative a b w

-- WIDTH; else the word of the sign that is nearest to the size of m and what lies below it, the top bit of m being taken as set
unfoldable pub FindsNearest : ℕ → Bool → ℤ → ℕ → ℕ → Answer ℕ → Type 0
FindsNearest n negative h m below r = Decided (width_test n) (λ q. r ≡ Err q) ((w : ℕ) × (r ≡ Ok w) × (rest : Rest) × IsRest below rest × IsSignedNearest n negative h (2 ^ 63 + m % 2 ^ 63) rest w)
