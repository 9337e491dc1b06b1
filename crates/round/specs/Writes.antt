-- What writing by a rule means (paper 01, "Writing a value"), as properties of the word that is given; and what the hub answers.
use Rattle.std.specs.Prelude.{Ok, Err, ◌≡◌, Bool, ℕ, ◌+◌, ◌*◌, ◌^◌, ◌<◌, ℤ, pos, ◌+ℤ◌, ◌-ℤ◌}
use Rattle.bounds.specs.declared.refusal.Refusal.{Refusal}
use Rattle.sizes.specs.declared.size.Size.{Size}
use Rattle.word.specs.Reads.{num, den}
use Rattle.bounds.specs.Refusals.{Answer, width_test, Decided}
use Rattle.nearest.specs.Nearest.{HasValue, Nearest}
use Rattle.round.specs.declared.value.Rule.{Rule}
use Rattle.round.specs.declared.value.LongValue.{LongValue}

-- Rounded: zero gives the zero word, every other value the nearest one.
pub data IsRounded (n : ℕ) (negative : Bool) (a b w : ℕ) : Type 0 where
  zero : a ≡ 0 → w ≡ 0 → IsRounded n negative a b w
  other : 0 < a → Nearest n negative a b w → IsRounded n negative a b w

-- Strict: the word has exactly the value.
pub record IsExact (n : ℕ) (negative : Bool) (a b w : ℕ) : Type 0 where
  pub z : ℕ
  pub is : HasValue n negative z w
  pub same : z * b ≡ a

-- what the rule gives for a value: a word, or INEXACT exactly where no word has the value
unfoldable pub IsWritten : ℕ → Rule → Bool → ℕ → ℕ → Answer ℕ → Type 0
IsWritten n Rule.Rounded negative a b (Ok w) = IsRounded n negative a b w
IsWritten n Rule.Rounded negative a b (Err q) = ⊥
IsWritten n Rule.Strict negative a b (Ok w) = IsExact n negative a b w
IsWritten n Rule.Strict negative a b (Err q) = (q ≡ Refusal.Inexact) × ((w : ℕ) → IsExact n negative a b w → ⊥)

-- ---- what the calls answer
-- WIDTH, then INEXACT; m * 2^k is offered as a fraction counted in 2^-307
unfoldable pub WritesShort : ℕ → Rule → Bool → ℕ → ℤ → Answer ℕ → Type 0
WritesShort n rule negative m k r = Decided (width_test n) (λ q. r ≡ Err q) (IsWritten n rule negative (m * num (k +ℤ pos 307)) (den (k +ℤ pos 307)) r)

-- the same of a size as a word is read in
unfoldable pub WritesSize : ℕ → Rule → Size → Answer ℕ → Type 0
WritesSize n rule s r = WritesShort n rule s.negative s.m (s.h -ℤ pos 63) r

-- the same of two numbers in a row, which are one significand of 128 bits
unfoldable pub WritesLong : ℕ → Rule → LongValue → Answer ℕ → Type 0
WritesLong n rule v r = WritesShort n rule v.negative (v.high * 2 ^ 64 + v.low) v.k r
