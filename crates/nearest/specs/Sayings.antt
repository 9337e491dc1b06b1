-- Which way it went (paper 02, Wish 4), from the values alone: what is said of the word w of n bits that is given for a value. As in Nearest.antt the value
-- offered has a sign and the size a / b, counted in 2^-307, and both sides of a comparison are multiplied by b.
use Rattle.bounds.specs.Refusals.{Answer}
use Rattle.std.specs.Prelude.{◌≡◌, Bool, false, ℕ, ◌+◌, ◌*◌, ◌%◌, ◌^◌, ◌<◌, ℤ, pos, negsuc, ◌*ℤ◌, ◌-ℤ◌}
use Rattle.bounds.specs.declared.answer.Written.{Written}
use Rattle.bounds.specs.declared.saying.Saying.{Saying}
use Rattle.bounds.specs.declared.saying.Saying.TheVariants.{Exact, Below, Above, PastTheEnd}
use Rattle.bounds.specs.Sayings.{AndSays}
use Rattle.bounds.specs.Widths.{largest, smallest}
use Rattle.word.specs.Takum.{real, takum}
use Rattle.word.specs.Orders.{order}
use Rattle.word.specs.Reads.{signed_size}
use Rattle.nearest.specs.declared.size.Rest.{Rest}
use Rattle.nearest.specs.Nearest.{HasValue}
use Rattle.nearest.specs.Offers.{IsOffered, IsRest, FindsNearest}

-- how the word's value compares with the value offered, both with their signs: -1 where it is below, 0 where it is the same, 1 where it is above
pub record Against (n : ℕ) (negative : Bool) (a b w : ℕ) (way : ℤ) : Type 0 where
  pub x : ℤ
  pub means : takum n w ≡ real x
  pub is : order (x *ℤ pos b) (signed_size negative a) ≡ way

-- the size is beyond that of the largest word, or isn't zero and is short of that of the smallest
pub data IsPastTheEnd (n a b : ℕ) : Type 0 where
  beyond : (z : ℕ) → HasValue n false z (largest n) → z * b < a → IsPastTheEnd n a b
  short : (z : ℕ) → HasValue n false z (smallest n) → 0 < a → a < z * b → IsPastTheEnd n a b

-- what is said; past the end goes before below and above
unfoldable pub Says : ℕ → Bool → ℕ → ℕ → ℕ → Saying → Type 0
Says n negative a b w Exact = Against n negative a b w (pos 0)
Says n negative a b w Below = (IsPastTheEnd n a b → ⊥) × Against n negative a b w (negsuc 0)
Says n negative a b w Above = (IsPastTheEnd n a b → ⊥) × Against n negative a b w (pos 1)
Says n negative a b w PastTheEnd = IsPastTheEnd n a b

-- ---- what `nearest` says
-- the same of every exact size that is so offered, with the sign
unfoldable pub SaysOffered : ℕ → Bool → ℤ → ℕ → Rest → ℕ → Saying → Type 0
SaysOffered n negative h m rest w s = (a b : ℕ) → 0 < b → IsOffered m rest (h -ℤ pos 63) a b → Says n negative a b w s

-- what lies below m being counted in 2^-64 of its last unit, and the top bit of m being taken as set
unfoldable pub SaysFound : ℕ → Bool → ℤ → ℕ → ℕ → ℕ → Saying → Type 0
SaysFound n negative h m below w s = (rest : Rest) → IsRest below rest → SaysOffered n negative h (2 ^ 63 + m % 2 ^ 63) rest w s

-- ---- what the call answers, and says
unfoldable pub FindsAndSays : ℕ → Bool → ℤ → ℕ → ℕ → Answer Written → Type 0
FindsAndSays n negative h m below r = AndSays (FindsNearest n negative h m below) (SaysFound n negative h m below) r
