-- Serves private functions only: what the parts of taking out answer, from the whole number nearest to a size to what the rule makes of it; and the length
-- of a word with its two reductions.
use Rattle.std.specs.Prelude.{Ok, Err, ◌≡◌, Bool, cond, ◌&&◌, ℕ, ◌+◌, ◌-◌, ◌*◌, ◌%◌, ◌^◌, ◌≤◌, ℤ, pos, ◌-ℤ◌}
use Rattle.bounds.specs.declared.refusal.Refusal.{Refusal}
use Rattle.bounds.specs.Refusals.{Answer}
use Rattle.word.specs.Takum.{Takum, real}
use Rattle.word.specs.Reads.{IsSize, signed_size}
use Rattle.whole.specs.declared.taking.Taking.{Taking}
use Rattle.whole.specs.Wholes.{IsTakenWhole}
use Rattle.whole.specs.Lengths.{IsMax, UpTo, when, power_of_two, bits_are_power_of_two, Letters, corrected_length}

-- i is the whole number nearest to the size a, u being one: it is at most a half off, and where it is a half off, even
pub record NearestSize (u a i : ℕ) : Type 0 where
  pub up_to : 2 * a ≤ 2 * (i * u) + u
  pub from : 2 * (i * u) ≤ 2 * a + u
  pub tie_above : 2 * a ≡ 2 * (i * u) + u → i % 2 ≡ 0
  pub tie_below : 2 * (i * u) ≡ 2 * a + u → i % 2 ≡ 0

-- what the rule answers for the whole number x nearest to a value that is exactly x, or isn't
unfoldable pub by_rule : Taking → Bool → ℤ → Answer ℤ
by_rule Taking.Nearest exactly x = Ok x
by_rule Taking.Strict exactly x = cond exactly (Ok x) (Err Refusal.Inexact)

-- what is taken out of every word whose value has this sign and the size m * 2^(h - 63)
unfoldable pub TakesSize : Taking → Bool → ℤ → ℕ → Answer ℤ → Type 0
TakesSize rule negative h m a = (t : Takum) (v : ℕ) → t ≡ real (signed_size negative v) → IsSize m (h -ℤ pos 63) v → IsTakenWhole rule t a

-- the same, whichever the rule
unfoldable pub TakesByEitherRule : Bool → ℤ → ℕ → Answer ℤ → Type 0
TakesByEitherRule negative h m a = (rule : Taking) → TakesSize rule negative h m a

-- from 2^55 on the size m * 2^(h - 63) is a whole number, as that of every word is; it is counted in 2^-307, as in `IsSize`
unfoldable pub WholeWhereLarge : ℤ → ℕ → Type 0
WholeWhereLarge h m = (v : ℕ) → IsSize m (h -ℤ pos 63) v → 2 ^ 55 * 2 ^ 307 ≤ v → (j : ℕ) × (v ≡ j * 2 ^ 307)

-- what a reduction of (11) takes off, by the letters v, w and floor(log2 v)
unfoldable pub IsFirstReduction : ℕ → ℕ → ℕ → ℕ → Type 0
IsFirstReduction v w log r = (first : ℕ) × IsMax (UpTo log) (v - 2 ^ log) first × (r ≡ when (power_of_two v w) first)

unfoldable pub IsLastReduction : ℕ → ℕ → ℕ → ℕ → Type 0
IsLastReduction v w log r = (last : ℕ) × IsMax (UpTo 3) log last × (r ≡ when (power_of_two v w && bits_are_power_of_two v log) last)

-- l is the corrected length of m
unfoldable pub IsLength : ℕ → ℕ → Type 0
IsLength m l = (t : Letters m) × (pos l ≡ corrected_length t)
