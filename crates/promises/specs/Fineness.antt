-- How fine a reading is (paper 02, Wish 3): the word's own fraction bits, and what a move to a wider width makes of them.
use Rattle.std.specs.Prelude.{◌≡◌, Bool, ◌⊎◌, ℕ, ◌+◌, ◌≤◌, ◌<◌, ℤ, pos, Ok}
use Rattle.bounds.specs.Refusals.{Answer, IsWord}
use Rattle.word.specs.declared.reading.Kind.{Kind}
use Rattle.word.specs.declared.reading.Reading.{Reading}
use Rattle.word.specs.Takum.{real, NaR, r, N, padded, takum, own_fraction_bits}
use Rattle.word.specs.Reads.{Reads}
use Rattle.round.specs.declared.value.Rule.{Rule}
use Rattle.write.specs.Writes.{Moves}

-- ---- demand 2 covers the count
-- the count of a reading is the definition's, at every width and word
unfoldable pub AReadingHasTheWordsOwnFractionBits : Type 0
AReadingHasTheWordsOwnFractionBits = (n w : ℕ) (a : Answer Reading) → IsWord n w → Reads n w a → (r : Reading) × (a ≡ Ok r) × (r.own ≡ own_fraction_bits n w)

-- it is 0 for zero and NaR
unfoldable pub ZeroAndNaRHaveNone : Type 0
ZeroAndNaRHaveNone = (n w : ℕ) (a : Reading) → IsWord n w → Reads n w (Ok a) → (takum n w ≡ real (pos 0)) ⊎ (takum n w ≡ NaR) → a.own ≡ 0

-- the reading is a number with the fraction bit count p
pub record IsNumberOf (p : ℕ) (a : Reading) : Type 0 where
  pub negative : Bool
  pub h : ℤ
  pub m : ℕ
  pub is : a.kind ≡ Kind.Number negative h m p

-- the bits before the fraction of a number: sign, direction, three regime bits and the characteristic's r
unfoldable pub bits_before : ℕ → ℕ → ℕ
bits_before n w = r (N n) (padded n w) + 5

-- the fraction bits of a number are what these leave of the word, and none where they leave none
unfoldable pub ANumberHasWhatIsLeft : Type 0
ANumberHasWhatIsLeft = (n w p : ℕ) (a : Reading) → IsWord n w → Reads n w (Ok a) → IsNumberOf p a → (bits_before n w ≤ n → a.own + bits_before n w ≡ n) × (n ≤ bits_before n w → a.own ≡ 0)

-- from width 12 up the count is p, and it never exceeds p
unfoldable pub FromWidth12TheCountIsP : Type 0
FromWidth12TheCountIsP = (n w p : ℕ) (a : Reading) → IsWord n w → Reads n w (Ok a) → IsNumberOf p a → 12 ≤ n → a.own ≡ p

unfoldable pub TheCountNeverExceedsP : Type 0
TheCountNeverExceedsP = (n w p : ℕ) (a : Reading) → IsWord n w → Reads n w (Ok a) → IsNumberOf p a → a.own ≤ p

-- ---- wider and narrower
-- The value stays, and the count needn't: zeros that a move appends are bits of the wider word, and nothing more is known by them.

-- The word w of n bits and the word w' of k bits more, each with its reading: w' is what w is moved to, by either rule, which is never refused
-- (`WiderNeverChangesNorRefuses`), or w is what w' is moved to strictly.
pub record Widened (n k w w' : ℕ) (a a' : Reading) : Type 0 where
  pub room : n + k ≤ 64
  pub moved : (IsWord n w × (rule : Rule) × Moves n (n + k) rule w (Ok w')) ⊎ Moves (n + k) n Rule.Strict w' (Ok w)
  pub narrow : Reads n w (Ok a)
  pub wide : Reads (n + k) w' (Ok a')

-- the value stays, the bits before the fraction stay, and the wider word's count is not smaller, nor greater by more than what was appended
unfoldable pub AWiderWordSaysTheSame : Type 0
AWiderWordSaysTheSame = (n k w w' : ℕ) (a a' : Reading) → Widened n k w w' a a' → (takum (n + k) w' ≡ takum n w) × (bits_before (n + k) w' ≡ bits_before n w) × (a.own ≤ a'.own) × (a'.own ≤ a.own + k)

-- of a number it is greater by exactly what was appended where it was not cut at 0,
unfoldable pub AWiderNumberHasWhatWasAppended : Type 0
AWiderNumberHasWhatWasAppended = (n k w w' p : ℕ) (a a' : Reading) → Widened n k w w' a a' → IsNumberOf p a → bits_before n w ≤ n → a'.own ≡ a.own + k

-- and where it was cut, by what is left of them when the bits before the fraction are made up, which is less
unfoldable pub ANumberThatWasCutHasLess : Type 0
ANumberThatWasCutHasLess = (n k w w' p : ℕ) (a a' : Reading) → Widened n k w w' a a' → IsNumberOf p a → n < bits_before n w
    → (a.own ≡ 0) × (bits_before n w ≤ n + k → a'.own + bits_before n w ≡ n + k) × (n + k ≤ bits_before n w → a'.own ≡ 0) × (0 < k → a'.own < k)
