-- Whole numbers by nearest (paper 02, Wish 2), as statements about what the public contracts allow. A value is z * 2^-307.
use Rattle.std.specs.Prelude.{◌≡◌, List, [], ◌∷◌, ◌⊎◌, ℕ, ◌*◌, ◌%◌, ◌^◌, ◌≤◌, ◌<◌, ℤ, pos, negsuc, neg_ℤ, nat_abs, ◌+ℤ◌, length, Ok, Err}
use Rattle.bounds.specs.Refusals.{IsWord, passed, Answer}
use Rattle.bounds.specs.Widths.{GivesLimit}
use Rattle.word.specs.Takum.{real, takum}
use Rattle.word.specs.Orders.{negated}
use Rattle.nearest.specs.Nearest.{distance}
use Rattle.whole.specs.declared.taking.Taking.{Taking}
use Rattle.whole.specs.Wholes.{off_by, IsNearestWhole, over_test, TakesWhole}
use Rattle.promises.specs.Demands.{RefusedAs}
use Rattle.promises.specs.Numbers.{IsWhole}
use Rattle.promises.specs.Refusals.{OutsideSigned64}

-- ---- the nearest, ties to even
-- the number that goes out is the nearest to the word's value, by either rule
unfoldable pub TheWholeNumberOutIsTheNearest : Type 0
TheWholeNumberOutIsTheNearest = (n w : ℕ) (rule : Taking) (x : ℤ) → TakesWhole n rule w (Ok x) → (z : ℤ) × (takum n w ≡ real z) × IsNearestWhole z x

-- every value has such a number, and only one
unfoldable pub EveryValueHasANearestWholeNumber : Type 0
EveryValueHasANearestWholeNumber = (z : ℤ) → (x : ℤ) × IsNearestWhole z x

unfoldable pub OneWholeNumberIsTheNearest : Type 0
OneWholeNumberIsTheNearest = (z x y : ℤ) → IsNearestWhole z x → IsNearestWhole z y → x ≡ y

-- a whole value inside signed 64 bits goes out as itself, by either rule
unfoldable pub AWholeValueGoesOutAsItself : Type 0
AWholeValueGoesOutAsItself = (n w : ℕ) (x : ℤ) (rule : Taking) (a : Answer ℤ) → IsWhole n x w → over_test x ≡ passed → TakesWhole n rule w a → a ≡ Ok x

-- and strictly, what goes out is the value itself
unfoldable pub StrictlyTheNumberOutIsTheValue : Type 0
StrictlyTheNumberOutIsTheValue = (n w : ℕ) (x : ℤ) → TakesWhole n Taking.Strict w (Ok x) → IsWhole n x w

-- ---- negation (that the order of words is never reversed is `TakingWholeNumbersKeepsOrder`, Numbers.antt)
-- the negated word goes out as the negated number
unfoldable pub TheNegatedWordGoesOutAsTheNegatedNumber : Type 0
TheNegatedWordGoesOutAsTheNegatedNumber = (n w : ℕ) (rule : Taking) (x : ℤ) (a : Answer ℤ) → nat_abs x < 2 ^ 63 → TakesWhole n rule w (Ok x) → TakesWhole n rule (negated n w) a → a ≡ Ok (neg_ℤ x)

-- but that of -2^63 is 2^63, which is OVER
unfoldable pub TheNegatedWordOfTheLeastNumberIsOver : Type 0
TheNegatedWordOfTheLeastNumberIsOver = (n w : ℕ) (rule : Taking) (a : Answer ℤ) → TakesWhole n rule w (Ok (neg_ℤ (pos (2 ^ 63)))) → TakesWhole n rule (negated n w) a → RefusedAs (Answer ℤ) Err 5 a

-- ---- the line in the ledger
-- no word whose value is past the exact-count limit of its width goes out as an odd whole number, by either rule
unfoldable pub NoWordPastTheLimitGoesOutOdd : Type 0
NoWordPastTheLimitGoesOutOdd = (n l w : ℕ) (rule : Taking) (z x : ℤ) → GivesLimit n (Ok l) → takum n w ≡ real z → l * 2 ^ 307 < nat_abs z → TakesWhole n rule w (Ok x) → nat_abs x % 2 ≡ 0

-- nor does any go out as an odd whole number that is past it
unfoldable pub NoOddNumberPastTheLimitGoesOut : Type 0
NoOddNumberPastTheLimitGoesOut = (n l w : ℕ) (rule : Taking) (x : ℤ) → GivesLimit n (Ok l) → l < nat_abs x → TakesWhole n rule w (Ok x) → nat_abs x % 2 ≡ 0

-- ---- what the trade can quote
-- the number out differs from the value by at most a half
unfoldable pub TheWholeNumberOutIsOffByAtMostAHalf : Type 0
TheWholeNumberOutIsOffByAtMostAHalf = (n w : ℕ) (rule : Taking) (z x : ℤ) → takum n w ≡ real z → TakesWhole n rule w (Ok x) → 2 * off_by z x ≤ 2 ^ 307

-- a rack: the words of its joints, each of a width of its own, their values, and the numbers that went out
pub data Rack (rule : Taking) : List ℕ → List ℤ → List ℤ → Type 0 where
  empty : Rack rule [] [] []
  joint : {words : List ℕ} {values numbers : List ℤ} (n w : ℕ) (z x : ℤ) → takum n w ≡ real z → TakesWhole n rule w (Ok x) → Rack rule words values numbers → Rack rule (w ∷ words) (z ∷ values) (x ∷ numbers)

unfoldable pub total : List ℤ → ℤ
total [] = pos 0
total (z ∷ zs) = z +ℤ total zs

-- the sum of the numbers of k joints differs from the sum of their values by at most k halves
unfoldable pub ARackIsOffByAtMostAHalfForEachJoint : Type 0
ARackIsOffByAtMostAHalfForEachJoint = (rule : Taking) (words : List ℕ) (values numbers : List ℤ) → Rack rule words values numbers → 2 * off_by (total values) (total numbers) ≤ length words * 2 ^ 307

-- ---- OVER is judged on the rounded number, and no rounding decides it
-- the value is below -2^63, or from 2^63 up
unfoldable pub ValueOutsideSigned64 : ℤ → Type 0
ValueOutsideSigned64 (pos a) = 2 ^ 63 * 2 ^ 307 ≤ a
ValueOutsideSigned64 (negsuc a) = 2 ^ 63 * 2 ^ 307 ≤ a

-- Rounding could decide it, where one of the value and the number is outside and the other isn't, only for a value within a half of 2^63 or -2^63.
unfoldable pub RoundingCouldDecideOverOnlyBesideTheEnds : Type 0
RoundingCouldDecideOverOnlyBesideTheEnds = (z x : ℤ) → IsNearestWhole z x → (OutsideSigned64 x × (ValueOutsideSigned64 z → ⊥)) ⊎ (ValueOutsideSigned64 z × (OutsideSigned64 x → ⊥)) → 2 * distance (nat_abs z) (2 ^ 63 * 2 ^ 307) ≤ 2 ^ 307

-- No word has such a value but 2^63 and -2^63 themselves: from 2^55 on the value of every word is a whole number.
unfoldable pub EveryValueOfAtLeast2To55IsWhole : Type 0
EveryValueOfAtLeast2To55IsWhole = (n w : ℕ) (z : ℤ) → IsWord n w → takum n w ≡ real z → 2 ^ 55 * 2 ^ 307 ≤ nat_abs z → (x : ℤ) × IsWhole n x w

-- So the whole number nearest to a word's value is outside exactly where the value is.
unfoldable pub TheWholeNumberIsOverExactlyWhereTheValueIs : Type 0
TheWholeNumberIsOverExactlyWhereTheValueIs = (n w : ℕ) (z x : ℤ) → IsWord n w → takum n w ≡ real z → IsNearestWhole z x → (OutsideSigned64 x → ValueOutsideSigned64 z) × (ValueOutsideSigned64 z → OutsideSigned64 x)
