-- The shortest word for a count (paper 02, Wish 9), as statements about what the public contracts allow.
use Rattle.bounds.specs.Refusals.{passed, Answer}
use Rattle.std.specs.Prelude.{◌≡◌, ◌⊎◌, ℕ, ◌+◌, ◌≤◌, ◌<◌, ℤ, pos, neg_ℤ, nat_abs, Ok, Err}
use Rattle.bounds.specs.declared.width.Width.{Width}
use Rattle.bounds.specs.Widths.{GivesLimit}
use Rattle.round.specs.declared.value.Rule.{Rule}
use Rattle.whole.specs.Wholes.{over_test, WritesWhole}
use Rattle.whole.specs.Shortest.{GivesShortest}
use Rattle.whole.specs.Lengths.{Letters, printed_length, corrected_length}
use Rattle.promises.specs.Demands.{RefusedAs}
use Rattle.promises.specs.Numbers.{IsWhole}

-- the answer is a width of n bits
abbrev pub bits : ℕ → Answer Width
bits n = Ok (record { bits = n })

-- ---- the least width
-- the answered width has a word with that value
unfoldable pub TheAnsweredWidthHasAWord : Type 0
TheAnsweredWidthHasAWord = (x : ℤ) (n : ℕ) → GivesShortest x (bits n) → (2 ≤ n) × (n ≤ 64) × ((w : ℕ) × IsWhole n x w)

-- no smaller width from 2 on has one
unfoldable pub NoSmallerWidthHasAWord : Type 0
NoSmallerWidthHasAWord = (x : ℤ) (n : ℕ) → GivesShortest x (bits n) → (k w : ℕ) → 2 ≤ k → k < n → IsWhole k x w → ⊥

-- every greater width up to 64 has one too, so the answer is a threshold
unfoldable pub EveryGreaterWidthHasAWord : Type 0
EveryGreaterWidthHasAWord = (x : ℤ) (n : ℕ) → GivesShortest x (bits n) → (k : ℕ) → n ≤ k → k ≤ 64 → (w : ℕ) × IsWhole k x w

-- a number is refused, as INEXACT, exactly where no width up to 64 has one
unfoldable pub ANumberIsRefusedExactlyWhereNoWidthHasAWord : Type 0
ANumberIsRefusedExactlyWhereNoWidthHasAWord = (x : ℤ) (a : Answer Width) → GivesShortest x a
    → ((n w : ℕ) × (a ≡ bits n) × (2 ≤ n) × (n ≤ 64) × IsWhole n x w) ⊎ (RefusedAs (Answer Width) Err 4 a × ((n w : ℕ) → 2 ≤ n → n ≤ 64 → IsWhole n x w → ⊥))

-- so strict writing of the number gives a word from that width on, and refuses it below
unfoldable pub StrictWritingBeginsAtTheAnsweredWidth : Type 0
StrictWritingBeginsAtTheAnsweredWidth = (x : ℤ) (n k : ℕ) (r : Answer ℕ) → GivesShortest x (bits n) → 2 ≤ k → k ≤ 64 → WritesWhole k Rule.Strict x r
    → (n ≤ k → (w : ℕ) × (r ≡ Ok w)) × (k < n → RefusedAs (Answer ℕ) Err 4 r)

unfoldable pub ZeroNeeds2 : Type 0
ZeroNeeds2 = (a : Answer Width) → GivesShortest (pos 0) a → a ≡ bits 2

-- the sign takes no more and no fewer bits
unfoldable pub TheNegatedNumberNeedsAsMuch : Type 0
TheNegatedNumberNeedsAsMuch = (x : ℤ) (a b : Answer Width) → GivesShortest x a → GivesShortest (neg_ℤ x) b → a ≡ b

-- ---- document 004, Proposition 4 (crates/whole/specs/Lengths.antt has it in its letters)
-- every number inside signed 64 bits but 0 has its letters v and w
unfoldable pub EveryNumberHasItsLetters : Type 0
EveryNumberHasItsLetters = (x : ℤ) → over_test x ≡ passed → (x ≡ pos 0 → ⊥) → Letters (nat_abs x)

-- The corrected length is the answer, and where it is above 64 the number is refused, as INEXACT.
unfoldable pub TheAnswerIsTheCorrectedLength : Type 0
TheAnswerIsTheCorrectedLength = (x : ℤ) (a : Answer Width) (t : Letters (nat_abs x)) → over_test x ≡ passed → GivesShortest x a
    → (l : ℕ) × (pos l ≡ corrected_length t) × (((l ≤ 64) × (a ≡ bits l)) ⊎ ((64 < l) × RefusedAs (Answer Width) Err 4 a))

-- As printed the proposition gives 9 for the number 9; corrected it gives 10, which the number needs (`figures`).
unfoldable pub AsPrintedTheLengthOf9Is9 : Type 0
AsPrintedTheLengthOf9Is9 = (t : Letters 9) → (printed_length t ≡ pos 9) × (corrected_length t ≡ pos 10)

-- ---- the exact-count limit
-- a number that is at most the limit of n in size needs at most n bits
unfoldable pub UpToTheLimitANumberNeedsNoMore : Type 0
UpToTheLimitANumberNeedsNoMore = (n l : ℕ) (x : ℤ) (a : Answer Width) → GivesLimit n (Ok l) → nat_abs x ≤ l → GivesShortest x a → (k : ℕ) × (a ≡ bits k) × (k ≤ n)

-- the limit plus one, of either sign, needs more, or has no word up to width 64
unfoldable pub TheLimitPlusOneNeedsMore : Type 0
TheLimitPlusOneNeedsMore = (n l : ℕ) (x : ℤ) (a : Answer Width) → GivesLimit n (Ok l) → nat_abs x ≡ l + 1 → GivesShortest x a → ((k : ℕ) × (a ≡ bits k) × (n < k)) ⊎ RefusedAs (Answer Width) Err 4 a
