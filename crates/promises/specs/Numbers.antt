-- What the letter demands of whole numbers, and what is promised of binary64, as statements about what the public contracts allow.
use Rattle.std.specs.Prelude.{◌≡◌, Bool, false, ℕ, ◌+◌, ◌-◌, ◌*◌, ◌%◌, ◌^◌, ◌≤◌, ◌<◌, T, ℤ, pos, negsuc, nat_abs, Float, Ok, Err}
use Rattle.std.specs.Float.{nan, inf, fin}
use Rattle.std.specs.Float.Ieee.{neg, lt, le}
use Rattle.std.specs.Float.Ieee.Exact as Ieee
use Rattle.word.specs.Takum.{real, takum}
use Rattle.bounds.specs.Refusals.{IsWord, passed, Answer}
use Rattle.bounds.specs.Widths.{nar_word, Within, GivesLimit}
use Rattle.word.specs.Orders.{signed, order, negated}
use Rattle.round.specs.declared.value.Rule.{Rule}
use Rattle.nearest.specs.Nearest.{HasValue}
use Rattle.write.specs.Writes.{is_negative}
use Rattle.whole.specs.declared.taking.Taking.{Taking}
use Rattle.whole.specs.Wholes.{over_test, WritesWhole, TakesWhole}
use Rattle.binary64.specs.declared.taking.Binary64.{Binary64}
use Rattle.binary64.specs.Takes.{TakesBinary64}
use Rattle.binary64.specs.Writes.{WritesBinary64}
use Rattle.promises.specs.Demands.{RefusedAs}
use Rattle.promises.specs.Writing.{GivenOrInexact}

-- the word w of n bits has the whole number x as its value
unfoldable pub IsWhole : ℕ → ℤ → ℕ → Type 0
IsWhole n x w = HasValue n (is_negative x) (nat_abs x * 2 ^ 307) w

-- ---- demand 3, the last sentence, with the limit that `Width::limit` answers
-- every whole number from minus the limit to it has a word, and strict writing gives it
unfoldable pub EveryWholeNumberUpToTheLimitIsWritten : Type 0
EveryWholeNumberUpToTheLimitIsWritten = (n l : ℕ) (x : ℤ) (r : Answer ℕ) → GivesLimit n (Ok l) → nat_abs x ≤ l → WritesWhole n Rule.Strict x r → (w : ℕ) × (r ≡ Ok w) × IsWhole n x w

-- the limit plus one, of either sign, has none, and strict writing refuses it
unfoldable pub TheLimitPlusOneIsRefused : Type 0
TheLimitPlusOneIsRefused = (n l : ℕ) (x : ℤ) (r : Answer ℕ) → GivesLimit n (Ok l) → nat_abs x ≡ l + 1 → WritesWhole n Rule.Strict x r → RefusedAs (Answer ℕ) Err 4 r × ((w : ℕ) → IsWhole n x w → ⊥)

-- and any whole number is refused as INEXACT exactly when it has no word
unfoldable pub AWholeNumberIsRefusedExactlyWhereItHasNoWord : Type 0
AWholeNumberIsRefusedExactlyWhereItHasNoWord = (n : ℕ) (x : ℤ) (r : Answer ℕ) → 2 ≤ n → n ≤ 64 → WritesWhole n Rule.Strict x r → GivenOrInexact (IsWhole n x) r

-- ---- document 004, Proposition 5, which is stated from width 5 up
-- its inequality, v * 2^v < 2^(n - 3), holds of the same numbers v from 1 on as paper 01's rule, v + floor(log2 v) <= n - 4
unfoldable pub PropositionFiveSaysTheSame : Type 0
PropositionFiveSaysTheSame = (n v : ℕ) → 5 ≤ n → 1 ≤ v → (Within n v → v * 2 ^ v < 2 ^ (n - 3)) × (v * 2 ^ v < 2 ^ (n - 3) → Within n v)

-- so the limit is 2^v with the greatest v of that inequality
unfoldable pub TheLimitIsThatOfPropositionFive : Type 0
TheLimitIsThatOfPropositionFive = (n l : ℕ) → 5 ≤ n → GivesLimit n (Ok l) → (v : ℕ) × (l ≡ 2 ^ v) × (v * 2 ^ v < 2 ^ (n - 3)) × ((u : ℕ) → u * 2 ^ u < 2 ^ (n - 3) → u ≤ v)

-- ---- the line in the ledger
-- past the limit an odd whole number, of either sign, has no word, and strict writing refuses it
unfoldable pub NoOddNumberPastTheLimitIsWritten : Type 0
NoOddNumberPastTheLimitIsWritten = (n l : ℕ) (x : ℤ) (r : Answer ℕ) → GivesLimit n (Ok l) → nat_abs x % 2 ≡ 1 → l < nat_abs x → WritesWhole n Rule.Strict x r → RefusedAs (Answer ℕ) Err 4 r × ((w : ℕ) → IsWhole n x w → ⊥)

-- so a whole number that a word has there is even
unfoldable pub NoOddNumberPastTheLimitComesBack : Type 0
NoOddNumberPastTheLimitComesBack = (n l w : ℕ) (x : ℤ) → GivesLimit n (Ok l) → l < nat_abs x → TakesWhole n Taking.Strict w (Ok x) → nat_abs x % 2 ≡ 0

-- From width 5 up, a whole number that is at least the limit, written rounded, is an even whole number, and at least the limit too.
unfoldable pub FromTheLimitOnRoundedIsEven : Type 0
FromTheLimitOnRoundedIsEven = (n l w : ℕ) (x : ℤ) → 5 ≤ n → GivesLimit n (Ok l) → l ≤ nat_abs x → WritesWhole n Rule.Rounded x (Ok w) → (y : ℤ) × IsWhole n y w × (nat_abs y % 2 ≡ 0) × (l ≤ nat_abs y)

-- So an odd one past the limit comes back even, by either way of taking, and not as itself.
unfoldable pub NoOddNumberPastTheLimitComesBackOdd : Type 0
NoOddNumberPastTheLimitComesBackOdd = (n l w : ℕ) (x y : ℤ) (taking : Taking) → 5 ≤ n → GivesLimit n (Ok l) → nat_abs x % 2 ≡ 1 → l < nat_abs x → WritesWhole n Rule.Rounded x (Ok w) → TakesWhole n taking w (Ok y)
    → (nat_abs y % 2 ≡ 0) × (y ≡ x → ⊥)

-- At widths 2 to 4 this is false: the limit is 1, and 3 is written rounded and comes back as 1.
unfoldable pub UpTo4ThreeComesBackAsOne : Type 0
UpTo4ThreeComesBackAsOne = (n : ℕ) → 2 ≤ n → n ≤ 4
    → ((a : Answer ℕ) → GivesLimit n a → a ≡ Ok 1) × ((r : Answer ℕ) → WritesWhole n Rule.Rounded (pos 3) r → (w : ℕ) × (r ≡ Ok w) × ((taking : Taking) (a : Answer ℤ) → TakesWhole n taking w a → a ≡ Ok (pos 1)))

-- at width 16 the limit is 512
unfoldable pub At16TheLimitIs512 : Type 0
At16TheLimitIs512 = (a : Answer ℕ) → GivesLimit 16 a → a ≡ Ok 512

-- and every even whole number up to 1,024 in size has a word, and strict writing gives it
unfoldable pub At16EveryEvenNumberUpTo1024IsWritten : Type 0
At16EveryEvenNumberUpTo1024IsWritten = (x : ℤ) (r : Answer ℕ) → nat_abs x % 2 ≡ 0 → nat_abs x ≤ 1024 → WritesWhole 16 Rule.Strict x r → (w : ℕ) × (r ≡ Ok w) × IsWhole 16 x w

-- ---- whole numbers in and out
-- strict writing of a whole number keeps it
unfoldable pub AWholeNumberIsKept : Type 0
AWholeNumberIsKept = (n : ℕ) (x : ℤ) (w : ℕ) → WritesWhole n Rule.Strict x (Ok w) → IsWhole n x w

-- written strictly and taken out, a whole number inside signed 64 bits is itself, by either way of taking
unfoldable pub AWholeNumberComesBack : Type 0
AWholeNumberComesBack = (n : ℕ) (x : ℤ) (w : ℕ) (rule : Taking) (a : Answer ℤ) → over_test x ≡ passed → WritesWhole n Rule.Strict x (Ok w) → TakesWhole n rule w a → a ≡ Ok x

-- taken out strictly and written, a word is itself, by either rule
unfoldable pub AWordComesBackFromItsWholeNumber : Type 0
AWordComesBackFromItsWholeNumber = (n w : ℕ) (x : ℤ) (rule : Rule) (r : Answer ℕ) → TakesWhole n Taking.Strict w (Ok x) → WritesWhole n rule x r → r ≡ Ok w

-- the greater word has no smaller whole number
unfoldable pub TakingWholeNumbersKeepsOrder : Type 0
TakingWholeNumbersKeepsOrder = (n : ℕ) (rule rule' : Taking) (w w' : ℕ) (x y : ℤ) → TakesWhole n rule w (Ok x) → TakesWhole n rule' w' (Ok y) → (order (signed n w) (signed n w') ≡ pos 1 → ⊥) → order x y ≡ pos 1 → ⊥

-- ---- binary64
-- up to width 57 the number out is exactly the word's value z * 2^-307
unfoldable pub UpTo57TheNumberIsExact : Type 0
UpTo57TheNumberIsExact = (n w : ℕ) (x : Float) → n ≤ 57 → TakesBinary64 n w (Binary64.Number x) → (z : ℤ) × (takum n w ≡ real z) × Ieee.HasValue x (is_negative z) (nat_abs z) (2 ^ 307)

-- and written again, by either rule, it is the word
unfoldable pub UpTo57OutThenInIsTheWord : Type 0
UpTo57OutThenInIsTheWord = (n w : ℕ) (rule : Rule) (x : Float) (r : Answer ℕ) → n ≤ 57 → TakesBinary64 n w (Binary64.Number x) → WritesBinary64 n rule x r → r ≡ Ok w

-- the order of words is never reversed, and up to width 57 it stays strict
unfoldable pub TakingBinary64KeepsOrder : Type 0
TakingBinary64KeepsOrder = (n v w : ℕ) (x y : Float) → TakesBinary64 n v (Binary64.Number x) → TakesBinary64 n w (Binary64.Number y) → order (signed n v) (signed n w) ≡ negsuc 0 → T (le x y) × (n ≤ 57 → T (lt x y))

-- the negated word goes out as the negated number, and zero as positive zero
unfoldable pub TheNegatedWordGoesOutNegated : Type 0
TheNegatedWordGoesOutNegated = (n w : ℕ) (x : Float) (a : Binary64) → (w ≡ 0 → ⊥) → TakesBinary64 n w (Binary64.Number x) → TakesBinary64 n (negated n w) a → a ≡ Binary64.Number (neg x)

unfoldable pub ZeroGoesOutPositive : Type 0
ZeroGoesOutPositive = (n : ℕ) (x : Float) → TakesBinary64 n 0 (Binary64.Number x) → x ≡ fin false 0 (pos 0)

-- NaN and both infinities give NaR, both zeros the zero word
pub record SpecialNumbersAreWritten (n : ℕ) (rule : Rule) (r : Answer ℕ) : Type 0 where
  pub not_a_number : WritesBinary64 n rule nan r → r ≡ Ok (nar_word n)
  pub infinity : (s : Bool) → WritesBinary64 n rule (inf s) r → r ≡ Ok (nar_word n)
  pub zero : (s : Bool) (e : ℤ) → WritesBinary64 n rule (fin s 0 e) r → r ≡ Ok 0

unfoldable pub SpecialNumbers : Type 0
SpecialNumbers = (n : ℕ) (rule : Rule) (r : Answer ℕ) → 2 ≤ n → n ≤ 64 → SpecialNumbersAreWritten n rule r

-- every word but NaR goes out as a number
unfoldable pub AWordThatIsNotNaRGoesOutAsANumber : Type 0
AWordThatIsNotNaRGoesOutAsANumber = (n w : ℕ) (a : Binary64) → IsWord n w → (w ≡ nar_word n → ⊥) → TakesBinary64 n w a → (x : Float) × (a ≡ Binary64.Number x)

-- NaR goes out as no number
unfoldable pub NaRGoesOutAsNone : Type 0
NaRGoesOutAsNone = (n w : ℕ) (a : Binary64) → IsWord n w → w ≡ nar_word n → TakesBinary64 n w a → a ≡ Binary64.Nar

-- a binary64 number that is the whole number x is written as x is, by either rule
unfoldable pub Binary64AgreesWithWhole : Type 0
Binary64AgreesWithWhole = (n : ℕ) (rule : Rule) (x : ℤ) (f : Float) (r r' : Answer ℕ) → Ieee.HasValue f (is_negative x) (nat_abs x) 1 → WritesBinary64 n rule f r → WritesWhole n rule x r' → r ≡ r'
