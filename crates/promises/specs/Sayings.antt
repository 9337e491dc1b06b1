-- Which way it went (paper 02, Wish 4): what is promised of the saying beside a word, whatever was written, and of a column's count.
use Rattle.std.specs.Prelude.{◌≡◌, Bool, false, not, List, ◌⊎◌, ℕ, ◌+◌, ◌*◌, ◌^◌, ◌≤◌, ◌<◌, Float, ℤ, pos, neg_ℤ, nat_abs, ◌+ℤ◌, ◌-ℤ◌, length, get_or, Ok, Err}
use Rattle.std.specs.Float.{nan, inf, fin}
use Rattle.std.specs.Float.Ieee.{neg, up, down}
use Rattle.bounds.specs.declared.answer.Written.{Written}
use Rattle.bounds.specs.declared.saying.Saying.{Saying}
use Rattle.bounds.specs.declared.saying.Saying.TheVariants.{Exact, PastTheEnd}
use Rattle.bounds.specs.Refusals.{Answer, ListAnswer, IsWord}
use Rattle.bounds.specs.Sayings.{saying_number, opposite_saying, written, plain}
use Rattle.bounds.specs.Widths.{nar_word, largest, smallest}
use Rattle.word.specs.declared.reading.Reading.{Reading}
use Rattle.word.specs.Takum.{Takum, real, NaR, takum}
use Rattle.word.specs.Reads.{num, den, Reads}
use Rattle.word.specs.Orders.{negated}
use Rattle.sizes.specs.declared.size.Size.{Size}
use Rattle.nearest.specs.Sayings as nearest
use Rattle.nearest.specs.declared.size.Rest.{Rest}
use Rattle.nearest.specs.Nearest.{HasValue}
use Rattle.nearest.specs.Offers.{IsOffered, FindsNearest}
use Rattle.round.specs.declared.value.Rule.{Rule}
use Rattle.round.specs.declared.value.LongValue.{LongValue}
use Rattle.round.specs.Jamming.{Between, jammed}
use Rattle.round.specs.Writes.{IsExact, WritesShort, WritesSize, WritesLong}
use Rattle.round.specs.Sayings.{WritesShortAndSays, WritesSizeAndSays, WritesLongAndSays}
use Rattle.write.specs.declared.value.Value.{Value}
use Rattle.write.specs.Writes.{is_negative, Writes, Moves}
use Rattle.write.specs.Sayings.{WritesAndSays, MovesAndSays}
use Rattle.whole.specs.Wholes.{WritesWhole}
use Rattle.whole.specs.Sayings.{WritesWholeAndSays}
use Rattle.binary64.specs.Writes.{WritesBinary64}
use Rattle.binary64.specs.Sayings.{WritesBinary64AndSays}
use Rattle.column.specs.declared.moving.MovedColumn.{MovedColumn}
use Rattle.column.specs.Columns.{how_many, MovesColumn}
use Rattle.column.specs.Counts.{Counts, HoldsAndCounts}
use Rattle.ledusprig.specs.Handed.{column_handed}
use Rattle.promises.specs.Demands.{RefusedAs}
use Rattle.promises.specs.Hub.{significand, long_numerator, long_denominator}
use Rattle.promises.specs.Writing.{numerator, denominator, with_other_sign, of_sign, Says}

-- ---- the four sayings
-- of a word that has a value, and whatever value it is given for, one of the four holds and no other: this is about the definition alone
unfoldable pub OneSayingHolds : Type 0
OneSayingHolds = (n : ℕ) (negative : Bool) (a b w : ℕ) (x : ℤ) → IsWord n w → takum n w ≡ real x → (s : Saying) × nearest.Says n negative a b w s × ((t : Saying) → nearest.Says n negative a b w t → t ≡ s)

-- their numbers tell them apart, and are 0 to 3
unfoldable pub SayingNumbersAre0To3 : Type 0
SayingNumbersAre0To3 = (s t : Saying) → (saying_number s ≤ 3) × (saying_number s ≡ saying_number t → s ≡ t)

-- ---- whatever is written
-- a value, a whole number, a binary64 number, or the word w of n bits that is moved; and what the hub takes
pub data Offered : Type 0 where
  value : Value → Offered
  whole : ℤ → Offered
  binary64 : Float → Offered
  word : ℕ → ℕ → Offered
  short : Bool → ℕ → ℤ → Offered
  size : Size → Offered
  long : LongValue → Offered

-- a word that is moved is one; everything else can be offered
unfoldable pub IsFit : Offered → Type 0
IsFit (value v) = Unit {0}
IsFit (whole x) = Unit {0}
IsFit (binary64 x) = Unit {0}
IsFit (word n w) = IsWord n w
IsFit (short negative m k) = Unit {0}
IsFit (size s) = Unit {0}
IsFit (long v) = Unit {0}

-- what the call answers that writes it in n bits by the rule
unfoldable pub Gives : ℕ → Rule → Offered → Answer Written → Type 0
Gives n rule (value v) r = WritesAndSays n rule v r
Gives n rule (whole x) r = WritesWholeAndSays n rule x r
Gives n rule (binary64 x) r = WritesBinary64AndSays n rule x r
Gives n rule (word n' w) r = MovesAndSays n' n rule w r
Gives n rule (short negative m k) r = WritesShortAndSays n rule negative m k r
Gives n rule (size s) r = WritesSizeAndSays n rule s r
Gives n rule (long v) r = WritesLongAndSays n rule v r

-- what it means: a sign and the size a / b, counted in 2^-307, or NaR
pub data Meant : Type 0 where
  number : Bool → ℕ → ℕ → Meant
  nar : Meant

unfoldable pub of_takum : Takum → Meant
of_takum (real z) = number (is_negative z) (nat_abs z) 1
of_takum NaR = nar

unfoldable pub of_float : Float → Meant
of_float nan = nar
of_float (inf s) = nar
of_float (fin s m e) = number s (m * up e * 2 ^ 307) (down e)

unfoldable pub of_short : Bool → ℕ → ℤ → Meant
of_short negative m k = number negative (m * num (k +ℤ pos 307)) (den (k +ℤ pos 307))

unfoldable pub meant : Offered → Meant
meant (value v) = number v.negative (numerator v) (denominator v)
meant (whole x) = number (is_negative x) (nat_abs x * 2 ^ 307) 1
meant (binary64 x) = of_float x
meant (word n w) = of_takum (takum n w)
meant (short negative m k) = of_short negative m k
meant (size s) = of_short s.negative s.m (s.h -ℤ pos 63)
meant (long v) = number v.negative (long_numerator v) (long_denominator v)

-- the word w of n bits means the same
unfoldable pub HasTheMeaning : ℕ → Meant → ℕ → Type 0
HasTheMeaning n (number negative a b) w = IsExact n negative a b w
HasTheMeaning n nar w = IsWord n w × (takum n w ≡ NaR)

-- ---- what stays
-- Without its saying, what a call answers is what it answered before there were sayings: all that is promised of that holds as it did.
pub record TheAnswerIsAsBefore : Type 0 where
  pub write : (n : ℕ) (rule : Rule) (v : Value) (r : Answer Written) → WritesAndSays n rule v r → Writes n rule v (plain r)
  pub write_whole : (n : ℕ) (rule : Rule) (x : ℤ) (r : Answer Written) → WritesWholeAndSays n rule x r → WritesWhole n rule x (plain r)
  pub write_binary64 : (n : ℕ) (rule : Rule) (x : Float) (r : Answer Written) → WritesBinary64AndSays n rule x r → WritesBinary64 n rule x (plain r)
  pub move_word : (n n' : ℕ) (rule : Rule) (w : ℕ) (r : Answer Written) → MovesAndSays n n' rule w r → Moves n n' rule w (plain r)
  pub write_short : (n : ℕ) (rule : Rule) (negative : Bool) (m : ℕ) (k : ℤ) (r : Answer Written) → WritesShortAndSays n rule negative m k r → WritesShort n rule negative m k (plain r)
  pub write_size : (n : ℕ) (rule : Rule) (s : Size) (r : Answer Written) → WritesSizeAndSays n rule s r → WritesSize n rule s (plain r)
  pub write_long : (n : ℕ) (rule : Rule) (v : LongValue) (r : Answer Written) → WritesLongAndSays n rule v r → WritesLong n rule v (plain r)
  pub nearest : (n : ℕ) (negative : Bool) (h : ℤ) (m below : ℕ) (r : Answer Written) → nearest.FindsAndSays n negative h m below r → FindsNearest n negative h m below (plain r)

-- ---- exact
-- exact is said if and only if a word of the width means the same, and then it is that word, by either rule
unfoldable pub ExactWhereAWordHasTheValue : Type 0
ExactWhereAWordHasTheValue = (n : ℕ) (rule : Rule) (o : Offered) (w : ℕ) (s : Saying) → IsFit o → 2 ≤ n → n ≤ 64 → Gives n rule o (written w s) → (s ≡ Exact → HasTheMeaning n (meant o) w) × ((w' : ℕ) → HasTheMeaning n (meant o) w' → (s ≡ Exact) × (w ≡ w'))

-- by the strict rule it is always exact
unfoldable pub ByTheStrictRuleItIsExact : Type 0
ByTheStrictRuleItIsExact = (n : ℕ) (o : Offered) (w : ℕ) (s : Saying) → IsFit o → 2 ≤ n → n ≤ 64 → Gives n Rule.Strict o (written w s) → s ≡ Exact

-- The two rules tell the same story. Rounded gives a word and its saying; where that is exact, strict gives the same, and elsewhere it refuses as INEXACT.
unfoldable pub TellTheSame : Answer Written → Answer Written → Type 0
TellTheSame rounded strict = (w : ℕ) × (s : Saying) × (rounded ≡ written w s) × (((s ≡ Exact) × (strict ≡ rounded)) ⊎ ((s ≡ Exact → ⊥) × RefusedAs (Answer Written) Err 4 strict))

unfoldable pub TheTwoRulesTellTheSameStory : Type 0
TheTwoRulesTellTheSameStory = (n : ℕ) (o : Offered) (a b : Answer Written) → IsFit o → 2 ≤ n → n ≤ 64 → Gives n Rule.Rounded o a → Gives n Rule.Strict o b → TellTheSame a b

-- what is zero or NaR is exact: NaN and both infinities become NaR
unfoldable pub ZeroAndNaRAreExact : Type 0
ZeroAndNaRAreExact = (n : ℕ) (rule : Rule) (o : Offered) (r : Answer Written) → IsFit o → 2 ≤ n → n ≤ 64 → Gives n rule o r
    → ((negative : Bool) (b : ℕ) → meant o ≡ number negative 0 b → r ≡ written 0 Exact) × (meant o ≡ nar → r ≡ written (nar_word n) Exact)

-- ---- one value, however it is offered
-- NaR both, or numbers of one sign and one size; both sizes are multiplied by both denominators
unfoldable pub MeanTheSame : Meant → Meant → Type 0
MeanTheSame (number negative a b) (number negative' a' b') = (negative ≡ negative') × (a * b' ≡ a' * b)
MeanTheSame (number negative a b) nar = ⊥
MeanTheSame nar (number negative a b) = ⊥
MeanTheSame nar nar = Unit {0}

-- are answered alike by every call, and the same is said of them
unfoldable pub OneMeaningHasOneAnswer : Type 0
OneMeaningHasOneAnswer = (n : ℕ) (rule : Rule) (o o' : Offered) (r r' : Answer Written) → IsFit o → IsFit o' → 2 ≤ n → n ≤ 64 → MeanTheSame (meant o) (meant o') → Gives n rule o r → Gives n rule o' r' → r ≡ r'

-- What `nearest` says is said of the size (m + below * 2^-64) * 2^(h - 63), of which it finds the word, the top bit of m being set.
unfoldable pub WhatIsFoundIsSaidOfTheSize : Type 0
WhatIsFoundIsSaidOfTheSize = (n : ℕ) (negative : Bool) (h : ℤ) (m below w : ℕ) (s : Saying) → 2 ^ 63 ≤ m → m < 2 ^ 64 → below < 2 ^ 64 → nearest.FindsAndSays n negative h m below (written w s) → (a b : ℕ) → 0 < b → IsOffered (m * 2 ^ 64 + below) Rest.Nothing (h -ℤ pos 127) a b → nearest.Says n negative a b w s

-- What is said of a jammed long value is said of the exact size a / b, between x and x + 1 units, of which x is the first 128 bits. (`JammingChangesNoAnswer`
-- says that the word is that of the exact size.)
unfoldable pub JammingChangesNoSaying : Type 0
JammingChangesNoSaying =
    (n : ℕ) (rule : Rule) (v : LongValue) (x a b w : ℕ) (s : Saying) → 2 ≤ n → n ≤ 64 → 2 ^ 127 ≤ x → x < 2 ^ 128 → 0 < b → Between x v.k a b → significand v ≡ jammed x → WritesLongAndSays n rule v (written w s) → nearest.Says n v.negative a b w s

-- ---- past the end
-- past the end is said of an end word of the sign: of the largest where the size is beyond it, of the smallest where it is short of it
unfoldable pub PastTheEndIsSaidOfTheEndWord : Type 0
PastTheEndIsSaidOfTheEndWord = (n : ℕ) (o : Offered) (w : ℕ) → IsFit o → 2 ≤ n → n ≤ 64 → Gives n Rule.Rounded o (written w PastTheEnd)
    → (negative : Bool) × (a b z : ℕ) × (meant o ≡ number negative a b) × ((HasValue n false z (largest n) × (z * b < a) × (w ≡ of_sign n negative (largest n))) ⊎ (HasValue n false z (smallest n) × (a < z * b) × (w ≡ of_sign n negative (smallest n))))

-- ---- negation
-- the same with the opposite sign
unfoldable pub opposite : Offered → Offered
opposite (value v) = value (with_other_sign v)
opposite (whole x) = whole (neg_ℤ x)
opposite (binary64 x) = binary64 (neg x)
opposite (word n w) = word n (negated n w)
opposite (short negative m k) = short (not negative) m k
opposite (size s) = size (record { negative = not s.negative; h = s.h; m = s.m })
opposite (long v) = long (record { negative = not v.negative; high = v.high; low = v.low; k = v.k })

-- gives the negated word, and exchanges below and above
unfoldable pub NegatingExchangesBelowAndAbove : Type 0
NegatingExchangesBelowAndAbove = (n : ℕ) (o : Offered) (w : ℕ) (s : Saying) (r : Answer Written) → IsFit o → 2 ≤ n → n ≤ 64 → Gives n Rule.Rounded o (written w s) → Gives n Rule.Rounded (opposite o) r → r ≡ written (negated n w) (opposite_saying s)

-- ---- moves
-- a move says exact if and only if the meaning stays
unfoldable pub AMoveIsExactWhereTheMeaningStays : Type 0
AMoveIsExactWhereTheMeaningStays = (n n' : ℕ) (rule : Rule) (w w' : ℕ) (s : Saying) → MovesAndSays n n' rule w (written w' s) → (s ≡ Exact → takum n' w' ≡ takum n w) × (takum n' w' ≡ takum n w → s ≡ Exact)

-- to a width at least as wide it is exact, by either rule
unfoldable pub AWiderMoveIsExact : Type 0
AWiderMoveIsExact = (n more : ℕ) (rule : Rule) (w : ℕ) (r : Answer Written) → n + more ≤ 64 → IsWord n w → MovesAndSays n (n + more) rule w r → r ≡ written (w * 2 ^ more) Exact

-- after a move that says exact, by either rule, a strict move back gives the first word
unfoldable pub AfterExactTheWayBackIsOpen : Type 0
AfterExactTheWayBackIsOpen = (n n' : ℕ) (rule : Rule) (w w' : ℕ) (r : Answer Written) → MovesAndSays n n' rule w (written w' Exact) → MovesAndSays n' n Rule.Strict w' r → r ≡ written w Exact

-- what a move answers and says is what writing answers and says of what was read
unfoldable pub AMoveSaysWhatWritingSays : Type 0
AMoveSaysWhatWritingSays = (n n' w : ℕ) (rule : Rule) (a : Reading) (v : Value) (r : Answer Written) → IsWord n w → Reads n w (Ok a) → Says a v → MovesAndSays n n' rule w r → WritesAndSays n' rule v r

-- ---- columns
-- a column that was moved, with what its results hold afterwards
pub record Moved (n n' : ℕ) (rule : Rule) (words before after : List ℕ) (a : MovedColumn) : Type 0 where
  pub answers : MovesColumn n n' rule words (length before) (Ok a)
  pub holds : HoldsAndCounts n n' rule words before (Ok a) after

-- the count is that of the positions at which the move says exact
unfoldable pub AColumnCountsWhatItsMovesSay : Type 0
AColumnCountsWhatItsMovesSay = (n n' : ℕ) (rule : Rule) (words before after : List ℕ) (a : MovedColumn) → Moved n n' rule words before after a → Counts (λ i. MovesAndSays n n' rule (get_or words i 0) (written (get_or after i 0) Exact)) (length words) a.exact

-- all are exact if and only if the strict column move of the same words is not refused
unfoldable pub AllAreExactWhereStrictMovesThem : Type 0
AllAreExactWhereStrictMovesThem = (n n' : ℕ) (words before after : List ℕ) (a : MovedColumn) (strict : ListAnswer MovedColumn) → Moved n n' Rule.Rounded words before after a → MovesColumn n n' Rule.Strict words (length before) strict
    → (a.exact ≡ a.moved → how_many strict ≡ Ok a.moved) × ((c : MovedColumn) → strict ≡ Ok c → a.exact ≡ a.moved)

-- by the strict rule all are exact
unfoldable pub AStrictColumnIsExactThroughout : Type 0
AStrictColumnIsExactThroughout = (n n' : ℕ) (words before after : List ℕ) (a : MovedColumn) → Moved n n' Rule.Strict words before after a → a.exact ≡ a.moved

-- to a width at least as wide all are, by either rule
unfoldable pub AWiderColumnIsExactThroughout : Type 0
AWiderColumnIsExactThroughout = (n more : ℕ) (rule : Rule) (words before after : List ℕ) (a : MovedColumn) → n + more ≤ 64 → Moved n (n + more) rule words before after a → a.exact ≡ a.moved

-- a refused column counts none: its answer has no count, and 0 is handed over
unfoldable pub ARefusedColumnCountsNone : Type 0
ARefusedColumnCountsNone = (a : ListAnswer MovedColumn) → ((c : MovedColumn) → a ≡ Ok c → ⊥) → (column_handed a).exact ≡ 0
