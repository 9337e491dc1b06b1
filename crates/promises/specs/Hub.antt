-- What is promised of whatever is written through the hub: the nearest word or exactly the value, one answer for one value, and jamming.
use Rattle.bounds.specs.Refusals.{Answer}
use Rattle.std.specs.Prelude.{◌≡◌, Bool, ℕ, ◌+◌, ◌-◌, ◌*◌, ◌^◌, ◌≤◌, ◌<◌, ℤ, pos, ◌+ℤ◌, ◌-ℤ◌, Ok}
use Rattle.sizes.specs.declared.size.Size.{Size}
use Rattle.word.specs.Reads.{num, den}
use Rattle.nearest.specs.declared.size.Rest.{Rest}
use Rattle.nearest.specs.Nearest.{Nearest}
use Rattle.nearest.specs.Offers.{IsOffered, FindsNearest}
use Rattle.round.specs.declared.value.LongValue.{LongValue}
use Rattle.round.specs.declared.value.Rule.{Rule}
use Rattle.round.specs.Jamming.{Between, jammed}
use Rattle.round.specs.Writes.{IsRounded, IsExact, IsWritten, WritesShort, WritesSize, WritesLong}
use Rattle.write.specs.declared.value.Value.{Value}
use Rattle.write.specs.Writes.{Writes}
use Rattle.promises.specs.Writing.{GivenOrInexact}

-- the significand of a long value, of 128 bits
unfoldable pub significand : LongValue → ℕ
significand v = v.high * 2 ^ 64 + v.low

-- its size as a fraction, counted in 2^-307
unfoldable pub long_numerator : LongValue → ℕ
long_numerator v = significand v * num (v.k +ℤ pos 307)

unfoldable pub long_denominator : LongValue → ℕ
long_denominator v = den (v.k +ℤ pos 307)

-- ---- what is found, before the rule
-- At widths 2 to 64 the answer is the word of the sign nearest to the size (m + below * 2^-64) * 2^(h - 63), the top bit of m being set.
unfoldable pub TheWordThatIsFoundIsTheNearest : Type 0
TheWordThatIsFoundIsTheNearest = (n : ℕ) (negative : Bool) (h : ℤ) (m below : ℕ) (r : Answer ℕ) → 2 ≤ n → n ≤ 64 → 2 ^ 63 ≤ m → m < 2 ^ 64 → below < 2 ^ 64 → FindsNearest n negative h m below r → (w : ℕ) × (r ≡ Ok w) × ((a b : ℕ) → 0 < b → IsOffered (m * 2 ^ 64 + below) Rest.Nothing (h -ℤ pos 127) a b → Nearest n negative a b w)

-- ---- what is written
-- Rounded, a long value is never refused at widths 2 to 64, and gives the nearest word, ties to the even word; zero gives the zero word.
unfoldable pub ALongValueIsRoundedToTheNearest : Type 0
ALongValueIsRoundedToTheNearest = (n : ℕ) (v : LongValue) (r : Answer ℕ) → 2 ≤ n → n ≤ 64 → WritesLong n Rule.Rounded v r → (w : ℕ) × (r ≡ Ok w) × IsRounded n v.negative (long_numerator v) (long_denominator v) w

-- strictly, the word has exactly the value; or the answer is refusal 4, INEXACT, and no word has it
unfoldable pub ALongValueIsRefusedExactlyWhereThereIsNoWord : Type 0
ALongValueIsRefusedExactlyWhereThereIsNoWord = (n : ℕ) (v : LongValue) (r : Answer ℕ) → 2 ≤ n → n ≤ 64 → WritesLong n Rule.Strict v r → GivenOrInexact (IsExact n v.negative (long_numerator v) (long_denominator v)) r

-- ---- one value has one answer
-- of two long values of one sign and one size, however it is split into significand and exponent; both sizes are multiplied by both denominators
unfoldable pub HowAValueIsSplitChangesNoAnswer : Type 0
HowAValueIsSplitChangesNoAnswer = (n : ℕ) (rule : Rule) (u v : LongValue) (a b : Answer ℕ) → u.negative ≡ v.negative → long_numerator u * long_denominator v ≡ long_numerator v * long_denominator u → WritesLong n rule u a → WritesLong n rule v b → a ≡ b

-- m * 2^k is written as the long value whose lower number is m
unfoldable pub AShortValueIsWrittenAsALongOne : Type 0
AShortValueIsWrittenAsALongOne = (n : ℕ) (rule : Rule) (negative : Bool) (m : ℕ) (k : ℤ) (a b : Answer ℕ) → WritesShort n rule negative m k a → WritesLong n rule (record { negative = negative; high = 0; low = m; k = k }) b → a ≡ b

-- and so is a size as a word is read in
unfoldable pub ASizeIsWrittenAsALongValue : Type 0
ASizeIsWrittenAsALongValue = (n : ℕ) (rule : Rule) (s : Size) (a b : Answer ℕ) → WritesSize n rule s a → WritesLong n rule (record { negative = s.negative; high = 0; low = s.m; k = s.h -ℤ pos 63 }) b → a ≡ b

-- and a value offered to `write` as the short one that it is
unfoldable pub AValueIsWrittenAsAShortOne : Type 0
AValueIsWrittenAsAShortOne = (n : ℕ) (rule : Rule) (v : Value) (a b : Answer ℕ) → Writes n rule v a → WritesShort n rule v.negative v.m v.k b → a ≡ b

-- ---- jamming
-- Whoever has an exact size a / b with more than 128 bits, between x and x + 1 units, the top bit of x being set, hands over x with its lowest bit set:
-- by either rule the answer is what is written for the exact size, and nothing else is.
unfoldable pub JammingChangesNoAnswer : Type 0
JammingChangesNoAnswer =
    (n : ℕ) (rule : Rule) (v : LongValue) (x a b : ℕ) (r : Answer ℕ) → 2 ≤ n → n ≤ 64 → 2 ^ 127 ≤ x → x < 2 ^ 128 → 0 < b → Between x v.k a b → significand v ≡ jammed x → WritesLong n rule v r
    → IsWritten n rule v.negative a b r × ((r' : Answer ℕ) → IsWritten n rule v.negative a b r' → r' ≡ r)

-- every exact size that is cut to so many bits and jammed is written as it is itself
unfoldable pub AnswersAlikeJammed : ℕ → Type 0
AnswersAlikeJammed bits =
    (n : ℕ) (rule : Rule) (negative : Bool) (x : ℕ) (k : ℤ) (a b : ℕ) (r r' : Answer ℕ) → 2 ≤ n → n ≤ 64 → 2 ^ (bits - 1) ≤ x → x < 2 ^ bits → 0 < b → Between x k a b
    → IsWritten n rule negative a b r → WritesShort n rule negative (jammed x) k r' → r ≡ r'

-- two bits under 64 are enough, and more
unfoldable pub TwoBitsUnderSixtyFourAreEnough : Type 0
TwoBitsUnderSixtyFourAreEnough = (bits : ℕ) → 66 ≤ bits → AnswersAlikeJammed bits

-- one bit, set for whatever lies below, is not
unfoldable pub OneBitUnderSixtyFourIsNotEnough : Type 0
OneBitUnderSixtyFourIsNotEnough = AnswersAlikeJammed 65 → ⊥
