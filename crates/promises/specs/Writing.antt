-- What the letter demands of writing and of moves, as statements about what the public contracts allow.
use Rattle.std.specs.Prelude.{◌≡◌, Bool, false, not, cond, List, [], ◌∷◌, ◌⊎◌, ℕ, ◌+◌, ◌*◌, ◌^◌, ◌≤◌, ◌<◌, ℤ, pos, ◌+ℤ◌, ◌-ℤ◌, Ok, Err}
use Rattle.word.specs.declared.reading.Kind.{Kind}
use Rattle.word.specs.declared.reading.Reading.{Reading}
use Rattle.bounds.specs.declared.refusal.Refusal.{Refusal}
use Rattle.word.specs.Takum.{real, NaR, takum}
use Rattle.bounds.specs.Refusals.{Answer, IsWord}
use Rattle.bounds.specs.Widths.{nar_word, largest, smallest}
use Rattle.word.specs.Reads.{num, den, IsSize, signed_size, Reads}
use Rattle.word.specs.Orders.{signed, order, negated}
use Rattle.round.specs.declared.value.Rule.{Rule}
use Rattle.write.specs.declared.value.Value.{Value}
use Rattle.nearest.specs.Nearest.{HasValue}
use Rattle.round.specs.Writes.{IsRounded, IsExact}
use Rattle.write.specs.Writes.{Writes, Moves}
use Rattle.promises.specs.Demands.{RefusedAs}

-- the size of an offered value as a fraction, counted in 2^-307
unfoldable pub numerator : Value → ℕ
numerator v = v.m * num (v.k +ℤ pos 307)

unfoldable pub denominator : Value → ℕ
denominator v = den (v.k +ℤ pos 307)

-- the opposite value
unfoldable pub with_other_sign : Value → Value
with_other_sign v = record { negative = not v.negative; m = v.m; k = v.k }

-- ---- demand 2, writing
-- Rounded writing is never refused at widths 2 to 64, and gives the nearest word, ties to the even word; zero gives the zero word.
unfoldable pub RoundedIsTheNearest : Type 0
RoundedIsTheNearest = (n : ℕ) (v : Value) (r : Answer ℕ) → 2 ≤ n → n ≤ 64 → Writes n Rule.Rounded v r → (w : ℕ) × (r ≡ Ok w) × IsRounded n v.negative (numerator v) (denominator v) w

-- there is such a word for every value, and only one: this is about the definition alone
unfoldable pub OneRoundedWord : Type 0
OneRoundedWord = (n : ℕ) (v : Value) → 2 ≤ n → n ≤ 64 → (w : ℕ) × IsRounded n v.negative (numerator v) (denominator v) w × ((w' : ℕ) → IsRounded n v.negative (numerator v) (denominator v) w' → w' ≡ w)

-- a value that isn't zero gives neither zero nor NaR
unfoldable pub RoundedIsNeverZeroNorNaR : Type 0
RoundedIsNeverZeroNorNaR = (n : ℕ) (v : Value) (w : ℕ) → 2 ≤ n → n ≤ 64 → 0 < v.m → Writes n Rule.Rounded v (Ok w) → (w ≡ 0 → ⊥) × (w ≡ nar_word n → ⊥)

-- the positive word w for a positive value, and its negation for a negative one
unfoldable pub of_sign : ℕ → Bool → ℕ → ℕ
of_sign n negative w = cond negative (negated n w) w

-- at and past either end the end word of the sign: the largest and the smallest positive word have a size z, and every value from there on is written so
unfoldable pub PastTheLargest : Type 0
PastTheLargest = (n : ℕ) → 2 ≤ n → n ≤ 64 → (z : ℕ) × HasValue n false z (largest n) × ((v : Value) (r : Answer ℕ) → 0 < v.m → z * denominator v ≤ numerator v → Writes n Rule.Rounded v r → r ≡ Ok (of_sign n v.negative (largest n)))

unfoldable pub BeforeTheSmallest : Type 0
BeforeTheSmallest = (n : ℕ) → 2 ≤ n → n ≤ 64 → (z : ℕ) × HasValue n false z (smallest n) × ((v : Value) (r : Answer ℕ) → 0 < v.m → numerator v ≤ z * denominator v → Writes n Rule.Rounded v r → r ≡ Ok (of_sign n v.negative (smallest n)))

-- at width 2 every positive value is written as the word 1
unfoldable pub AtWidth2EveryPositiveValueIsWrittenAs1 : Type 0
AtWidth2EveryPositiveValueIsWrittenAs1 = (v : Value) (r : Answer ℕ) → 0 < v.m → v.negative ≡ false → Writes 2 Rule.Rounded v r → r ≡ Ok 1

-- a value that has a word is written as that word, by either rule
unfoldable pub AWordsValueIsWrittenAsTheWord : Type 0
AWordsValueIsWrittenAsTheWord = (n : ℕ) (rule : Rule) (v : Value) (w : ℕ) (r : Answer ℕ) → 2 ≤ n → n ≤ 64 → IsExact n v.negative (numerator v) (denominator v) w → Writes n rule v r → r ≡ Ok w

-- ---- demand 3, strict writing
-- strict writing keeps the value: the word's value is z * 2^-307 with the sign, and z * 2^-307 is m * 2^k
unfoldable pub StrictWritingKeepsTheValue : Type 0
StrictWritingKeepsTheValue = (n : ℕ) (v : Value) (w : ℕ) → Writes n Rule.Strict v (Ok w) → IsWord n w × (z : ℕ) × (takum n w ≡ real (signed_size v.negative z)) × IsSize v.m v.k z

-- strictly, a word with the value is given; or the answer is refusal 4, INEXACT, and no word has the value
unfoldable pub GivenOrInexact : (ℕ → Type 0) → Answer ℕ → Type 0
GivenOrInexact HasTheValue r = ((w : ℕ) × (r ≡ Ok w) × HasTheValue w) ⊎ (RefusedAs (Answer ℕ) Err 4 r × ((w : ℕ) → HasTheValue w → ⊥))

-- of a value
unfoldable pub StrictWritingIsRefusedExactlyWhereThereIsNoWord : Type 0
StrictWritingIsRefusedExactlyWhereThereIsNoWord = (n : ℕ) (v : Value) (r : Answer ℕ) → 2 ≤ n → n ≤ 64 → Writes n Rule.Strict v r → GivenOrInexact (IsExact n v.negative (numerator v) (denominator v)) r

-- ---- demand 2 again
-- the value v is what a reading of this kind says: where that is zero, with either sign and any exponent; NaR says none
unfoldable pub KindSays : Kind → Value → Type 0
KindSays Kind.Zero v = v.m ≡ 0
KindSays (Kind.Number s h m p) v = v ≡ record { negative = s; m = m; k = h -ℤ pos p }
KindSays Kind.Nar v = ⊥

-- the value v is what the reading a says
unfoldable pub Says : Reading → Value → Type 0
Says a v = KindSays a.kind v

-- what was read is written back as the word it was read from, by either rule
unfoldable pub WhatWasReadIsWrittenBack : Type 0
WhatWasReadIsWrittenBack = (n w : ℕ) (rule : Rule) (a : Reading) (v : Value) (r : Answer ℕ) → IsWord n w → Reads n w (Ok a) → Says a v → Writes n rule v r → r ≡ Ok w

-- the opposite value is written as the negated word
unfoldable pub RoundingCommutesWithNegation : Type 0
RoundingCommutesWithNegation = (n : ℕ) (v : Value) (w : ℕ) (r : Answer ℕ) → 2 ≤ n → n ≤ 64 → Writes n Rule.Rounded v (Ok w) → Writes n Rule.Rounded (with_other_sign v) r → r ≡ Ok (negated n w)

-- How the value u compares with v: -1, 0 or 1. Both sizes are multiplied by both denominators.
unfoldable pub order_of : Value → Value → ℤ
order_of u v = order (signed_size u.negative (numerator u * denominator v)) (signed_size v.negative (numerator v * denominator u))

-- of the values of two words it is the order of the words
unfoldable pub TheOrderOfValuesIsThatOfTheirWords : Type 0
TheOrderOfValuesIsThatOfTheirWords = (n x y : ℕ) (a b : Reading) (u v : Value) → IsWord n x → IsWord n y → Reads n x (Ok a) → Reads n y (Ok b) → Says a u → Says b v → order_of u v ≡ order (signed n x) (signed n y)

-- and a value that is not greater is written as a word that is not greater
unfoldable pub RoundingKeepsOrder : Type 0
RoundingKeepsOrder = (n : ℕ) (u v : Value) (x y : ℕ) → 2 ≤ n → n ≤ 64 → (order_of u v ≡ pos 1 → ⊥) → Writes n Rule.Rounded u (Ok x) → Writes n Rule.Rounded v (Ok y) → order (signed n x) (signed n y) ≡ pos 1 → ⊥

-- ---- moves: what is read at the one width is written at the other, by either rule
unfoldable pub AMoveIsAReadingAndAWriting : Type 0
AMoveIsAReadingAndAWriting = (n n' w : ℕ) (rule : Rule) (a : Reading) (v : Value) (r : Answer ℕ) → IsWord n w → Reads n w (Ok a) → Says a v → Moves n n' rule w r → Writes n' rule v r

-- ---- demand 3, moves
-- a strict move keeps the value
unfoldable pub StrictMovesKeepTheValue : Type 0
StrictMovesKeepTheValue = (n n' w w' : ℕ) → Moves n n' Rule.Strict w (Ok w') → IsWord n' w' × (takum n' w' ≡ takum n w)

-- refused exactly where no word of the target width has the value, and then as INEXACT
unfoldable pub StrictMovesAreRefusedExactlyWhereThereIsNoWord : Type 0
StrictMovesAreRefusedExactlyWhereThereIsNoWord = (n n' w : ℕ) (r : Answer ℕ) → IsWord n w → 2 ≤ n' → n' ≤ 64 → Moves n n' Rule.Strict w r → GivenOrInexact (λ w'. IsWord n' w' × (takum n' w' ≡ takum n w)) r

-- a word of the target width that has the value is given, by either rule
unfoldable pub AWordWithTheValueIsGiven : Type 0
AWordWithTheValueIsGiven = (n n' w w' : ℕ) (rule : Rule) (r : Answer ℕ) → IsWord n w → IsWord n' w' → takum n' w' ≡ takum n w → Moves n n' rule w r → r ≡ Ok w'

-- NaR goes to NaR, by either rule
unfoldable pub NaRMovesToNaR : Type 0
NaRMovesToNaR = (n n' w : ℕ) (rule : Rule) (r : Answer ℕ) → IsWord n w → 2 ≤ n' → n' ≤ 64 → takum n w ≡ NaR → Moves n n' rule w r → r ≡ Ok (nar_word n')

-- going wider appends zero bits, and the value stays
unfoldable pub WiderNeverChangesNorRefuses : Type 0
WiderNeverChangesNorRefuses = (n more w : ℕ) (rule : Rule) (r : Answer ℕ) → n + more ≤ 64 → IsWord n w → Moves n (n + more) rule w r → (r ≡ Ok (w * 2 ^ more)) × (takum (n + more) (w * 2 ^ more) ≡ takum n w)

-- a strict move there and a strict move back give the first word
unfoldable pub ThereAndBack : Type 0
ThereAndBack = (n n' w w' : ℕ) (r : Answer ℕ) → Moves n n' Rule.Strict w (Ok w') → Moves n' n Rule.Strict w' r → r ≡ Ok w

-- strict moves to these widths in turn, none refused, take the word w of n bits to the word w'' of n'' bits
unfoldable pub Chain : ℕ → ℕ → List ℕ → ℕ → ℕ → Type 0
Chain n w [] n'' w'' = (n'' ≡ n) × (w'' ≡ w)
Chain n w (n' ∷ ns) n'' w'' = (w' : ℕ) × Moves n n' Rule.Strict w (Ok w') × Chain n' w' ns n'' w''

-- and a strict move back to the first width gives the first word
unfoldable pub ChainsComeHome : Type 0
ChainsComeHome = (n w : ℕ) (ns : List ℕ) (n'' w'' : ℕ) (r : Answer ℕ) → IsWord n w → Chain n w ns n'' w'' → Moves n'' n Rule.Strict w'' r → r ≡ Ok w

-- The word w of n bits goes by strict moves through the widths ns and then to the width home: r is the first refusal, or the last word.
unfoldable pub Goes : ℕ → ℕ → ℕ → List ℕ → Answer ℕ → Type 0
Goes home n w [] r = Moves n home Rule.Strict w r
Goes home n w (n' ∷ ns) r = ((w' : ℕ) × Moves n n' Rule.Strict w (Ok w') × Goes home n' w' ns r) ⊎ ((q : Refusal) × Moves n n' Rule.Strict w (Err q) × (r ≡ Err q))

-- and where none was refused, the last word is the first
pub record ComesHome (n w : ℕ) (ns : List ℕ) (r : Answer ℕ) : Type 0 where
  pub goes : Goes n n w ns r
  pub home : (w'' : ℕ) → r ≡ Ok w'' → w'' ≡ w
