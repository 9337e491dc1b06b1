-- What every exported call hands over, by the fields of its struct. The field `refusal` follows the table of paper 01. Where it isn't 0 all other
-- fields are zero, but for the position of a word, and lent memory is as it came; where it is 0 the fields are the answer, said by value.
use Rattle.std.specs.Prelude.{◌≡◌, Bool, true, false, List, [], ◌∷◌, ◌++◌, ◌⊎◌, ℕ, zero, suc, ◌+◌, ◌*◌, ◌^◌, ◌≤◌, ◌<◌, Float, ℤ, pos, negsuc, nat_abs, ◌+ℤ◌, length, get_or, drop}
use Rattle.std.specs.Float.{nan, inf, fin, binary64}
use Rattle.std.specs.Float.Ieee.{up, down, of_bits}
use Rattle.bounds.specs.declared.refusal.Refusal.{Refusal}
use Rattle.bounds.specs.declared.saying.Saying.{Saying}
use Rattle.bounds.specs.declared.saying.Saying.TheVariants.{Exact}
use Rattle.bounds.specs.Refusals.{number_of, IsWord}
use Rattle.bounds.specs.Sayings.{saying_number}
use Rattle.word.specs.Takum.{Takum, real, NaR, takum, fraction_bits, own_fraction_bits}
use Rattle.word.specs.Reads.{num, den, IsNumber}
use Rattle.word.specs.Orders.{order, opposite}
use Rattle.nearest.specs.Nearest.{HasValue}
use Rattle.nearest.specs.Sayings.{Says}
use Rattle.round.specs.Writes.{IsRounded, IsExact}
use Rattle.write.specs.Writes.{is_negative}
use Rattle.write.specs.Sayings.{SaysMoved}
use Rattle.whole.specs.Wholes.{IsNearestWhole}
use Rattle.whole.specs.Shortest.{IsShortest}
use Rattle.binary64.specs.Nearest.{NearestBinary64}
use Rattle.column.specs.Counts.{Counts, KeepsTheMeaning}
use Rattle.sheet.specs.Layout as block
use Rattle.sheet.specs.Writes.{IsBlockOf}
use Rattle.ledusprig.specs.declared.handed.words.HandedWord.{HandedWord}
use Rattle.ledusprig.specs.declared.handed.words.HandedSaying.{HandedSaying}
use Rattle.ledusprig.specs.declared.handed.words.HandedReading.{HandedReading}
use Rattle.ledusprig.specs.declared.handed.words.HandedComparison.{HandedComparison}
use Rattle.ledusprig.specs.declared.handed.widths.HandedLimit.{HandedLimit}
use Rattle.ledusprig.specs.declared.handed.widths.HandedWidth.{HandedWidth}
use Rattle.ledusprig.specs.declared.handed.numbers.HandedWhole.{HandedWhole}
use Rattle.ledusprig.specs.declared.handed.numbers.HandedNumber.{HandedNumber}
use Rattle.ledusprig.specs.declared.handed.columns.HandedColumn.{HandedColumn}
use Rattle.ledusprig.specs.declared.handed.columns.HandedBlock.{HandedBlock}
use Rattle.ledusprig.specs.declared.handed.columns.HandedWriting.{HandedWriting}
use Rattle.promises.specs.Numbers.{IsWhole}
use Rattle.promises.specs.Refusals.{Line, line, width, stray, nar, over, no_width, room, size, mark, check, block_width, count, fill, written_width, retired, written_count}

-- ---- how a struct follows the table
-- The first line that holds gives the field `refusal` its number, and Refused is so; where none holds, Then is so.
unfoldable pub FieldFollows : ℕ → List Line → Type 0 → Type 0 → Type 0
FieldFollows refusal [] Refused Then = Then
FieldFollows refusal (line number When ∷ lines) Refused Then = (When × (refusal ≡ number) × Refused) ⊎ ((When → ⊥) × FieldFollows refusal lines Refused Then)

-- where none holds, the field is 0 and the other fields are the answer
abbrev pub Hands : ℕ → List Line → Type 0 → Type 0 → Type 0
Hands refusal lines Zeros Answer = FieldFollows refusal lines Zeros ((refusal ≡ 0) × Answer)

-- none of the lines holds
unfoldable pub NoneHolds : List Line → Type 0
NoneHolds [] = Unit {0}
NoneHolds (line number When ∷ lines) = (When → ⊥) × NoneHolds lines

-- a word
abbrev pub HandsWord : List Line → (ℕ → Type 0) → HandedWord → Type 0
HandsWord lines Is r = Hands r.refusal lines (r.word ≡ 0) (Is r.word)

-- a word with its saying, said by its number
abbrev pub HandsSaid : List Line → (ℕ → Type 0) → (ℕ → Saying → Type 0) → HandedSaying → Type 0
HandsSaid lines Is SaysOf r = Hands r.refusal lines ((r.saying ≡ 0) × (r.word ≡ 0)) (Is r.word × ((s : Saying) × (r.saying ≡ saying_number s) × SaysOf r.word s))

-- no refusal has number 0, so that 0 says "not refused"; they are 1 to 11, and 13
unfoldable pub RefusalNumbersAre1To11Or13 : Type 0
RefusalNumbersAre1To11Or13 = (q : Refusal) → ((1 ≤ number_of q) × (number_of q ≤ 11)) ⊎ (number_of q ≡ 13)

-- ---- the rule
-- a rule's number: 0 rounds, and every other number is strict
unfoldable pub is_strict : ℕ → Bool
is_strict zero = false
is_strict (suc other) = true

-- 4 INEXACT: strict, and nothing has the value
abbrev pub inexact : {A : Type 0} → Bool → (A → Type 0) → Line
inexact {A} strict HasTheValue = line 4 ((strict ≡ true) × ((x : A) → HasTheValue x → ⊥))

-- the word w of n bits for the value with a sign and the size a / b, counted in 2^-307: strict, the word that has it; otherwise the nearest
unfoldable pub IsGiven : Bool → ℕ → Bool → ℕ → ℕ → ℕ → Type 0
IsGiven true n negative a b w = IsExact n negative a b w
IsGiven false n negative a b w = IsRounded n negative a b w

-- ---- what belongs to a width
-- the word that means NaR
unfoldable pub IsNaR : ℕ → ℕ → Type 0
IsNaR n w = IsWord n w × (takum n w ≡ NaR)

-- the word with the greatest value, and the one with the least above zero
unfoldable pub IsLargest : ℕ → ℕ → Type 0
IsLargest n w = (most : ℕ) × HasValue n false most w × ((z w' : ℕ) → HasValue n false z w' → z ≤ most)

unfoldable pub IsSmallest : ℕ → ℕ → Type 0
IsSmallest n w = (least : ℕ) × (0 < least) × HasValue n false least w × ((z w' : ℕ) → 0 < z → HasValue n false z w' → least ≤ z)

-- every whole number from -l to l has a word, and neither l + 1 nor -(l + 1) has one
unfoldable pub CountsUpTo : ℕ → ℕ → Type 0
CountsUpTo n l = ((x : ℤ) → nat_abs x ≤ l → (w : ℕ) × IsWhole n x w) × ((x : ℤ) (w : ℕ) → nat_abs x ≡ l + 1 → IsWhole n x w → ⊥)

-- takum_largest, takum_smallest, takum_nar, takum_limit
unfoldable pub HandsLargest : ℕ → HandedWord → Type 0
HandsLargest n r = HandsWord (width n ∷ []) (IsLargest n) r

unfoldable pub HandsSmallest : ℕ → HandedWord → Type 0
HandsSmallest n r = HandsWord (width n ∷ []) (IsSmallest n) r

unfoldable pub HandsNaR : ℕ → HandedWord → Type 0
HandsNaR n r = HandsWord (width n ∷ []) (IsNaR n) r

unfoldable pub HandsLimit : ℕ → HandedLimit → Type 0
HandsLimit n r = Hands r.refusal (width n ∷ []) (r.limit ≡ 0) (CountsUpTo n r.limit)

-- ---- takum_read
unfoldable pub NoNumber : HandedReading → Type 0
NoNumber r = (r.negative ≡ false) × (r.h ≡ pos 0) × (r.m ≡ 0) × (r.p ≡ 0)

-- the kind is 0 for zero, 1 for NaR, and 2 for a number with its sign and the size m * 2^(h - p)
unfoldable pub IsToldBy : ℕ → ℕ → HandedReading → Type 0
IsToldBy n w r = ((r.kind ≡ 0) × (takum n w ≡ real (pos 0)) × NoNumber r)
    ⊎ ((r.kind ≡ 1) × (takum n w ≡ NaR) × NoNumber r)
    ⊎ ((r.kind ≡ 2) × IsNumber (takum n w) (fraction_bits n w) r.negative r.h r.m r.p)

-- and of whatever kind it is, the word's own fraction bits
unfoldable pub HandsReading : ℕ → ℕ → HandedReading → Type 0
HandsReading n w r = Hands r.refusal (width n ∷ stray n w ∷ []) ((r.kind ≡ 0) × NoNumber r × (r.own ≡ 0)) (IsToldBy n w r × (r.own ≡ own_fraction_bits n w))

-- ---- takum_compare and takum_negate
-- -1, 0 or 1 as the first value is below, equal to or above the second; NaR is below everything and equals itself
unfoldable pub order_of_meanings : Takum → Takum → ℤ
order_of_meanings (real u) (real v) = order u v
order_of_meanings NaR (real v) = negsuc 0
order_of_meanings (real u) NaR = pos 1
order_of_meanings NaR NaR = pos 0

unfoldable pub HandsComparison : ℕ → ℕ → ℕ → HandedComparison → Type 0
HandsComparison n x y r = Hands r.refusal (width n ∷ stray n x ∷ stray n y ∷ []) (r.order ≡ pos 0) (r.order ≡ order_of_meanings (takum n x) (takum n y))

unfoldable pub HandsNegated : ℕ → ℕ → HandedWord → Type 0
HandsNegated n w r = HandsWord (width n ∷ stray n w ∷ []) (λ v. IsWord n v × (takum n v ≡ opposite (takum n w))) r

-- ---- takum_write, takum_write_whole, takum_write_binary64
-- a value with a sign and the size a / b, counted in 2^-307
abbrev pub HandsValue : ℕ → Bool → Bool → ℕ → ℕ → HandedSaying → Type 0
HandsValue n strict negative a b r = HandsSaid (width n ∷ inexact strict (IsExact n negative a b) ∷ []) (IsGiven strict n negative a b) (Says n negative a b) r

-- plus or minus m * 2^k
unfoldable pub HandsWritten : ℕ → Bool → Bool → ℕ → ℤ → HandedSaying → Type 0
HandsWritten n strict negative m k r = HandsValue n strict negative (m * num (k +ℤ pos 307)) (den (k +ℤ pos 307)) r

unfoldable pub HandsWholeWritten : ℕ → Bool → ℤ → HandedSaying → Type 0
HandsWholeWritten n strict x r = HandsValue n strict (is_negative x) (nat_abs x * 2 ^ 307) 1 r

-- NaN and both infinities give NaR, which is exact
unfoldable pub HandsBinary64Written : ℕ → Bool → Float → HandedSaying → Type 0
HandsBinary64Written n strict nan r = HandsSaid (width n ∷ []) (IsNaR n) (λ w s. s ≡ Exact) r
HandsBinary64Written n strict (inf s) r = HandsSaid (width n ∷ []) (IsNaR n) (λ w s. s ≡ Exact) r
HandsBinary64Written n strict (fin s m e) r = HandsValue n strict s (m * up e * 2 ^ 307) (down e) r

-- ---- takum_take_whole and takum_take_binary64
-- the whole number nearest to the word's value; strict, exactly the value
unfoldable pub HandsWhole : ℕ → Bool → ℕ → HandedWhole → Type 0
HandsWhole n strict w r = Hands r.refusal (width n ∷ stray n w ∷ nar n w ∷ over n w ∷ inexact strict (λ x. IsWhole n x w) ∷ []) (r.whole ≡ pos 0)
    (((z : ℤ) × (takum n w ≡ real z) × IsNearestWhole z r.whole) × (strict ≡ true → IsWhole n r.whole w))

-- the nearest binary64 to the word's value, ties to even; where the word is NaR, and only there, `real` is false beside refusal 0, and the number is a NaN
unfoldable pub HandsNumber : ℕ → ℕ → HandedNumber → Type 0
HandsNumber n w r = Hands r.refusal (width n ∷ stray n w ∷ []) ((r.real ≡ false) × (r.number ≡ of_bits binary64 0))
    (((r.real ≡ true) × (z : ℤ) × (takum n w ≡ real z) × NearestBinary64 z r.number) ⊎ ((r.real ≡ false) × (r.number ≡ nan) × (takum n w ≡ NaR)))

-- ---- takum_shortest_width
-- the least width from 2 to 64 at which the number has a word
unfoldable pub HandsShortest : ℤ → HandedWidth → Type 0
HandsShortest x r = Hands r.refusal (no_width x ∷ []) (r.width ≡ 0) (IsShortest x r.width)

-- ---- takum_move and takum_move_column
-- the lines of a word in a move, after those of the widths
unfoldable pub word_lines : ℕ → ℕ → Bool → ℕ → List Line
word_lines n n' strict w = stray n w ∷ inexact strict (λ w'. IsWord n' w' × (takum n' w' ≡ takum n w)) ∷ []

-- the word w of n bits for what a word of another width means
unfoldable pub IsMovedTo : ℕ → Bool → Takum → ℕ → Type 0
IsMovedTo n strict (real z) w = IsGiven strict n (is_negative z) (nat_abs z) 1 w
IsMovedTo n strict NaR w = IsNaR n w

unfoldable pub HandsMoved : ℕ → ℕ → Bool → ℕ → HandedSaying → Type 0
HandsMoved n n' strict w r = HandsSaid (width n ∷ width n' ∷ word_lines n n' strict w) (IsMovedTo n' strict (takum n w)) (SaysMoved n' (takum n w)) r

module _ (n n' : ℕ) (strict : Bool) (words before after : List ℕ) (r : HandedColumn) where
  -- the first results are the moved words, in order, and the others stay as they were; as many are exact as mean what their words mean
  pub record MovedAll : Type 0 where
    pub refusal : r.refusal ≡ 0
    pub position : r.position ≡ 0
    pub moved : r.moved ≡ length words
    pub exact : Counts (KeepsTheMeaning n n' words after) (length words) r.exact
    pub none : (i : ℕ) → i < length words → NoneHolds (word_lines n n' strict (get_or words i 0))
    pub results : (i : ℕ) → i < length words → IsMovedTo n' strict (takum n (get_or words i 0)) (get_or after i 0)
    pub others : (i : ℕ) → length words ≤ i → get_or after i 0 ≡ get_or before i 0
    pub as_long : length after ≡ length before

  -- the word at the position is refused by its lines, none before it is, and nothing was written
  pub record RefusedAtPosition : Type 0 where
    pub inside : r.position < length words
    pub lowest : (i : ℕ) → i < r.position → NoneHolds (word_lines n n' strict (get_or words i 0))
    pub is : FieldFollows r.refusal (word_lines n n' strict (get_or words r.position 0)) ((r.moved ≡ 0) × (r.exact ≡ 0) × (after ≡ before)) ⊥

  unfoldable pub HandsColumn : Type 0
  HandsColumn = FieldFollows r.refusal (width n ∷ width n' ∷ room (length words) (length before) ∷ []) ((r.position ≡ 0) × (r.moved ≡ 0) × (r.exact ≡ 0) × (after ≡ before)) (MovedAll ⊎ RefusedAtPosition)

-- ---- takum_read_block
unfoldable pub HandsBlock : List ℕ → List ℕ → List ℕ → HandedBlock → Type 0
HandsBlock b before after r = Hands r.refusal (size b ∷ mark b ∷ check b ∷ block_width b ∷ count b ∷ fill b ∷ room (block.count b) (length before) ∷ [])
    ((r.width ≡ 0) × (r.number ≡ 0) × (r.count ≡ 0) × (after ≡ before))
    ((r.width ≡ block.width b) × (r.number ≡ block.block_number b) × (r.count ≡ block.count b) × (after ≡ block.words b ++ drop (block.count b) before))

-- ---- takum_write_block
-- no word is stray, and the buffer is the block that has this content
pub record WrittenAll (n number : ℕ) (words after : List ℕ) (r : HandedWriting) : Type 0 where
  pub refusal : r.refusal ≡ 0
  pub position : r.position ≡ 0
  pub none : (i : ℕ) → i < length words → NoneHolds (stray n (get_or words i 0) ∷ [])
  pub block : IsBlockOf n number words after

-- the word at the position is stray, none before it is, and nothing was written
pub record StrayAtPosition (n : ℕ) (words before after : List ℕ) (r : HandedWriting) : Type 0 where
  pub inside : r.position < length words
  pub lowest : (i : ℕ) → i < r.position → NoneHolds (stray n (get_or words i 0) ∷ [])
  pub is : FieldFollows r.refusal (stray n (get_or words r.position 0) ∷ []) (after ≡ before) ⊥

unfoldable pub HandsBlockWritten : ℕ → ℕ → List ℕ → List ℕ → List ℕ → HandedWriting → Type 0
HandsBlockWritten n number words before after r = FieldFollows r.refusal (written_width n ∷ retired n ∷ written_count n (length words) ∷ size before ∷ []) ((r.position ≡ 0) × (after ≡ before)) (WrittenAll n number words after r ⊎ StrayAtPosition n words before after r)

-- ---- lent memory and positions
-- where the refusal isn't 0, lent memory is as it came
unfoldable pub RefusedCallsWriteNothing : Type 0
RefusedCallsWriteNothing = ((n n' : ℕ) (strict : Bool) (words before after : List ℕ) (r : HandedColumn) → HandsColumn n n' strict words before after r → (r.refusal ≡ 0 → ⊥) → after ≡ before)
    × ((b before after : List ℕ) (r : HandedBlock) → HandsBlock b before after r → (r.refusal ≡ 0 → ⊥) → after ≡ before)
    × ((n number : ℕ) (words before after : List ℕ) (r : HandedWriting) → HandsBlockWritten n number words before after r → (r.refusal ≡ 0 → ⊥) → after ≡ before)

-- a position that isn't 0 comes only with a word's refusal, STRAY or INEXACT, and is inside the column
unfoldable pub APositionComesOnlyWithAWordsRefusal : Type 0
APositionComesOnlyWithAWordsRefusal = (n n' : ℕ) (strict : Bool) (words before after : List ℕ) (r : HandedColumn) → HandsColumn n n' strict words before after r → (r.position ≡ 0 → ⊥) → ((r.refusal ≡ 2) ⊎ (r.refusal ≡ 4)) × (r.position < length words)

-- and that of a written block only with STRAY
unfoldable pub AWrittenBlocksPositionComesOnlyWithStray : Type 0
AWrittenBlocksPositionComesOnlyWithStray = (n number : ℕ) (words before after : List ℕ) (r : HandedWriting) → HandsBlockWritten n number words before after r → (r.position ≡ 0 → ⊥) → (r.refusal ≡ 2) × (r.position < length words)
