-- Demand 1: the refusal numbers of paper 01's table and those of paper 02, each given exactly when its line says. A call tries the lines that concern it
-- in the paper's order, and each call's lines stand below in that order.
use Rattle.std.specs.Prelude.{◌≡◌, Bool, List, [], ◌∷◌, ◌⊎◌, ℕ, ◌+◌, ◌*◌, ◌/◌, ◌^◌, ◌≤◌, ◌<◌, Float, ℤ, ⊤, pos, negsuc, ◌+ℤ◌, ◌-ℤ◌, length, get_or, Ok, Err}
use Rattle.std.specs.declared.cmp.Ordering.{Ordering}
use Rattle.std.specs.Float.{nan, inf, fin}
use Rattle.std.specs.Float.Ieee.{up, down}
use Rattle.bounds.specs.declared.answer.Written.{Written}
use Rattle.bounds.specs.declared.refusal.ListRefusal.{ListRefusal}
use Rattle.bounds.specs.declared.refusal.Refusal.{Refusal}
use Rattle.bounds.specs.declared.width.Width.{Width}
use Rattle.bounds.specs.Refusals.{Answer, ListAnswer, Verdict, width_test, word_test, room_test, IsWord}
use Rattle.bounds.specs.Widths.{Makes, GivesWord, GivesLimit}
use Rattle.word.specs.declared.reading.Reading.{Reading}
use Rattle.sizes.specs.declared.size.Size.{Size}
use Rattle.sizes.specs.declared.size.WordSize.{WordSize}
use Rattle.word.specs.Takum.{real, NaR, takum}
use Rattle.word.specs.Reads.{num, den, Reads}
use Rattle.sizes.specs.Sizes.{ReadsSize}
use Rattle.order.specs.Orders.{Compares, Negates}
use Rattle.nearest.specs.Offers.{FindsNearest}
use Rattle.round.specs.declared.value.LongValue.{LongValue}
use Rattle.round.specs.declared.value.Rule.{Rule}
use Rattle.write.specs.declared.value.Value.{Value}
use Rattle.round.specs.Writes.{IsExact, WritesShort, WritesSize, WritesLong}
use Rattle.write.specs.Writes.{Writes, Moves}
use Rattle.whole.specs.declared.taking.Taking.{Taking}
use Rattle.whole.specs.Wholes.{IsNearestWhole, WritesWhole, TakesWhole}
use Rattle.whole.specs.Shortest.{GivesShortest}
use Rattle.binary64.specs.declared.taking.Binary64.{Binary64}
use Rattle.binary64.specs.Takes.{TakesBinary64}
use Rattle.binary64.specs.Writes.{WritesBinary64}
use Rattle.column.specs.declared.moving.MovedColumn.{MovedColumn}
use Rattle.column.specs.Columns.{MovesColumn}
use Rattle.sheet.specs.declared.block.Block.{Block}
use Rattle.sheet.specs.Layout as block
use Rattle.sheet.specs.Sums.{sum_a, sum_b}
use Rattle.sheet.specs.Reads.{ReadsBlock}
use Rattle.sheet.specs.Writes.{WritesBlock}
use Rattle.promises.specs.Demands.{RefusedAs, ComesBack}
use Rattle.promises.specs.Writing.{numerator, denominator, ComesHome}
use Rattle.promises.specs.Moving.{OutAndBack, MovesNegated, ComparesMoved}
use Rattle.promises.specs.Hub.{long_numerator, long_denominator}
use Rattle.promises.specs.Numbers.{IsWhole}

-- ---- the lines of the table: a number, and when it is given
pub data Line : Type 1 where
  line : ℕ → Type 0 → Line

-- 1 WIDTH: a width isn't 2 to 64
abbrev pub width : ℕ → Line
width n = line 1 ((n < 2) ⊎ (64 < n))

-- 2 STRAY: a word has a bit set at or above its width
abbrev pub stray : ℕ → ℕ → Line
stray n w = line 2 (2 ^ n ≤ w)

-- 3 NAR: a whole number is wanted of NaR
abbrev pub nar : ℕ → ℕ → Line
nar n w = line 3 (takum n w ≡ NaR)

-- 4 INEXACT: strict, and no word has the value
abbrev pub no_word : Rule → (ℕ → Type 0) → Line
no_word rule HasTheValue = line 4 ((rule ≡ Rule.Strict) × ((w : ℕ) → HasTheValue w → ⊥))

-- 4 INEXACT: strict, and no whole number has the value
abbrev pub no_whole : Taking → ℕ → ℕ → Line
no_whole rule n w = line 4 ((rule ≡ Taking.Strict) × ((x : ℤ) → IsWhole n x w → ⊥))

-- 4 INEXACT: no width from 2 to 64 has a word with the value
abbrev pub no_width : ℤ → Line
no_width x = line 4 ((n w : ℕ) → 2 ≤ n → n ≤ 64 → IsWhole n x w → ⊥)

-- below -2^63, or from 2^63 up
unfoldable pub OutsideSigned64 : ℤ → Type 0
OutsideSigned64 (pos i) = 2 ^ 63 ≤ i
OutsideSigned64 (negsuc i) = 2 ^ 63 ≤ i

-- 5 OVER: the whole number falls outside signed 64 bits
abbrev pub over : ℕ → ℕ → Line
over n w = line 5 ((z x : ℤ) × (takum n w ≡ real z) × IsNearestWhole z x × OutsideSigned64 x)

-- 6 ROOM: the result slice is too short
abbrev pub room : ℕ → ℕ → Line
room count places = line 6 (places < count)

-- 7 SIZE: a block isn't 512 bytes
abbrev pub size : List ℕ → Line
size b = line 7 (length b ≡ 512 → ⊥)

-- 8 MARK: byte 0 isn't 0x54
abbrev pub mark : List ℕ → Line
mark b = line 8 (block.mark b ≡ 0x54 → ⊥)

-- 9 CHECK: A or B differs
abbrev pub check : List ℕ → Line
check b = line 9 ((sum_a (block.numbers b) ≡ block.A b → ⊥) ⊎ (sum_b (block.numbers b) ≡ block.B b → ⊥))

-- 1 WIDTH: a block's width isn't one of its four
abbrev pub block_width : List ℕ → Line
block_width b = line 1 ((block.width b ≡ 8 → ⊥) × (block.width b ≡ 16 → ⊥) × (block.width b ≡ 32 → ⊥) × (block.width b ≡ 64 → ⊥))

-- 10 COUNT: more words than the width has room for, which is 496, 248, 124 or 62
abbrev pub count : List ℕ → Line
count b = line 10 (496 / (block.width b / 8) < block.count b)

-- 11 FILL: an unused word byte isn't zero
abbrev pub fill : List ℕ → Line
fill b = line 11 ((i : ℕ) × (8 + block.width b / 8 * block.count b ≤ i) × (i < 504) × (get_or b i 0 ≡ 0 → ⊥))

-- 1 WIDTH, of a block that is to be written: its width isn't one of the four
abbrev pub written_width : ℕ → Line
written_width n = line 1 ((n ≡ 8 → ⊥) × (n ≡ 16 → ⊥) × (n ≡ 32 → ⊥) × (n ≡ 64 → ⊥))

-- 13 RETIRED, of a block that is to be written (paper 02, Wish 10): its width is 8
abbrev pub retired : ℕ → Line
retired n = line 13 (n ≡ 8)

-- 10 COUNT, of a block that is to be written: more words than its width has room for
abbrev pub written_count : ℕ → ℕ → Line
written_count n count = line 10 (496 / (n / 8) < count)

-- ---- how an answer follows them
-- The first line that holds gives its number; where none holds, Then is so.
unfoldable pub FollowsUpTo : {A : Type 0} → (Refusal → A) → A → List Line → Type 0 → Type 0
FollowsUpTo refused a [] Then = Then
FollowsUpTo {A} refused a (line number When ∷ lines) Then = (When × RefusedAs A refused number a) ⊎ ((When → ⊥) × FollowsUpTo refused a lines Then)

-- and where none holds, the answer is no refusal
unfoldable pub Follows : {A : Type 0} → (Refusal → A) → A → List Line → Type 0
Follows refused a lines = FollowsUpTo refused a lines ((q : Refusal) → a ≡ refused q → ⊥)

-- ---- the calls and their lines
-- those of m * 2^k with its sign, written through the hub
unfoldable pub short_lines : ℕ → Rule → Bool → ℕ → ℤ → List Line
short_lines n rule negative m k = width n ∷ no_word rule (IsExact n negative (m * num (k +ℤ pos 307)) (den (k +ℤ pos 307))) ∷ []

-- the lines of a word in a move, after those of the widths
unfoldable pub move_lines : ℕ → ℕ → Rule → ℕ → List Line
move_lines n n' rule w = stray n w ∷ no_word rule (λ w'. IsWord n' w' × (takum n' w' ≡ takum n w)) ∷ []

-- the word w of n bits has the value of the binary64 number x; that of NaN and both infinities is NaR
unfoldable pub IsBinary64 : ℕ → Float → ℕ → Type 0
IsBinary64 n nan w = IsWord n w × (takum n w ≡ NaR)
IsBinary64 n (inf s) w = IsWord n w × (takum n w ≡ NaR)
IsBinary64 n (fin s m e) w = IsExact n s (m * up e * 2 ^ 307) (down e) w

-- a chain of strict moves has the lines of its first move and, where none of them holds, those of the rest of the chain
unfoldable pub ChainFollows : ℕ → ℕ → ℕ → List ℕ → Answer ℕ → Type 0
ChainFollows home n w [] a = Follows Err a (width n ∷ width home ∷ move_lines n home Rule.Strict w)
ChainFollows home n w (n' ∷ ns) a = FollowsUpTo Err a (width n ∷ width n' ∷ move_lines n n' Rule.Strict w) ((w' : ℕ) × Moves n n' Rule.Strict w (Ok w') × ChainFollows home n' w' ns a)

-- each call with its lines
pub record RefusalsFollowTheTable : Type 0 where
  pub test : (n : ℕ) (a : Verdict) → a ≡ width_test n → Follows Err a (width n ∷ [])
  pub test_word : (n w : ℕ) (a : Verdict) → a ≡ word_test n w → Follows Err a (width n ∷ stray n w ∷ [])
  pub test_room : (count places : ℕ) (a : Verdict) → a ≡ room_test count places → Follows Err a (room count places ∷ [])
  pub new : (n : ℕ) (a : Answer Width) → Makes n a → Follows Err a (width n ∷ [])
  -- largest, smallest and NaR word
  pub words : (f : ℕ → ℕ) (n : ℕ) (a : Answer ℕ) → GivesWord f n a → Follows Err a (width n ∷ [])
  pub limit : (n : ℕ) (a : Answer ℕ) → GivesLimit n a → Follows Err a (width n ∷ [])
  pub read : (n w : ℕ) (a : Answer Reading) → Reads n w a → Follows Err a (width n ∷ stray n w ∷ [])
  pub read_size : (n w : ℕ) (a : Answer WordSize) → ReadsSize n w a → Follows Err a (width n ∷ stray n w ∷ [])
  pub compare : (n x y : ℕ) (a : Answer Ordering) → Compares n x y a → Follows Err a (width n ∷ stray n x ∷ stray n y ∷ [])
  pub negate : (n w : ℕ) (a : Answer ℕ) → Negates n w a → Follows Err a (width n ∷ stray n w ∷ [])
  pub negate_twice : (n w : ℕ) (a : Answer ℕ) → ComesBack n w a → Follows Err a (width n ∷ stray n w ∷ [])
  pub nearest : (n : ℕ) (negative : Bool) (h : ℤ) (m below : ℕ) (a : Answer ℕ) → FindsNearest n negative h m below a → Follows Err a (width n ∷ [])
  -- through the hub
  pub write_short : (n : ℕ) (rule : Rule) (negative : Bool) (m : ℕ) (k : ℤ) (a : Answer ℕ) → WritesShort n rule negative m k a → Follows Err a (short_lines n rule negative m k)
  pub write_size : (n : ℕ) (rule : Rule) (s : Size) (a : Answer ℕ) → WritesSize n rule s a → Follows Err a (short_lines n rule s.negative s.m (s.h -ℤ pos 63))
  pub write_long : (n : ℕ) (rule : Rule) (v : LongValue) (a : Answer ℕ) → WritesLong n rule v a → Follows Err a (width n ∷ no_word rule (IsExact n v.negative (long_numerator v) (long_denominator v)) ∷ [])
  pub write : (n : ℕ) (rule : Rule) (v : Value) (a : Answer ℕ) → Writes n rule v a → Follows Err a (width n ∷ no_word rule (IsExact n v.negative (numerator v) (denominator v)) ∷ [])
  pub write_whole : (n : ℕ) (rule : Rule) (x : ℤ) (a : Answer ℕ) → WritesWhole n rule x a → Follows Err a (width n ∷ no_word rule (IsWhole n x) ∷ [])
  pub take_whole : (n : ℕ) (rule : Taking) (w : ℕ) (a : Answer ℤ) → TakesWhole n rule w a → Follows Err a (width n ∷ stray n w ∷ nar n w ∷ over n w ∷ no_whole rule n w ∷ [])
  pub shortest_width : (x : ℤ) (a : Answer Width) → GivesShortest x a → Follows Err a (no_width x ∷ [])
  pub write_binary64 : (n : ℕ) (rule : Rule) (x : Float) (a : Answer ℕ) → WritesBinary64 n rule x a → Follows Err a (width n ∷ no_word rule (IsBinary64 n x) ∷ [])
  pub take_binary64 : (n w : ℕ) (a : Binary64) → TakesBinary64 n w a → Follows Binary64.Refused a (width n ∷ stray n w ∷ [])
  -- the source's width, then the target's
  pub move_word : (n n' : ℕ) (rule : Rule) (w : ℕ) (a : Answer ℕ) → Moves n n' rule w a → Follows Err a (width n ∷ width n' ∷ move_lines n n' rule w)
  pub come_home : (n w : ℕ) (ns : List ℕ) (a : Answer ℕ) → ComesHome n w ns a → ChainFollows n n w ns a
  -- The laws of moving, as functions (paper 02, Wish 14). Each call is made only where the one before it gave a word, so a width can come after STRAY.
  pub out_and_back : (a b c w : ℕ) (r : Answer ℕ) → OutAndBack a b c w r → Follows Err r (width a ∷ width b ∷ stray a w ∷ width c ∷ [])
  pub move_negated : (a b w : ℕ) (r : Answer Written) → MovesNegated a b w r → Follows Err r (width a ∷ stray a w ∷ width b ∷ [])
  pub compare_moved : (a b x y : ℕ) (r : Answer Ordering) → ComparesMoved a b x y r → Follows Err r (width a ∷ width b ∷ stray a x ∷ stray a y ∷ [])
  pub move_column : (n n' : ℕ) (rule : Rule) (words : List ℕ) (places : ℕ) (a : ListAnswer MovedColumn) → MovesColumn n n' rule words places a → Follows (λ q. Err (ListRefusal.Whole q)) a (width n ∷ width n' ∷ room (length words) places ∷ [])
  -- and then each position that is reached, because the answer is no refusal of the column, nor one at a position before it
  pub position : (n n' : ℕ) (rule : Rule) (words : List ℕ) (places : ℕ) (a : ListAnswer MovedColumn) → MovesColumn n n' rule words places a → ((q : Refusal) → a ≡ Err (ListRefusal.Whole q) → ⊥)
      → (i : ℕ) → i < length words → ((j : ℕ) (q : Refusal) → j < i → a ≡ Err (ListRefusal.At j q) → ⊥) → Follows (λ q. Err (ListRefusal.At i q)) a (move_lines n n' rule (get_or words i 0))
  -- and no refusal has a position behind the column's end
  pub inside : (n n' : ℕ) (rule : Rule) (words : List ℕ) (places : ℕ) (a : ListAnswer MovedColumn) → MovesColumn n n' rule words places a → (i : ℕ) (q : Refusal) → a ≡ Err (ListRefusal.At i q) → i < length words
  pub read_block : (b : List ℕ) (places : ℕ) (a : Answer Block) → ReadsBlock b places a → Follows Err a (size b ∷ mark b ∷ check b ∷ block_width b ∷ count b ∷ fill b ∷ room (block.count b) places ∷ [])
  -- SIZE is asked of the buffer
  pub write_block : (n : ℕ) (words buffer : List ℕ) (a : ListAnswer ⊤) → WritesBlock n words buffer a → Follows (λ q. Err (ListRefusal.Whole q)) a (written_width n ∷ retired n ∷ written_count n (length words) ∷ size buffer ∷ [])
  -- and then each position that is reached, as in a column
  pub write_position : (n : ℕ) (words buffer : List ℕ) (a : ListAnswer ⊤) → WritesBlock n words buffer a → ((q : Refusal) → a ≡ Err (ListRefusal.Whole q) → ⊥)
      → (i : ℕ) → i < length words → ((j : ℕ) (q : Refusal) → j < i → a ≡ Err (ListRefusal.At j q) → ⊥) → Follows (λ q. Err (ListRefusal.At i q)) a (stray n (get_or words i 0) ∷ [])
  pub write_inside : (n : ℕ) (words buffer : List ℕ) (a : ListAnswer ⊤) → WritesBlock n words buffer a → (i : ℕ) (q : Refusal) → a ≡ Err (ListRefusal.At i q) → i < length words
