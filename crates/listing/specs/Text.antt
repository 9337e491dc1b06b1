-- The text of a line (paper 01, "The lister"; its whole number by paper 02, Wish 2, its last field by Wish 3, ` old` by Wish 10), as a list of bytes.
use Rattle.std.specs.Prelude.{◌≡◌, cond, List, [], ◌∷◌, ◌++◌, ℕ, suc, ◌/◌, eqb, ℤ, pos, negsuc, Ok, Err}
use Rattle.io.specs.Digits.{last_digits, IsDigitCount}
use Rattle.bounds.specs.Refusals.{Answer, number_of}
use Rattle.bounds.specs.declared.refusal.Refusal.{Refusal}
use Rattle.word.specs.declared.reading.Reading.{Reading}
use Rattle.word.specs.Reads.{Reads}
use Rattle.whole.specs.declared.taking.Taking.{Taking}
use Rattle.whole.specs.Wholes.{TakesWhole}
use Rattle.sheet.specs.Writes.{is_retired}

-- the bytes of `-`, of a space and of the end of a line
unfoldable pub minus : ℕ
minus = 0x2d

unfoldable pub space : ℕ
space = 0x20

unfoldable pub newline : ℕ
newline = 0x0a

-- a whole number in decimal digits, no more than it needs
unfoldable pub IsDecimal : ℕ → List ℕ → Type 0
IsDecimal n t = (k : ℕ) × IsDigitCount 10 1 n k × (t ≡ last_digits 10 k n)

-- with a minus sign where negative
unfoldable pub IsSigned : ℤ → List ℕ → Type 0
IsSigned (pos n) t = IsDecimal n t
IsSigned (negsuc n) t = (d : List ℕ) × IsDecimal (suc n) d × (t ≡ minus ∷ d)

-- a word of n bits in lower-case hex, with all its digits
unfoldable pub hex_of : ℕ → ℕ → List ℕ
hex_of n w = last_digits 16 (n / 4) w

-- `nar`, and `over` for refusal 5
unfoldable pub nar : List ℕ
nar = 0x6e ∷ 0x61 ∷ 0x72 ∷ []

unfoldable pub over : List ℕ
over = 0x6f ∷ 0x76 ∷ 0x65 ∷ 0x72 ∷ []

-- what stands for a refusal; a word of a block is refused only as NAR or OVER (`refused_only_nar_or_over` in proofs/Refusals.antt)
unfoldable pub refusal_text : Refusal → List ℕ
refusal_text q = cond (eqb (number_of q) 5) over nar

-- the nearest whole number, or the word that stands for its refusal
unfoldable pub IsShown : Answer ℤ → List ℕ → Type 0
IsShown (Ok x) t = IsSigned x t
IsShown (Err q) t = t ≡ refusal_text q

-- a number and the space after it
unfoldable pub IsField : ℕ → List ℕ → Type 0
IsField n t = (d : List ℕ) × IsDecimal n d × (t ≡ d ++ (space ∷ []))

-- a space and the word's whole number
unfoldable pub IsWholeText : ℕ → ℕ → List ℕ → Type 0
IsWholeText n w t = (a : Answer ℤ) × (d : List ℕ) × TakesWhole n Taking.Nearest w a × IsShown a d × (t ≡ (space ∷ []) ++ d)

-- how fine a word's reading is; a word of a block is always read, and 0 stands for a refusal
unfoldable pub own_of : Answer Reading → ℕ
own_of (Ok r) = r.own
own_of (Err q) = 0

-- a space and how fine the word's reading is
unfoldable pub IsOwnText : ℕ → ℕ → List ℕ → Type 0
IsOwnText n w t = (a : Answer Reading) × (d : List ℕ) × Reads n w a × IsDecimal (own_of a) d × (t ≡ (space ∷ []) ++ d)

-- ` old`, which ends the lines of a block whose width is no longer written
unfoldable pub old : List ℕ
old = space ∷ 0x6f ∷ 0x6c ∷ 0x64 ∷ []

unfoldable pub old_text : ℕ → List ℕ
old_text n = cond (is_retired n) old []

-- a line: block number, position, word, whole number and own fraction bits, one space between, and ` old` where the block is old
unfoldable pub IsLine : ℕ → ℕ → ℕ → ℕ → List ℕ → Type 0
IsLine number position n w t = (b p x o : List ℕ) × IsField number b × IsField position p × IsWholeText n w x × IsOwnText n w o × (t ≡ b ++ p ++ hex_of n w ++ x ++ o ++ old_text n ++ (newline ∷ []))

-- the lines of words, the first of them at a position
unfoldable pub AreLines : ℕ → ℕ → ℕ → List ℕ → List ℕ → Type 0
AreLines number n position [] t = t ≡ []
AreLines number n position (w ∷ ws) t = (l u : List ℕ) × IsLine number position n w l × AreLines number n (suc position) ws u × (t ≡ l ++ u)

-- `block I refused N`
unfoldable pub block_text : List ℕ
block_text = 0x62 ∷ 0x6c ∷ 0x6f ∷ 0x63 ∷ 0x6b ∷ space ∷ []

unfoldable pub refused_text : List ℕ
refused_text = space ∷ 0x72 ∷ 0x65 ∷ 0x66 ∷ 0x75 ∷ 0x73 ∷ 0x65 ∷ 0x64 ∷ space ∷ []

unfoldable pub IsRefusedLine : ℕ → Refusal → List ℕ → Type 0
IsRefusedLine i q t = (d e : List ℕ) × IsDecimal i d × IsDecimal (number_of q) e × (t ≡ block_text ++ d ++ refused_text ++ e ++ (newline ∷ []))
