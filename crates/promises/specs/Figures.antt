-- The figures of paper 01 that are marked P, all of them, and those of paper 02 that a proved call answers, as one table under one claim.
use Rattle.std.specs.Prelude.{◌≡◌, true, false, List, [], ◌∷◌, ℕ, ◌+◌, ◌-◌, ◌*◌, ◌^◌, ℤ, ⊤, pos, neg_ℤ, Ok, Err}
use Rattle.bounds.specs.declared.answer.Written.{Written}
use Rattle.bounds.specs.declared.saying.Saying.{Saying}
use Rattle.bounds.specs.declared.saying.Saying.TheVariants.{Exact, Below, Above, PastTheEnd}
use Rattle.bounds.specs.declared.refusal.ListRefusal.{ListRefusal}
use Rattle.bounds.specs.declared.width.Width.{Width}
use Rattle.bounds.specs.Refusals.{Answer, ListAnswer, IsWord}
use Rattle.bounds.specs.Sayings.{written}
use Rattle.word.specs.declared.reading.Reading.{Reading}
use Rattle.word.specs.Takum.{Takum, real, NaR, fraction_bits, own_fraction_bits}
use Rattle.word.specs.Reads.{IsSize, signed_size, IsReading, Reads}
use Rattle.round.specs.declared.value.Rule.{Rule}
use Rattle.write.specs.declared.value.Value.{Value}
use Rattle.write.specs.Writes.{Writes}
use Rattle.write.specs.Sayings.{WritesAndSays, MovesAndSays}
use Rattle.whole.specs.declared.taking.Taking.{Taking}
use Rattle.whole.specs.Wholes.{WritesWhole, TakesWhole}
use Rattle.whole.specs.Sayings.{WritesWholeAndSays}
use Rattle.whole.specs.Shortest.{GivesShortest}
use Rattle.sheet.specs.Writes.{WritesBlock}
use Rattle.promises.specs.Demands.{RefusedAs}
use Rattle.promises.specs.Shortest.{bits}

-- -k, for exponents and numbers below 0
unfoldable pub below : ℕ → ℤ
below k = neg_ℤ (pos k)

-- what a word is said to be: plus or minus M * 2^k, or NaR
pub data Said : Type 0 where
  plus : ℕ → ℤ → Said
  minus : ℕ → ℤ → Said
  nar : Said

-- t is that
unfoldable pub IsSaid : Said → Takum → Type 0
IsSaid (plus M k) t = (z : ℕ) × IsSize M k z × (t ≡ real (signed_size false z))
IsSaid (minus M k) t = (z : ℕ) × IsSize M k z × (t ≡ real (signed_size true z))
IsSaid nar t = t ≡ NaR

-- reads n w x: the word w of n bits is x; has_own n w k: it has k fraction bits of its own; writes n rule M w: the value M, written in n bits by the rule,
-- is the word w; refuses n rule M number: it is the refusal with this number; writes_whole and refuses_whole: the same of M as a whole number, which is the
-- call a tally goes through; takes n rule w x: the word w of n bits goes out as the whole number x by the rule; says n v w s: the value v, written rounded
-- in n bits, is the word w and this is said of it; says_whole n x w s: the same of x as a whole number; needs x n: the whole number x needs n bits;
-- needs_more x number: it has a word at no width, and is refused with this number; refuses_blocks n number: a block that is to be written with n bits is
-- refused with this number, whatever words and buffer there are; moves n w n' w' s: the word w of n bits, moved rounded to n' bits, is the word w' and this
-- is said of it
pub data Figure : Type 0 where
  reads : ℕ → ℕ → Said → Figure
  has_own : ℕ → ℕ → ℕ → Figure
  writes : ℕ → Rule → ℕ → ℕ → Figure
  refuses : ℕ → Rule → ℕ → ℕ → Figure
  writes_whole : ℕ → Rule → ℕ → ℕ → Figure
  refuses_whole : ℕ → Rule → ℕ → ℕ → Figure
  takes : ℕ → Taking → ℕ → ℤ → Figure
  says : ℕ → Value → ℕ → Saying → Figure
  says_whole : ℕ → ℤ → ℕ → Saying → Figure
  needs : ℤ → ℕ → Figure
  needs_more : ℤ → ℕ → Figure
  refuses_blocks : ℕ → ℕ → Figure
  moves : ℕ → ℕ → ℕ → ℕ → Saying → Figure

unfoldable pub whole : ℕ → Value
whole M = record { negative = false; m = M; k = pos 0 }

-- plus and minus M * 2^k, as they are offered for writing
unfoldable pub positive : ℕ → ℤ → Value
positive M k = record { negative = false; m = M; k = k }

unfoldable pub negative : ℕ → ℤ → Value
negative M k = record { negative = true; m = M; k = k }

unfoldable pub figures : List Figure
figures =
    reads 16 0x4000 (plus 1 (pos 0))
    ∷ reads 16 0xC000 (minus 1 (pos 0))
    ∷ reads 16 0x4400 (plus 3 (below 1))
    ∷ reads 16 0xBC00 (minus 3 (below 1))
    ∷ reads 16 0x3800 (plus 1 (below 1))
    ∷ reads 16 0x0001 (plus 17 (below 259))
    ∷ reads 16 0x7FFF (plus 31 (pos 250))
    ∷ reads 16 0x8000 nar
    ∷ reads 16 0x5A00 (plus 512 (pos 0))
    ∷ reads 16 0x5B00 (plus 1024 (pos 0))
    ∷ reads 8 0x7F (plus 1 (pos 239))
    ∷ reads 8 0x01 (plus 1 (below 239))
    ∷ writes 16 Rule.Rounded 512 0x5A00
    ∷ writes 16 Rule.Strict 512 0x5A00
    ∷ writes 16 Rule.Rounded 513 0x5A00
    ∷ refuses 16 Rule.Strict 513 4
    ∷ writes 16 Rule.Rounded 1023 0x5B00
    ∷ writes_whole 16 Rule.Rounded 512 0x5A00
    ∷ writes_whole 16 Rule.Strict 512 0x5A00
    ∷ writes_whole 16 Rule.Rounded 513 0x5A00
    ∷ refuses_whole 16 Rule.Strict 513 4
    ∷ writes_whole 16 Rule.Rounded 1023 0x5B00
    -- paper 02, Wish 2: 2.5, 3.5, -2.5, 0.5, -0.5, 1.5 and -1.5 by nearest
    ∷ reads 16 0x4900 (plus 5 (below 1))
    ∷ takes 16 Taking.Nearest 0x4900 (pos 2)
    ∷ reads 16 0x4B00 (plus 7 (below 1))
    ∷ takes 16 Taking.Nearest 0x4B00 (pos 4)
    ∷ reads 16 0xB700 (minus 5 (below 1))
    ∷ takes 16 Taking.Nearest 0xB700 (below 2)
    ∷ takes 16 Taking.Nearest 0x3800 (pos 0)
    ∷ reads 16 0xC800 (minus 1 (below 1))
    ∷ takes 16 Taking.Nearest 0xC800 (pos 0)
    ∷ takes 16 Taking.Nearest 0x4400 (pos 2)
    ∷ takes 16 Taking.Nearest 0xBC00 (below 2)
    -- paper 02, Wish 3: what the lister prints of 512 and NaR at 16 bits; the largest word at 8 and each word at 2; 1 at 64
    ∷ has_own 16 0x5A00 8
    ∷ has_own 16 0x8000 0
    ∷ has_own 8 0x7F 0
    ∷ has_own 2 0 0
    ∷ has_own 2 1 0
    ∷ has_own 2 2 0
    ∷ has_own 2 3 0
    ∷ reads 64 0x4000000000000000 (plus 1 (pos 0))
    ∷ has_own 64 0x4000000000000000 59
    -- 1 at 8 and, moved, at 16 bits is one value, more finely said; the largest word at 8, moved to 12, is wider and no finer
    ∷ reads 8 0x40 (plus 1 (pos 0))
    ∷ has_own 8 0x40 3
    ∷ has_own 16 0x4000 11
    ∷ reads 12 0x7F0 (plus 1 (pos 239))
    ∷ has_own 12 0x7F0 0
    -- a word and its negation can differ: 2 and -2
    ∷ reads 16 0x4800 (plus 2 (pos 0))
    ∷ has_own 16 0x4800 10
    ∷ reads 16 0xB800 (minus 2 (pos 0))
    ∷ has_own 16 0xB800 11
    -- paper 02, Wish 4: 512 and a rounded 513; 515 is midway between 514 and 516; below and above are signed
    ∷ says 16 (positive 512 (pos 0)) 0x5A00 Exact
    ∷ says 16 (positive 513 (pos 0)) 0x5A00 Below
    ∷ says 16 (positive 515 (pos 0)) 0x5A02 Above
    ∷ says 16 (negative 513 (pos 0)) 0xA600 Above
    ∷ says_whole 16 (pos 512) 0x5A00 Exact
    ∷ says_whole 16 (pos 513) 0x5A00 Below
    ∷ says_whole 16 (pos 515) 0x5A02 Above
    ∷ says_whole 16 (below 513) 0xA600 Above
    -- beyond the largest word and short of the smallest, and these themselves
    ∷ says 16 (positive 1 (pos 300)) 0x7FFF PastTheEnd
    ∷ says 16 (negative 1 (pos 300)) 0x8001 PastTheEnd
    ∷ says 16 (positive 1 (below 300)) 0x0001 PastTheEnd
    ∷ says 16 (negative 1 (below 300)) 0xFFFF PastTheEnd
    ∷ says 16 (positive 31 (pos 250)) 0x7FFF Exact
    ∷ says 16 (negative 31 (pos 250)) 0x8001 Exact
    ∷ says 16 (positive 17 (below 259)) 0x0001 Exact
    -- the one positive word of width 2
    ∷ says 2 (positive 3 (pos 0)) 1 PastTheEnd
    ∷ says 2 (positive 1 (pos 0)) 1 Exact
    -- 2^231 is nearer to 2^223 than to 2^239
    ∷ reads 8 0x7E (plus 1 (pos 223))
    ∷ says 8 (positive 1 (pos 231)) 0x7E Below
    -- paper 02, Wish 9: how many bits a number needs. 9 needs 10, where document 004 prints 9; past the limits of 16, 32 and 64 bits; both ends
    ∷ needs (pos 0) 2
    ∷ needs (pos 1) 2
    ∷ needs (pos 2) 5
    ∷ needs (pos 3) 7
    ∷ needs (pos 7) 8
    ∷ needs (pos 8) 4
    ∷ needs (pos 9) 10
    ∷ needs (pos 10) 9
    ∷ needs (pos 512) 7
    ∷ needs (pos 513) 17
    ∷ needs (pos 515) 17
    ∷ needs (pos 1024) 8
    ∷ needs (pos (2 ^ 24)) 9
    ∷ needs (pos (2 ^ 24 + 1)) 33
    ∷ needs (pos (2 ^ 55)) 7
    ∷ needs_more (pos (2 ^ 55 + 1)) 4
    ∷ needs (pos (2 ^ 62)) 10
    ∷ needs (below (2 ^ 63)) 4
    ∷ needs_more (pos (2 ^ 63 - 1)) 4
    -- paper 02, Wish 10: 13 RETIRED
    ∷ refuses_blocks 8 13
    -- paper 02, Wish 14: 513 + 2^-20 goes from 64 bits to 514 at 16, and through 32 to 512
    ∷ reads 64 0x5A00800008000000 (plus (513 * 2 ^ 20 + 1) (below 20))
    ∷ moves 64 0x5A00800008000000 16 0x5A01 Above
    ∷ reads 16 0x5A01 (plus 514 (pos 0))
    ∷ moves 64 0x5A00800008000000 32 0x5A008000 Below
    ∷ reads 32 0x5A008000 (plus 513 (pos 0))
    ∷ moves 32 0x5A008000 16 0x5A00 Below
    -- 514 goes out to 32 bits and back; the negated word goes to -514, and at 32 bits to -513; 513 beside it goes to 512, and at 32 bits to itself
    ∷ moves 16 0x5A01 32 0x5A010000 Exact
    ∷ reads 32 0x5A010000 (plus 514 (pos 0))
    ∷ moves 32 0x5A010000 16 0x5A01 Exact
    ∷ reads 64 0xA5FF7FFFF8000000 (minus (513 * 2 ^ 20 + 1) (below 20))
    ∷ moves 64 0xA5FF7FFFF8000000 16 0xA5FF Below
    ∷ reads 16 0xA5FF (minus 514 (pos 0))
    ∷ moves 64 0xA5FF7FFFF8000000 32 0xA5FF8000 Above
    ∷ reads 32 0xA5FF8000 (minus 513 (pos 0))
    ∷ reads 64 0x5A00800000000000 (plus 513 (pos 0))
    ∷ moves 64 0x5A00800000000000 16 0x5A00 Below
    ∷ moves 64 0x5A00800000000000 32 0x5A008000 Exact
    -- zero and NaR, each of which is its own negation
    ∷ moves 64 0 16 0 Exact
    ∷ moves 64 0x8000000000000000 16 0x8000 Exact
    -- 515 from 32 bits goes to 516, and by way of 64 too; and moves to the same width
    ∷ reads 32 0x5A018000 (plus 515 (pos 0))
    ∷ moves 32 0x5A018000 16 0x5A02 Above
    ∷ reads 16 0x5A02 (plus 516 (pos 0))
    ∷ moves 32 0x5A018000 64 0x5A01800000000000 Exact
    ∷ reads 64 0x5A01800000000000 (plus 515 (pos 0))
    ∷ moves 64 0x5A01800000000000 16 0x5A02 Above
    ∷ moves 64 0x5A00800008000000 64 0x5A00800008000000 Exact
    ∷ moves 32 0x5A008000 32 0x5A008000 Exact
    ∷ moves 16 0x5A01 16 0x5A01 Exact
    ∷ []

-- whatever reading or answer the contract allows is the figure's
unfoldable pub FigureHolds : Figure → Type 0
FigureHolds (reads n w x) = (a : Answer Reading) → Reads n w a → (r : Reading) × (a ≡ Ok r) × ((t : Takum) × IsSaid x t × IsReading t (fraction_bits n w) (own_fraction_bits n w) r)
FigureHolds (has_own n w k) = IsWord n w × ((a : Answer Reading) → Reads n w a → (r : Reading) × (a ≡ Ok r) × (r.own ≡ k))
FigureHolds (writes n rule M w) = (a : Answer ℕ) → Writes n rule (whole M) a → a ≡ Ok w
FigureHolds (refuses n rule M number) = (a : Answer ℕ) → Writes n rule (whole M) a → RefusedAs (Answer ℕ) Err number a
FigureHolds (writes_whole n rule M w) = (a : Answer ℕ) → WritesWhole n rule (pos M) a → a ≡ Ok w
FigureHolds (refuses_whole n rule M number) = (a : Answer ℕ) → WritesWhole n rule (pos M) a → RefusedAs (Answer ℕ) Err number a
FigureHolds (takes n rule w x) = (a : Answer ℤ) → TakesWhole n rule w a → a ≡ Ok x
FigureHolds (says n v w s) = (a : Answer Written) → WritesAndSays n Rule.Rounded v a → a ≡ written w s
FigureHolds (says_whole n x w s) = (a : Answer Written) → WritesWholeAndSays n Rule.Rounded x a → a ≡ written w s
FigureHolds (needs x n) = (a : Answer Width) → GivesShortest x a → a ≡ bits n
FigureHolds (needs_more x number) = (a : Answer Width) → GivesShortest x a → RefusedAs (Answer Width) Err number a
FigureHolds (refuses_blocks n number) = (words buffer : List ℕ) (a : ListAnswer ⊤) → WritesBlock n words buffer a → RefusedAs (ListAnswer ⊤) (λ q. Err (ListRefusal.Whole q)) number a
FigureHolds (moves n w n' w' s) = (a : Answer Written) → MovesAndSays n n' Rule.Rounded w a → a ≡ written w' s

-- every figure of a list holds
unfoldable pub AllHold : List Figure → Type 0
AllHold [] = Unit {0}
AllHold (f ∷ fs) = FigureHolds f × AllHold fs
