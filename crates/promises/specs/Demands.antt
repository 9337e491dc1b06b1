-- What the letter demands of reading, order and negation, what belongs to a width, and how a refusal is said by its number.
use Rattle.std.specs.declared.cmp.Ordering.{Ordering}
use Rattle.std.specs.declared.cmp.Ordering.TheVariants.{Less, Equal, Greater}
use Rattle.std.specs.Prelude.{◌≡◌, false, ℕ, ◌-◌, ◌*◌, ◌^◌, ◌≤◌, ◌<◌, ℤ, pos, ◌-ℤ◌, Ok, Err}
use Rattle.word.specs.declared.reading.Reading.{Reading}
use Rattle.bounds.specs.declared.refusal.Refusal.{Refusal}
use Rattle.word.specs.Takum.{real, NaR, takum, fraction_bits, own_fraction_bits}
use Rattle.bounds.specs.Refusals.{Answer, number_of, width_test, stray_test, ◌then◌, IsWord, Decided}
use Rattle.bounds.specs.Widths.{nar_word, largest, smallest}
use Rattle.sizes.specs.declared.size.Size.{Size}
use Rattle.word.specs.Reads.{IsSize, signed_size, IsReading, Reads}
use Rattle.sizes.specs.Sizes.{Sizes}
use Rattle.word.specs.Orders.{order, opposite}
use Rattle.order.specs.Orders.{order_number, Compares, Negates}
use Rattle.nearest.specs.Nearest.{HasValue}

-- ---- demand 1: bad input gets the refusal number that the papers fix. Refusals.antt has the table.
-- an answer that hands back the refusal with this number and nothing else
pub record RefusedAs (A : Type 0) (refused : Refusal → A) (number : ℕ) (answer : A) : Type 0 where
  pub q : Refusal
  pub is : answer ≡ refused q
  pub known : number_of q ≡ number

-- ---- demand 2, reading: at widths 2 to 64 the reading of a word is never refused, is the value that Definition 2 gives, and has the word's own fraction
-- bits (paper 02, Wish 3)
unfoldable pub ReadingIsTheDefinition : Type 0
ReadingIsTheDefinition = (n w : ℕ) (a : Answer Reading) → IsWord n w → Reads n w a → (r : Reading) × (a ≡ Ok r) × IsReading (takum n w) (fraction_bits n w) (own_fraction_bits n w) r

-- two words of one width whose readings say the same are one word; how fine they are is not needed to tell them apart
unfoldable pub ReadingTellsWordsApart : Type 0
ReadingTellsWordsApart = (n x y : ℕ) (a b : Reading) → IsWord n x → IsWord n y → Reads n x (Ok a) → Reads n y (Ok b) → a.kind ≡ b.kind → x ≡ y

-- a word that is neither zero nor NaR, at the top of 64 bits: its sign and size are those of the value that Definition 2 gives, the size m * 2^(h - 63)
unfoldable pub ASizeIsTheWordsValue : Type 0
ASizeIsTheWordsValue = (n w : ℕ) (x : Size) → IsWord n w → (w ≡ 0 → ⊥) → (w ≡ nar_word n → ⊥) → Sizes (w * 2 ^ (64 - n)) x → (v : ℕ) × (takum n w ≡ real (signed_size x.negative v)) × IsSize x.m (x.h -ℤ pos 63) v

-- ---- the words that belong to a width
-- every word with a positive value lies between the smallest and the largest positive word by its value
unfoldable pub TheEndWords : Type 0
TheEndWords = (n : ℕ) → 2 ≤ n → n ≤ 64
    → (least most : ℕ) × HasValue n false least (smallest n) × HasValue n false most (largest n) × (0 < least) × ((z w : ℕ) → 0 < z → HasValue n false z w → (least ≤ z) × (z ≤ most))

-- the NaR word means NaR, and no other word does
unfoldable pub TheNaRWord : Type 0
TheNaRWord = (n : ℕ) → 2 ≤ n → n ≤ 64 → IsWord n (nar_word n) × (takum n (nar_word n) ≡ NaR) × ((w : ℕ) → IsWord n w → takum n w ≡ NaR → w ≡ nar_word n)

-- ---- order and negation, as the values have them
-- the comparison of two words is the order of their values, which is the paper's number for it
unfoldable pub ComparisonIsTheOrderOfValues : Type 0
ComparisonIsTheOrderOfValues = (n x y : ℕ) (u v : ℤ) (a : Answer Ordering) → IsWord n x → IsWord n y → takum n x ≡ real u → takum n y ≡ real v → Compares n x y a → (o : Ordering) × (a ≡ Ok o) × (order_number o ≡ order u v)

-- NaR comes below everything
unfoldable pub NaRIsBelowEveryValue : Type 0
NaRIsBelowEveryValue = (n x y : ℕ) (v : ℤ) (a : Answer Ordering) → IsWord n x → IsWord n y → takum n x ≡ NaR → takum n y ≡ real v → Compares n x y a → a ≡ Ok Less

unfoldable pub EveryValueIsAboveNaR : Type 0
EveryValueIsAboveNaR = (n x y : ℕ) (v : ℤ) (a : Answer Ordering) → IsWord n x → IsWord n y → takum n x ≡ real v → takum n y ≡ NaR → Compares n x y a → a ≡ Ok Greater

-- every word equals itself, NaR too
unfoldable pub EveryWordEqualsItself : Type 0
EveryWordEqualsItself = (n w : ℕ) (a : Answer Ordering) → IsWord n w → Compares n w w a → a ≡ Ok Equal

-- the negated word has the opposite value; zero and NaR are kept
unfoldable pub NegationNegates : Type 0
NegationNegates = (n w : ℕ) (a : Answer ℕ) → IsWord n w → Negates n w a → (v : ℕ) × (a ≡ Ok v) × IsWord n v × (takum n v ≡ opposite (takum n w))

-- a word negated twice
unfoldable pub ComesBack : ℕ → ℕ → Answer ℕ → Type 0
ComesBack n w a = Decided (width_test n then stray_test n w) (λ q. a ≡ Err q) (a ≡ Ok w)
