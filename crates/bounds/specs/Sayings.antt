-- Which way it went (paper 02, Wish 4): the four sayings by their numbers, and what a call answers that has one beside its word. When each is said
-- stands with what the nearest word is (crates/nearest/specs/Sayings.antt).
use Rattle.std.specs.Prelude.{◌≡◌, Bool, true, false, ℕ, Ok, Err}
use Rattle.bounds.specs.declared.answer.Written.{Written}
use Rattle.bounds.specs.declared.saying.Saying.{Saying}
use Rattle.bounds.specs.Refusals.{Answer}
use Rattle.bounds.specs.declared.saying.Saying.TheVariants.{Exact, Below, Above, PastTheEnd}

abbrev pub saying_number : Saying → ℕ
saying_number Exact = 0
saying_number Below = 1
saying_number Above = 2
saying_number PastTheEnd = 3

abbrev pub says_exact : Saying → Bool
says_exact Exact = true
says_exact Below = false
says_exact Above = false
says_exact PastTheEnd = false

-- what is said where value and word are negated
abbrev pub opposite_saying : Saying → Saying
opposite_saying Exact = Exact
opposite_saying Below = Above
opposite_saying Above = Below
opposite_saying PastTheEnd = PastTheEnd

-- a word and what is said of it
abbrev pub written : ℕ → Saying → Answer Written
written w s = Ok (record { word = w; saying = s })

-- the answer without its saying: a word or a refusal
abbrev pub plain : Answer Written → Answer ℕ
plain (Ok a) = Ok a.word
plain (Err q) = Err q

-- the word, said to be exact
abbrev pub exactly : ℕ → Written
exactly w = record { word = w; saying = Exact }

-- and of an answer, of which a refusal stays that refusal
abbrev pub exactly_of : Answer ℕ → Answer Written
exactly_of (Ok w) = Ok (exactly w)
exactly_of (Err q) = Err q

-- A call answers a word or a refusal, as it does without sayings; and with a word it says this.
pub record AndSays (Answers : Answer ℕ → Type 0) (Says : ℕ → Saying → Type 0) (r : Answer Written) : Type 0 where
  pub answers : Answers (plain r)
  pub says : (w : ℕ) (s : Saying) → r ≡ written w s → Says w s
