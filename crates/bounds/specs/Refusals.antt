-- When a call is refused: the refusal numbers of papers 01 and 02 as one table, and the tests that come first in the paper's order.
use Rattle.std.specs.Prelude.{◌≡◌, Bool, cond, ◌&&◌, ℕ, ◌^◌, ◌≤◌, ◌<◌, leb, ltb, ⊤, Result, Ok, Err}
use Rattle.bounds.specs.declared.refusal.ListRefusal.{ListRefusal}
use Rattle.bounds.specs.declared.refusal.Refusal.{Refusal}
use Rattle.bounds.specs.declared.refusal.Refusal.TheVariants.{Width, Stray, Nar, Inexact, Over, Room, Size, Mark, Check, Count, Fill, Retired}

abbrev pub number_of : Refusal → ℕ
number_of Width = 1
number_of Stray = 2
number_of Nar = 3
number_of Inexact = 4
number_of Over = 5
number_of Room = 6
number_of Size = 7
number_of Mark = 8
number_of Check = 9
number_of Count = 10
number_of Fill = 11
-- paper 02, Wish 10; 12, 14 and 15 are for requests to come
number_of Retired = 13

-- what a call answers: what it gives, or why it is refused
abbrev pub Answer : Type 0 → Type 0
Answer A = Result A Refusal

-- what a call over several words answers
abbrev pub ListAnswer : Type 0 → Type 0
ListAnswer A = Result A ListRefusal

-- a test lets the input through, or refuses it
abbrev pub Verdict : Type 0
Verdict = Answer ⊤

abbrev pub passed : Verdict
passed = Ok tt

-- Of tests in a row, the first that refuses decides.
infixl 30 ◌then◌
abbrev pub ◌then◌ : Verdict → Verdict → Verdict
Ok _ then v = v
Err q then v = Err q

-- a test that lets through what it holds of
abbrev pub unless : Refusal → Bool → Verdict
unless q holds = cond holds passed (Err q)

-- 1 WIDTH: a width isn't 2 to 64
unfoldable pub width_test : ℕ → Verdict
width_test n = unless Width (leb 2 n && leb n 64)

-- 2 STRAY: a word has a bit set at or above its width
unfoldable pub stray_test : ℕ → ℕ → Verdict
stray_test n w = unless Stray (ltb w (2 ^ n))

-- the two in the paper's order
abbrev pub word_test : ℕ → ℕ → Verdict
word_test n w = width_test n then stray_test n w

-- 6 ROOM: a result slice has fewer places than there are words to write
unfoldable pub room_test : ℕ → ℕ → Verdict
room_test count places = unless Room (leb count places)

-- What both tests of a word let through: a word w of the width n.
pub record IsWord (n w : ℕ) : Type 0 where
  pub least : 2 ≤ n
  pub most : n ≤ 64
  pub fits : w < 2 ^ n

-- What a contract says: where the tests let the input through, this of the answer; where they refuse it, that of the refusal.
pub data Decided (v : Verdict) (Refuses : Refusal → Type 0) (Answers : Type 0) : Type 0 where
  through : v ≡ passed → Answers → Decided v Refuses Answers
  refused : {q : Refusal} → v ≡ Err q → Refuses q → Decided v Refuses Answers
