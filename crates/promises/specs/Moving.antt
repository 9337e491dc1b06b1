-- Laws of moving (paper 02, Wish 14), in its letters: the widths a, b and c. A move is rounded where no rule is named.
use Rattle.std.specs.declared.cmp.Ordering.{Ordering}
use Rattle.std.specs.declared.cmp.Ordering.TheVariants.{Less, Equal}
use Rattle.std.specs.Prelude.{◌≡◌, ◌⊎◌, ℕ, ◌≤◌, ◌<◌, ℤ, Ok, Err}
use Rattle.bounds.specs.declared.answer.Written.{Written}
use Rattle.bounds.specs.declared.refusal.Refusal.{Refusal}
use Rattle.bounds.specs.declared.saying.Saying.{Saying}
use Rattle.bounds.specs.declared.saying.Saying.TheVariants.{Exact}
use Rattle.bounds.specs.Refusals.{Answer, IsWord}
use Rattle.bounds.specs.Sayings.{opposite_saying, written}
use Rattle.word.specs.Takum.{real, NaR, takum}
use Rattle.word.specs.Orders.{negated}
use Rattle.order.specs.Orders.{Compares, Negates}
use Rattle.round.specs.declared.value.Rule.{Rule}
use Rattle.write.specs.Writes.{Moves}
use Rattle.write.specs.Sayings.{MovesAndSays}

-- One call after another: the word that the first answers goes on to the next. Where the first is refused, that is the answer.
pub data AndThen {A : Type 0} (First : Answer ℕ → Type 0) (Next : ℕ → Answer A → Type 0) (r : Answer A) : Type 0 where
  goes_on : (w : ℕ) → First (Ok w) → Next w r → AndThen First Next r
  stops : (q : Refusal) → First (Err q) → r ≡ Err q → AndThen First Next r

-- ---- out and back
-- the word w goes from a to b, then to c by the rule, then back to b
unfoldable pub GoesOutAndBack : ℕ → ℕ → ℕ → Rule → ℕ → Answer ℕ → Type 0
GoesOutAndBack a b c rule w = AndThen (Moves a b Rule.Rounded w) (λ u. AndThen (Moves b c rule u) (Moves c b Rule.Rounded))

-- with c at least b, and no more than 64, this equals the first move alone, in its refusals too
unfoldable pub OutAndBackIsTheFirstMove : Type 0
OutAndBackIsTheFirstMove = (a b c w : ℕ) (rule : Rule) (r : Answer ℕ) → b ≤ c → c ≤ 64 → GoesOutAndBack a b c rule w r → Moves a b Rule.Rounded w r

-- the move back says exact, whatever the first one said
unfoldable pub TheWayBackIsExact : Type 0
TheWayBackIsExact = (a b c w u v : ℕ) (rule : Rule) (r : Answer Written) → b ≤ c → c ≤ 64 → Moves a b Rule.Rounded w (Ok u) → Moves b c rule u (Ok v) → MovesAndSays c b Rule.Rounded v r → r ≡ written u Exact

-- what `out_and_back` answers: it goes so, and that is the law
pub record OutAndBack (a b c w : ℕ) (r : Answer ℕ) : Type 0 where
  pub goes : GoesOutAndBack a b c Rule.Rounded w r
  pub first : b ≤ c → c ≤ 64 → Moves a b Rule.Rounded w r

-- ---- negation
-- the word w is negated and then moved from a to b
unfoldable pub GoesNegated : ℕ → ℕ → ℕ → Answer Written → Type 0
GoesNegated a b w = AndThen (Negates a w) (MovesAndSays a b Rule.Rounded)

-- this is the negation of the moved word, with below and above exchanged in what is said; w is any word, zero and NaR too
unfoldable pub TheNegationMovesToTheNegation : Type 0
TheNegationMovesToTheNegation = (a b w u : ℕ) (s : Saying) (r : Answer Written) → MovesAndSays a b Rule.Rounded w (written u s) → GoesNegated a b w r → r ≡ written (negated b u) (opposite_saying s)

-- what `move_negated` answers
pub record MovesNegated (a b w : ℕ) (r : Answer Written) : Type 0 where
  pub goes : GoesNegated a b w r
  pub negates : (u : ℕ) (s : Saying) → MovesAndSays a b Rule.Rounded w (written u s) → r ≡ written (negated b u) (opposite_saying s)

-- ---- order
-- the words x and y are moved from a to b and then compared
unfoldable pub GoesCompared : ℕ → ℕ → ℕ → ℕ → Answer Ordering → Type 0
GoesCompared a b x y = AndThen (Moves a b Rule.Rounded x) (λ u. AndThen (Moves a b Rule.Rounded y) (Compares b u))

-- the order that two words have afterwards is the one they had before, or they have become equal: so it is never the reverse
unfoldable pub IsNotReversed : Ordering → Ordering → Type 0
IsNotReversed before after = (after ≡ before) ⊎ (after ≡ Equal)

-- whatever words they are, NaR too, which `compare` has below every other
unfoldable pub MovingNeverReversesTheOrder : Type 0
MovingNeverReversesTheOrder = (a b x y : ℕ) (before after : Ordering) → Compares a x y (Ok before) → GoesCompared a b x y (Ok after) → IsNotReversed before after

-- NaR is below every other word afterwards too: the two don't become equal
unfoldable pub NaRStaysBelowEveryOtherWord : Type 0
NaRStaysBelowEveryOtherWord = (a b x y : ℕ) (z : ℤ) (after : Ordering) → takum a x ≡ NaR → takum a y ≡ real z → GoesCompared a b x y (Ok after) → after ≡ Less

-- what `compare_moved` answers
pub record ComparesMoved (a b x y : ℕ) (r : Answer Ordering) : Type 0 where
  pub goes : GoesCompared a b x y r
  pub not_reversed : (before after : Ordering) → Compares a x y (Ok before) → r ≡ Ok after → IsNotReversed before after

-- ---- a middle width
-- the word w goes from a to c by way of b
unfoldable pub GoesBy : ℕ → ℕ → ℕ → ℕ → Answer Written → Type 0
GoesBy a b c w = AndThen (Moves a b Rule.Rounded w) (MovesAndSays b c Rule.Rounded)

-- There are a word and widths, each narrower than the one before, for which this and the direct move differ.
unfoldable pub AMiddleWidthCanChangeTheWord : Type 0
AMiddleWidthCanChangeTheWord = (a b c w : ℕ) × IsWord a w × (b < a) × (c < b) × (u v : ℕ) × (s t : Saying) × GoesBy a b c w (written u s) × MovesAndSays a c Rule.Rounded w (written v t) × (u ≡ v → ⊥)

-- A middle width at which the first move says exact changes nothing, neither the word nor what is said, nor a refusal.
unfoldable pub AnExactMiddleChangesNothing : Type 0
AnExactMiddleChangesNothing = (a b c w u : ℕ) (r r' : Answer Written) → MovesAndSays a b Rule.Rounded w (written u Exact) → GoesBy a b c w r → MovesAndSays a c Rule.Rounded w r' → r ≡ r'

-- Nor does one that is at least as wide as the source.
unfoldable pub AMiddleAsWideChangesNothing : Type 0
AMiddleAsWideChangesNothing = (a b c w : ℕ) (r r' : Answer Written) → IsWord a w → a ≤ b → b ≤ 64 → GoesBy a b c w r → MovesAndSays a c Rule.Rounded w r' → r ≡ r'

-- a move to the same width is the word itself, and is said to be exact
unfoldable pub AMoveToTheSameWidthIsTheWord : Type 0
AMoveToTheSameWidthIsTheWord = (a w : ℕ) (r : Answer Written) → IsWord a w → MovesAndSays a a Rule.Rounded w r → r ≡ written w Exact
