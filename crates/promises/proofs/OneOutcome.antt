-- Two outcomes that a public contract allows are equal, for each public call. Assumes nothing.
use Rattle.std.specs.Prelude.{Ok, Err}
use Rattle.std.specs.declared.cmp.Ordering.{Ordering}
use Rattle.std.specs.Ordering.{int_cmp}
use mathlib.Core.Bool.{Bool}
use mathlib.Core.Path.{◌≡◌, refl, sym, ap, ap₂, ◌∙◌, subst}
use mathlib.Core.List.{List, [], ◌∷◌}
use Prim.Native.Nat.{ℕ, ◌^◌}
use native.Mathlib.Nat.{le_antisymm}
use lib.IntN.{ℤ}
use Rattle.bounds.specs.declared.answer.Written.{Written}
use Rattle.bounds.specs.declared.refusal.Refusal.{Refusal}
use Rattle.bounds.specs.declared.width.Width.{Width}
use Rattle.word.specs.declared.fields.Fields.{Fields}
use Rattle.sizes.specs.declared.size.Size.{Size}
use Rattle.word.specs.declared.reading.Reading.{Reading}
use Rattle.bounds.specs.declared.saying.Saying.{Saying}
use Rattle.word.specs.Cuts.{Cuts}
use Rattle.sizes.specs.Sizes.{Sizes}
use Rattle.bounds.specs.Refusals.{number_of, width_test, word_test, room_test, ◌then◌, Answer, Verdict}
use Rattle.bounds.specs.Sayings.{saying_number, says_exact, opposite_saying, exactly, exactly_of}
use Rattle.bounds.specs.Widths.{Greatest, greatest, none, IsLimit, Makes, GivesWord, GivesLimit}
use Rattle.word.specs.Reads.{Reads}
use Rattle.word.specs.Orders.{signed, negated}
use Rattle.order.specs.Orders.{Compares, Negates}
use Rattle.bounds.proofs.Answers.{word_of, GivesAWord}
use Rattle.bounds.proofs.Verdicts.{decided_one}
use Rattle.word.proofs.Binades as readings
use Rattle.round.specs.declared.value.Rule.{Rule}
-- those of a word's size, the nearest word, the hub, writing, whole numbers, binary64, columns and blocks stand beside their laws
pub use Rattle.sizes.proofs.OneOutcome.{reads_size_one}
pub use Rattle.nearest.proofs.OneOutcome.{finds_nearest_one, finds_and_says_one}
pub use Rattle.round.proofs.OneOutcome.{writes_short_one, writes_size_one, writes_long_one, writes_short_and_says_one, writes_size_and_says_one, writes_long_and_says_one}
pub use Rattle.write.proofs.OneOutcome.{writes_one, moves_one, writes_and_says_one, moves_and_says_one}
pub use Rattle.whole.proofs.OneOutcome.{writes_whole_one, writes_whole_and_says_one, takes_whole_one, gives_shortest_one}
pub use Rattle.binary64.proofs.OneOutcome.{writes_binary64_one, writes_binary64_and_says_one, takes_binary64_one}
pub use Rattle.column.proofs.OneOutcome.{moves_column_one, holds_one, moved_column_one}
pub use Rattle.sheet.proofs.OneOutcome.{reads_block_one, fills_results_one, writes_block_one, fills_buffer_one}
use Rattle.promises.specs.Demands.{ComesBack}
use Rattle.promises.specs.Writing.{Goes, ComesHome}
use Rattle.promises.proofs.WordRefusals.{chain_step}
use Rattle.promises.specs.Moving.{AndThen, goes_on, stops, GoesOutAndBack, OutAndBack, GoesNegated, MovesNegated, GoesCompared, ComparesMoved}

-- an answer that is given outright
given : {A : Type 0} (x : A) (a b : A) → a ≡ x → b ≡ x → a ≡ b
given x a b p q = p ∙ sym q

-- ---- the tests, and a refusal's number
pub tests_width_one : (n : ℕ) (a b : Verdict) → a ≡ width_test n → b ≡ width_test n → a ≡ b
tests_width_one n = given (width_test n)

pub tests_word_one : (n w : ℕ) (a b : Verdict) → a ≡ word_test n w → b ≡ word_test n w → a ≡ b
tests_word_one n w = given (word_test n w)

pub tests_room_one : (count places : ℕ) (a b : Verdict) → a ≡ room_test count places → b ≡ room_test count places → a ≡ b
tests_room_one count places = given (room_test count places)

pub tests_in_a_row_one : (u v : Verdict) (a b : Verdict) → a ≡ u then v → b ≡ u then v → a ≡ b
tests_in_a_row_one u v = given (u then v)

pub number_one : (q : Refusal) (a b : ℕ) → a ≡ number_of q → b ≡ number_of q → a ≡ b
number_one q = given (number_of q)

-- ---- a saying's number, whether it is exact, and its opposite; a word that is said to be exact
pub saying_number_one : (s : Saying) (a b : ℕ) → a ≡ saying_number s → b ≡ saying_number s → a ≡ b
saying_number_one s = given (saying_number s)

pub is_exact_one : (s : Saying) (a b : Bool) → a ≡ says_exact s → b ≡ says_exact s → a ≡ b
is_exact_one s = given (says_exact s)

pub opposite_one : (s a b : Saying) → a ≡ opposite_saying s → b ≡ opposite_saying s → a ≡ b
opposite_one s = given (opposite_saying s)

pub exactly_one : (answer : Answer ℕ) (a b : Answer Written) → a ≡ exactly_of answer → b ≡ exactly_of answer → a ≡ b
exactly_one answer = given (exactly_of answer)

pub exactly_word_one : (w : ℕ) (a b : Written) → a ≡ exactly w → b ≡ exactly w → a ≡ b
exactly_word_one w = given (exactly w)

-- ---- widths
pub makes_one : (n : ℕ) (a b : Answer Width) → Makes n a → Makes n b → a ≡ b
unfolding Makes
makes_one n a b = decided_one Err (λ x. x ≡ Ok (record { bits = n })) (given (Ok (record { bits = n }))) a b

-- largest, smallest and NaR word
pub gives_word_one : (f : ℕ → ℕ) (n : ℕ) (a b : Answer ℕ) → GivesWord f n a → GivesWord f n b → a ≡ b
unfolding GivesWord
gives_word_one f n a b = decided_one Err (λ x. x ≡ Ok (f n)) (given (Ok (f n))) a b

exponent_one : (n : ℕ) {u v : ℕ} → Greatest n u → Greatest n v → u ≡ v
exponent_one n {u} {v} (greatest x f) (greatest y g) = le_antisymm (g u x) (f v y)
exponent_one n {u} (greatest x f) (none g) = absurd (g u x)
exponent_one n {v = v} (none f) (greatest y g) = absurd (f v y)
exponent_one n (none f) (none g) = refl

pub gives_limit_one : (n : ℕ) (a b : Answer ℕ) → GivesLimit n a → GivesLimit n b → a ≡ b
unfolding GivesLimit
gives_limit_one n a b = decided_one Err (λ x. (l : ℕ) × (x ≡ Ok l) × IsLimit n l) limits_one a b
  where
    limits_one : (a b : Answer ℕ) → ((l : ℕ) × (a ≡ Ok l) × IsLimit n l) → ((l : ℕ) × (b ≡ Ok l) × IsLimit n l) → a ≡ b
    limits_one a b x y =
        x.1 ∙ ap Ok (x.2.limit ∙ ap (λ (v : ℕ). 2 ^ v) (exponent_one n x.2.is y.2.is) ∙ sym y.2.limit) ∙ sym y.1

-- ---- words
pub reads_one : (n w : ℕ) (a b : Answer Reading) → Reads n w a → Reads n w b → a ≡ b
reads_one = readings.reads_one

pub compares_one : (n x y : ℕ) (a b : Answer Ordering) → Compares n x y a → Compares n x y b → a ≡ b
unfolding Compares
compares_one n x y a b = decided_one Err (λ z. z ≡ Ok (int_cmp (signed n x) (signed n y))) (given (Ok (int_cmp (signed n x) (signed n y)))) a b

pub negates_one : (n w : ℕ) (a b : Answer ℕ) → Negates n w a → Negates n w b → a ≡ b
unfolding Negates
negates_one n w a b = decided_one Err (λ z. z ≡ Ok (negated n w)) (given (Ok (negated n w))) a b

pub comes_back_one : (n w : ℕ) (a b : Answer ℕ) → ComesBack n w a → ComesBack n w b → a ≡ b
unfolding ComesBack
comes_back_one n w a b = decided_one Err (λ z. z ≡ Ok w) (given (Ok w)) a b

-- the fields of a string
pub cuts_one : (t : ℕ) (a b : Fields) → Cuts t a → Cuts t b → a ≡ b
cuts_one t a b x y = ap₂ (λ (c : ℤ) (f : ℕ). record { c = c; f = f }) (x.characteristic ∙ sym y.characteristic) (x.fraction ∙ sym y.fraction)

-- its sign and size
pub sizes_one : (t : ℕ) (a b : Size) → Sizes t a → Sizes t b → a ≡ b
sizes_one t a b x y =
    ap₂ (λ (s : Bool) (h : ℤ). record { negative = s; h = h; m = a.m }) (x.sign ∙ sym y.sign) (x.characteristic ∙ sym y.characteristic)
    ∙ ap (λ (m : ℕ). record { negative = b.negative; h = b.h; m = m }) (x.significand ∙ sym y.significand)

-- ---- one call after another, each of which allows one outcome
and_then_one : {A : Type 0} (First : Answer ℕ → Type 0) (Next : ℕ → Answer A → Type 0) → ((x y : Answer ℕ) → First x → First y → x ≡ y) → ((w : ℕ) (a b : Answer A) → Next w a → Next w b → a ≡ b) → (a b : Answer A) → AndThen First Next a → AndThen First Next b → a ≡ b
unfolding word_of GivesAWord
and_then_one First Next first next a b (goes_on w x y) (goes_on w' x' y') = next w' a b (subst (λ (v : ℕ). Next v a) (ap word_of (first (Ok w) (Ok w') x x')) y) y'
and_then_one First Next first next a b (goes_on w x y) (stops q x' e) = absurd (subst GivesAWord (first (Ok w) (Err q) x x') tt)
and_then_one First Next first next a b (stops q x e) (goes_on w x' y) = absurd (subst GivesAWord (first (Ok w) (Err q) x' x) tt)
and_then_one First Next first next a b (stops q x e) (stops q' x' e') = let same : q ≡ q' = let z = first (Err q) (Err q') x x' in cc in e ∙ ap Err same ∙ sym e'

-- a chain of strict moves
goes_one : (home : ℕ) (ns : List ℕ) (n w : ℕ) (a b : Answer ℕ) → Goes home n w ns a → Goes home n w ns b → a ≡ b
unfolding Goes
goes_one home [] n w a b x y = moves_one n home Rule.Strict w a b x y
goes_one home (n' ∷ ns) n w a b x y = and_then_one _ _ (moves_one n n' Rule.Strict w) (λ v. goes_one home ns n' v) a b (chain_step home n' ns n w a x) (chain_step home n' ns n w b y)

pub comes_home_one : (n w : ℕ) (ns : List ℕ) (a b : Answer ℕ) → ComesHome n w ns a → ComesHome n w ns b → a ≡ b
comes_home_one n w ns a b x y = goes_one n ns n w a b x.goes y.goes

-- the laws of moving
pub out_and_back_one : (a b c w : ℕ) (r s : Answer ℕ) → OutAndBack a b c w r → OutAndBack a b c w s → r ≡ s
unfolding GoesOutAndBack
out_and_back_one a b c w r s x y =
    and_then_one _ _ (moves_one a b Rule.Rounded w) (λ u. and_then_one _ _ (moves_one b c Rule.Rounded u) (moves_one c b Rule.Rounded)) r s x.goes y.goes

pub moves_negated_one : (a b w : ℕ) (r s : Answer Written) → MovesNegated a b w r → MovesNegated a b w s → r ≡ s
unfolding GoesNegated
moves_negated_one a b w r s x y = and_then_one _ _ (negates_one a w) (moves_and_says_one a b Rule.Rounded) r s x.goes y.goes

pub compares_moved_one : (a b u v : ℕ) (r s : Answer Ordering) → ComparesMoved a b u v r → ComparesMoved a b u v s → r ≡ s
unfolding GoesCompared
compares_moved_one a b u v r s x y =
    and_then_one _ _ (moves_one a b Rule.Rounded u) (λ p. and_then_one _ _ (moves_one a b Rule.Rounded v) (compares_one b p)) r s x.goes y.goes
