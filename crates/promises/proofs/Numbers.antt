-- The promises that specs/Numbers.antt states, from the laws of whole numbers and of binary64. Assumes nothing.
use Rattle.std.specs.Prelude.{Ok, Err}
use mathlib.Core.Path.{◌≡◌, refl, sym, ap, subst}
use mathlib.Core.Bool.{false}
use mathlib.Core.Logic.{⊎_elim}
use Prim.Native.Nat.{ℕ, ◌*◌, ◌%◌, ◌^◌, ◌≤◌}
use native.Mathlib.Nat.{zero-lt-suc, le_of_lt}
use native.Mathlib.Omega.{arith}
use lib.IntN.{ℤ, pos, nat_abs}
use lib.Ieee.{Float, neg, round, binary64}
use Rattle.word.specs.Takum.{Takum, real, NaR, takum}
use Rattle.word.proofs.Values.{NaR_word}
use Rattle.word.specs.Orders.{negated}
use Rattle.bounds.specs.Refusals.{width_test, through, refused, passed, Answer}
use Rattle.bounds.specs.Widths.{nar_word, IsLimit, GivesLimit}
use Rattle.bounds.proofs.Consecutive.{rule_gives_inequality, inequality_gives_rule, greatest_of_inequality}
use Rattle.bounds.proofs.Verdicts.{width_fits, width_through, word_passes, answered}
use Rattle.round.specs.declared.value.Rule.{Rule}
use Rattle.nearest.specs.Nearest.{HasValue}
use Rattle.round.specs.Writes.{IsRounded, IsWritten}
use Rattle.write.specs.Writes.{is_negative}
use Rattle.whole.specs.declared.taking.Taking.{Taking}
use Rattle.whole.specs.Wholes.{over_test, WritesWhole, TakesWhole}
use Rattle.whole.specs.Limits.{TheLimitPlusOneHasNoWord}
use Rattle.whole.proofs.LimitWords.{the_limit_plus_one_has_no_word, no_odd_number_past_the_limit_has_a_word}
use Rattle.whole.proofs.LimitRounded.{rounded_to_even}
use Rattle.whole.proofs.LimitWriting.{strict_writing_up_to_the_limit_is_never_refused}
use Rattle.whole.proofs.WholeValues.{value_of}
use Rattle.whole.proofs.InAndOut.{strictly_written, strictly_taken, taken_as_written, written_comes_back, whole_comes_back, word_comes_back}
use Rattle.whole.proofs.Order.{taking_keeps_order}
use Rattle.binary64.specs.declared.taking.Binary64.{Binary64}
use Rattle.binary64.specs.Takes.{IsTakenBinary64, TakesBinary64}
use Rattle.binary64.specs.Writes.{WritesBinary64}
use Rattle.binary64.proofs.Exactness.{taken_exact}
use Rattle.binary64.proofs.RoundTrip.{out_then_in}
use Rattle.binary64.proofs.Order.{order_kept, order_strict}
use Rattle.binary64.proofs.Negation.{negated_taken, zero_taken_positive}
use Rattle.binary64.proofs.Specials.{nan_written, infinity_written, zero_number_written, NaR_not_taken}
use Rattle.binary64.proofs.Written.{value_written}
use Rattle.binary64.proofs.OneOutcome.{writes_binary64_one, takes_binary64_one}
use Rattle.promises.proofs.Evens.{limit_of_16, even_at_16}
use Rattle.promises.proofs.Lines.{past, good_width, given_or_inexact}
use Rattle.promises.proofs.Narrow.{limit_up_to_4, three_is_rounded_to_one}
use Rattle.promises.proofs.OneOutcome.{gives_limit_one}
use Rattle.promises.proofs.WordRefusals.{write_whole_follows}
use Rattle.promises.specs.Demands.{RefusedAs}
use Rattle.promises.specs.Writing.{GivenOrInexact}
use Rattle.promises.specs.Numbers as promise
use Rattle.promises.specs.Numbers.{IsWhole}

-- ---- the limit
count_of : Answer ℕ → ℕ
count_of (Ok l) = l
count_of (Err q) = 0

IsCount : Answer ℕ → Type 0
IsCount (Ok l) = Unit {0}
IsCount (Err q) = ⊥

-- what is known of a limit that was answered
pub record Known (n l : ℕ) : Type 0 where
  pub lo : 2 ≤ n
  pub hi : n ≤ 64
  pub limit : IsLimit n l

pub known : (n l : ℕ) → GivesLimit n (Ok l) → Known n l
unfolding GivesLimit count_of IsCount
known n l (through h x) = let t = width_through n h in
    record { lo = t.0; hi = t.1; limit = subst (IsLimit n) (sym (ap count_of x.1)) x.2 }
known n l (refused h q) = absurd (subst IsCount q tt)

pub a_whole_number_is_kept : promise.AWholeNumberIsKept
unfolding promise.AWholeNumberIsKept IsWhole value_of
a_whole_number_is_kept n x w y = let k = strictly_written n x w y in record { word = k.word; means = k.means }

pub a_whole_number_is_refused_exactly_where_it_has_no_word : promise.AWholeNumberIsRefusedExactlyWhereItHasNoWord
unfolding promise.AWholeNumberIsRefusedExactlyWhereItHasNoWord promise.AWholeNumberIsKept
a_whole_number_is_refused_exactly_where_it_has_no_word n x r lo hi y =
    given_or_inexact (IsWhole n x) r (λ w q. a_whole_number_is_kept n x w (subst (WritesWhole n Rule.Strict x) q y)) (past Err r 1 _ _ (good_width n (lo, hi)) (write_whole_follows n Rule.Strict x r y))

pub every_whole_number_up_to_the_limit_is_written : promise.EveryWholeNumberUpToTheLimitIsWritten
unfolding promise.EveryWholeNumberUpToTheLimitIsWritten IsWhole WritesWhole
every_whole_number_up_to_the_limit_is_written n l x r g h y =
    let k = known n l g in
    strict_writing_up_to_the_limit_is_never_refused n l k.lo k.hi k.limit (nat_abs x) h (is_negative x) r (answered (width_fits n k.lo k.hi) y)

-- a whole number that has no word
no_word : (n : ℕ) (x : ℤ) (r : Answer ℕ) → 2 ≤ n → n ≤ 64 → ((w : ℕ) → IsWhole n x w → ⊥) → WritesWhole n Rule.Strict x r → RefusedAs (Answer ℕ) Err 4 r × ((w : ℕ) → IsWhole n x w → ⊥)
unfolding promise.AWholeNumberIsRefusedExactlyWhereItHasNoWord GivenOrInexact
no_word n x r lo hi none y = ⊎_elim (λ z. absurd (none z.0 z.2)) (λ z. z) (a_whole_number_is_refused_exactly_where_it_has_no_word n x r lo hi y)

pub the_limit_plus_one_is_refused : promise.TheLimitPlusOneIsRefused
unfolding promise.TheLimitPlusOneIsRefused IsWhole TheLimitPlusOneHasNoWord
the_limit_plus_one_is_refused n l x r g q y =
    let k = known n l g in
    no_word n x r k.lo k.hi (λ w z. the_limit_plus_one_has_no_word n l k.lo k.hi k.limit (is_negative x) w (subst (λ (i : ℕ). HasValue n (is_negative x) (i * 2 ^ 307) w) q z)) y

-- ---- document 004, Proposition 5
pub proposition_five_says_the_same : promise.PropositionFiveSaysTheSame
unfolding promise.PropositionFiveSaysTheSame
proposition_five_says_the_same n v five some = (rule_gives_inequality n v, inequality_gives_rule n v some)

pub the_limit_is_that_of_proposition_five : promise.TheLimitIsThatOfPropositionFive
unfolding promise.TheLimitIsThatOfPropositionFive
the_limit_is_that_of_proposition_five n l five g =
    let limit = (known n l g).limit in
    let t = greatest_of_inequality n limit.is in
    (limit.v, limit.limit, t.holds, t.most)

-- ---- the line in the ledger
pub no_odd_number_past_the_limit_is_written : promise.NoOddNumberPastTheLimitIsWritten
unfolding promise.NoOddNumberPastTheLimitIsWritten IsWhole
no_odd_number_past_the_limit_is_written n l x r g odd past y =
    let k = known n l g in
    no_word n x r k.lo k.hi (no_odd_number_past_the_limit_has_a_word n l k.lo k.hi k.limit (nat_abs x) odd past (is_negative x)) y

pub no_odd_number_past_the_limit_comes_back : promise.NoOddNumberPastTheLimitComesBack
unfolding promise.NoOddNumberPastTheLimitComesBack value_of
no_odd_number_past_the_limit_comes_back n l w x g past y =
    let k = known n l g in
    let t = strictly_taken n w x y in
    even (λ odd. no_odd_number_past_the_limit_has_a_word n l k.lo k.hi k.limit (nat_abs x) odd past (is_negative x) w (record { word = t.word; means = t.means }))
  where
    even : (nat_abs x % 2 ≡ 1 → ⊥) → nat_abs x % 2 ≡ 0
    even f = omega (arith, f)

-- what the contract says of a whole number that was written rounded
rounded_whole : (n w : ℕ) (x : ℤ) → 2 ≤ n → n ≤ 64 → WritesWhole n Rule.Rounded x (Ok w) → IsRounded n (is_negative x) (nat_abs x * 2 ^ 307) 1 w
unfolding WritesWhole IsWritten
rounded_whole n w x lo hi y = answered (width_fits n lo hi) y

pub from_the_limit_on_rounded_is_even : promise.FromTheLimitOnRoundedIsEven
unfolding promise.FromTheLimitOnRoundedIsEven IsWhole value_of
from_the_limit_on_rounded_is_even n l w x five g h y =
    let k = known n l g in
    let t = rounded_to_even n l five k.hi k.limit (is_negative x) (nat_abs x) w h (rounded_whole n w x k.lo k.hi y) in
    (t.0, record { word = t.1.word; means = t.1.means }, t.2, t.3)

pub no_odd_number_past_the_limit_comes_back_odd : promise.NoOddNumberPastTheLimitComesBackOdd
unfolding promise.NoOddNumberPastTheLimitComesBackOdd promise.FromTheLimitOnRoundedIsEven IsWhole value_of
no_odd_number_past_the_limit_comes_back_odd n l w x y taking five g odd past r o =
    let t = from_the_limit_on_rounded_is_even n l w x five g (le_of_lt past) r in
    let same : nat_abs y ≡ nat_abs t.0 = ap nat_abs (taken_as_written n t.0 y w taking (record { word = t.1.word; means = t.1.means }) o) in
    (omega (arith, same, t.2), λ q. differ same t.2 (ap nat_abs q))
  where
    differ : {i j : ℕ} → i ≡ j → j % 2 ≡ 0 → i ≡ nat_abs x → ⊥
    differ p even q = omega (arith, p, even, q, odd)

pub up_to_4_three_comes_back_as_one : promise.UpTo4ThreeComesBackAsOne
unfolding promise.UpTo4ThreeComesBackAsOne GivesLimit IsWritten WritesWhole value_of is_negative over_test
up_to_4_three_comes_back_as_one n lo short = (λ a x. gives_limit_one n a (Ok 1) x (through fits (1, refl, limit_up_to_4 n short)), λ r x. by r (answered fits x))
  where
    fits : width_test n ≡ passed
    fits = width_fits n lo (omega (arith, short))

    by : (r : Answer ℕ) → IsWritten n Rule.Rounded false (3 * 2 ^ 307) 1 r → (w : ℕ) × (r ≡ Ok w) × ((taking : Taking) (a : Answer ℤ) → TakesWhole n taking w a → a ≡ Ok (pos 1))
    by (Err q) x = absurd x
    by (Ok w) x = let t = three_is_rounded_to_one n lo short w x in (w, refl, λ taking a o. written_comes_back n (pos 1) w taking a refl (record { word = t.word; means = t.means }) o)

pub at_16_the_limit_is_512 : promise.At16TheLimitIs512
unfolding promise.At16TheLimitIs512 GivesLimit
at_16_the_limit_is_512 a x = gives_limit_one 16 a (Ok 512) x (through (width_fits 16 (omega arith) (omega arith)) (512, refl, limit_of_16))

pub at_16_every_even_number_up_to_1024_is_written : promise.At16EveryEvenNumberUpTo1024IsWritten
unfolding promise.At16EveryEvenNumberUpTo1024IsWritten promise.AWholeNumberIsRefusedExactlyWhereItHasNoWord IsWhole GivenOrInexact
at_16_every_even_number_up_to_1024_is_written x r even le y =
    let t = even_at_16 (is_negative x) (nat_abs x) even le in
    ⊎_elim (λ z. z) (λ z. absurd (z.1 t.0 t.1)) (a_whole_number_is_refused_exactly_where_it_has_no_word 16 x r (omega arith) (omega arith) y)

-- ---- whole numbers in and out
pub a_whole_number_comes_back : promise.AWholeNumberComesBack
unfolding promise.AWholeNumberComesBack
a_whole_number_comes_back = whole_comes_back

pub a_word_comes_back_from_its_whole_number : promise.AWordComesBackFromItsWholeNumber
unfolding promise.AWordComesBackFromItsWholeNumber
a_word_comes_back_from_its_whole_number = word_comes_back

pub taking_whole_numbers_keeps_order : promise.TakingWholeNumbersKeepsOrder
unfolding promise.TakingWholeNumbersKeepsOrder
taking_whole_numbers_keeps_order = taking_keeps_order

-- ---- binary64
pub up_to_57_the_number_is_exact : promise.UpTo57TheNumberIsExact
unfolding promise.UpTo57TheNumberIsExact
up_to_57_the_number_is_exact = taken_exact

pub up_to_57_out_then_in_is_the_word : promise.UpTo57OutThenInIsTheWord
unfolding promise.UpTo57OutThenInIsTheWord
up_to_57_out_then_in_is_the_word = out_then_in

pub taking_binary64_keeps_order : promise.TakingBinary64KeepsOrder
unfolding promise.TakingBinary64KeepsOrder
taking_binary64_keeps_order n v w x y p q less = (order_kept n v w x y p q less, order_strict n v w x y p q less)

pub the_negated_word_goes_out_negated : promise.TheNegatedWordGoesOutNegated
unfolding promise.TheNegatedWordGoesOutNegated
the_negated_word_goes_out_negated n w x a some p q = takes_binary64_one n (negated n w) a (Binary64.Number (neg x)) q (negated_taken n w x some p)

pub zero_goes_out_positive : promise.ZeroGoesOutPositive
unfolding promise.ZeroGoesOutPositive
zero_goes_out_positive = zero_taken_positive

pub special_numbers : promise.SpecialNumbers
unfolding promise.SpecialNumbers
special_numbers n rule r lo hi = record { not_a_number = nan_written n lo hi rule r; infinity = infinity_written n lo hi rule r; zero = zero_number_written n lo hi rule r }

pub a_word_that_is_not_NaR_goes_out_as_a_number : promise.AWordThatIsNotNaRGoesOutAsANumber
unfolding promise.AWordThatIsNotNaRGoesOutAsANumber TakesBinary64 IsTakenBinary64 nar_word
a_word_that_is_not_NaR_goes_out_as_a_number n w a i other x = by (takum n w) refl (answered (word_passes n w i) x)
  where
    by : (t : Takum) → takum n w ≡ t → IsTakenBinary64 t a → (x : Float) × (a ≡ Binary64.Number x)
    by (real z) q y = (round binary64 (is_negative z) (nat_abs z) (2 ^ 307), y)
    by NaR q y = absurd (other (NaR_word n w i q))

pub NaR_goes_out_as_none : promise.NaRGoesOutAsNone
unfolding promise.NaRGoesOutAsNone
NaR_goes_out_as_none = NaR_not_taken

-- the whole number's answer is one that the number allows, and it allows one
pub binary64_agrees_with_whole : promise.Binary64AgreesWithWhole
unfolding promise.Binary64AgreesWithWhole WritesWhole WritesBinary64
binary64_agrees_with_whole n rule x f r r' is p (through h y) = writes_binary64_one n rule f r r' p (through h (value_written n rule r' f (is_negative x) (nat_abs x) 1 (zero-lt-suc 0) is y))
binary64_agrees_with_whole n rule x f r r' is p (refused h q) = writes_binary64_one n rule f r r' p (refused h q)
