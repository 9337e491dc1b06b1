-- What specs/Hub.antt promises, from the hub's contracts and the laws of rounding. Assumes nothing.
use Rattle.std.specs.Prelude.{Ok, Err}
use mathlib.Core.Path.{◌≡◌, refl, sym, ◌∙◌, subst, subst₂}
use mathlib.Core.Bool.{Bool}
use Prim.Native.Nat.{ℕ, ◌+◌, ◌*◌, ◌%◌, ◌^◌, ◌≤◌, ◌<◌}
use native.Mathlib.Nat.{mul_comm}
use native.Mathlib.Omega.{arith}
use lib.IntN.{ℤ, pos, ◌+ℤ◌, ◌-ℤ◌}
use Rattle.bounds.specs.Refusals.{through, refused, Answer}
use Rattle.bounds.proofs.Verdicts.{width_fits, width_through, answered, refused_as}
use Rattle.word.specs.Reads.{num}
use Rattle.word.proofs.Units.{unit_some}
use Rattle.nearest.specs.Offers.{IsSignedNearest, FindsNearest}
use Rattle.round.specs.declared.value.LongValue.{LongValue}
use Rattle.round.specs.declared.value.Rule.{Rule}
use Rattle.round.specs.Writes.{IsRounded, IsExact, IsWritten, WritesShort, WritesSize, WritesLong}
use Rattle.round.proofs.Jamming as jams
use Rattle.round.proofs.Jamming.{between_written, enough_bits_jam, jamming, sixty_five_bits_dont_jam}
use Rattle.round.proofs.OneOutcome.{writes_short_one}
use Rattle.round.proofs.Long.{finer_offer}
use Rattle.round.proofs.Rounding.{written_one}
use Rattle.round.proofs.Scales.{written_times, written_reduced}
use Rattle.write.specs.Writes.{Writes}
use Rattle.promises.specs.Hub as promise
use Rattle.promises.specs.Hub.{significand, long_numerator, long_denominator}
use Rattle.promises.proofs.Lines.{past, good_width, given_or_inexact}
use Rattle.promises.proofs.WordRefusals.{write_long_follows}

pub the_word_that_is_found_is_the_nearest : promise.TheWordThatIsFoundIsTheNearest
unfolding promise.TheWordThatIsFoundIsTheNearest FindsNearest IsSignedNearest
the_word_that_is_found_is_the_nearest n negative h m below r lo hi full top fits x =
    let (w, q, rest, is, near) = answered (width_fits n lo hi) x in
    (w, q, λ a b some offered. subst (λ (y : ℕ). IsSignedNearest n negative h y rest w) set near a b some (finer_offer m below rest h a b some fits is offered))
  where
    set : 2 ^ 63 + m % 2 ^ 63 ≡ m
    set = omega (arith, full, top)

-- what the contract says at a width from 2 to 64
written : (n : ℕ) (rule : Rule) (v : LongValue) (r : Answer ℕ) → 2 ≤ n → n ≤ 64 → WritesLong n rule v r → IsWritten n rule v.negative (long_numerator v) (long_denominator v) r
unfolding WritesLong WritesShort significand long_numerator long_denominator
written n rule v r lo hi x = answered (width_fits n lo hi) x

some_denominator : (v : LongValue) → 0 < long_denominator v
unfolding long_denominator
some_denominator v = (unit_some (v.k +ℤ pos 307)).1

pub a_long_value_is_rounded_to_the_nearest : promise.ALongValueIsRoundedToTheNearest
unfolding promise.ALongValueIsRoundedToTheNearest IsWritten
a_long_value_is_rounded_to_the_nearest n v r lo hi x = by r (written n Rule.Rounded v r lo hi x)
  where
    by : (r : Answer ℕ) → IsWritten n Rule.Rounded v.negative (long_numerator v) (long_denominator v) r → (w : ℕ) × (r ≡ Ok w) × IsRounded n v.negative (long_numerator v) (long_denominator v) w
    by (Ok w) y = (w, refl, y)
    by (Err q) y = absurd y

pub a_long_value_is_refused_exactly_where_there_is_no_word : promise.ALongValueIsRefusedExactlyWhereThereIsNoWord
unfolding promise.ALongValueIsRefusedExactlyWhereThereIsNoWord IsWritten
a_long_value_is_refused_exactly_where_there_is_no_word n v r lo hi x =
    given_or_inexact (IsExact n v.negative (long_numerator v) (long_denominator v)) r (λ w q. written n Rule.Strict v (Ok w) lo hi (subst (WritesLong n Rule.Strict v) q x)) (past Err r 1 _ _ (good_width n (lo, hi)) (write_long_follows n Rule.Strict v r x))

-- what is written for a fraction is written for every fraction that equals it
pub equal_fraction : (n : ℕ) (rule : Rule) (s : Bool) (a b c d : ℕ) (r : Answer ℕ) → 0 < b → 0 < d → a * d ≡ c * b → IsWritten n rule s a b r → IsWritten n rule s c d r
equal_fraction n rule s a b c d r some_b some_d q x =
    written_reduced n s c d b some_b rule r (subst₂ (λ (x y : ℕ). IsWritten n rule s x y r) q (mul_comm b d) (written_times n s a b d some_d rule r x))

pub how_a_value_is_split_changes_no_answer : promise.HowAValueIsSplitChangesNoAnswer
unfolding promise.HowAValueIsSplitChangesNoAnswer WritesLong WritesShort significand long_numerator long_denominator
how_a_value_is_split_changes_no_answer n rule u v a b s q (through h x) y =
    let t = width_through n h in
    let moved = equal_fraction n rule u.negative (long_numerator u) (long_denominator u) (long_numerator v) (long_denominator v) a (some_denominator u) (some_denominator v) q x in
    written_one n t.0 t.1 rule v.negative (long_numerator v) (long_denominator v) a b (some_denominator v) (subst (λ (s : Bool). IsWritten n rule s (long_numerator v) (long_denominator v) a) s moved) (answered h y)
how_a_value_is_split_changes_no_answer n rule u v a b s q (refused h x) y = x ∙ sym (refused_as _ h y)

-- a long value whose upper number is 0 has the lower one for its significand
lower_alone : (n : ℕ) (rule : Rule) (negative : Bool) (m : ℕ) (k : ℤ) (r : Answer ℕ) → WritesLong n rule (record { negative = negative; high = 0; low = m; k = k }) r → WritesShort n rule negative m k r
unfolding WritesLong
lower_alone n rule negative m k r x = subst (λ (y : ℕ). WritesShort n rule negative y k r) alone x
  where
    alone : 0 * 2 ^ 64 + m ≡ m
    alone = omega arith

pub a_short_value_is_written_as_a_long_one : promise.AShortValueIsWrittenAsALongOne
unfolding promise.AShortValueIsWrittenAsALongOne
a_short_value_is_written_as_a_long_one n rule negative m k a b x y = writes_short_one n rule negative m k a b x (lower_alone n rule negative m k b y)

pub a_size_is_written_as_a_long_value : promise.ASizeIsWrittenAsALongValue
unfolding promise.ASizeIsWrittenAsALongValue WritesSize
a_size_is_written_as_a_long_value n rule s a b x y = writes_short_one n rule s.negative s.m (s.h -ℤ pos 63) a b x (lower_alone n rule s.negative s.m (s.h -ℤ pos 63) b y)

pub a_value_is_written_as_a_short_one : promise.AValueIsWrittenAsAShortOne
unfolding promise.AValueIsWrittenAsAShortOne Writes WritesShort
a_value_is_written_as_a_short_one n rule v a b x y = writes_short_one n rule v.negative v.m v.k a b x y

-- ---- jamming
-- the exact size has an answer, which the law says is that of the jammed one
pub jamming_changes_no_answer : promise.JammingChangesNoAnswer
unfolding promise.JammingChangesNoAnswer long_numerator long_denominator
jamming_changes_no_answer n rule v x a b r lo hi full top some between q y =
    let exact = between_written n lo hi 63 x v.k full top rule v.negative in
    let cut = subst (λ (z : ℕ). IsWritten n rule v.negative (z * num (v.k +ℤ pos 307)) (long_denominator v) r) q (written n rule v r lo hi y) in
    let same : (r' : Answer ℕ) → IsWritten n rule v.negative a b r' → r' ≡ r = λ r' z. jamming n lo hi rule v.negative x v.k a b r' r full top some between z cut in
    (subst (IsWritten n rule v.negative a b) (same exact.0 (exact.1 a b some between)) (exact.1 a b some between), same)

pub two_bits_under_sixty_four_are_enough : promise.TwoBitsUnderSixtyFourAreEnough
unfolding promise.TwoBitsUnderSixtyFourAreEnough promise.AnswersAlikeJammed jams.Jams WritesShort
two_bits_under_sixty_four_are_enough bits enough n rule s x k a b r r' lo hi full top some between exact cut = enough_bits_jam bits enough n lo hi rule s x k a b r r' full top some between exact (answered (width_fits n lo hi) cut)

pub one_bit_under_sixty_four_is_not_enough : promise.OneBitUnderSixtyFourIsNotEnough
unfolding promise.OneBitUnderSixtyFourIsNotEnough promise.AnswersAlikeJammed jams.Jams WritesShort
one_bit_under_sixty_four_is_not_enough x = sixty_five_bits_dont_jam (λ n lo hi rule s y k a b r r' full top some between exact cut. x n rule s y k a b r r' lo hi full top some between exact (through (width_fits n lo hi) cut))
