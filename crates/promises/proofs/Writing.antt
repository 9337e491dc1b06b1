-- The demands that specs/Writing.antt states, from the laws of writing. Assumes nothing.
use Rattle.std.specs.Prelude.{Ok, Err}
use mathlib.Core.Path.{◌≡◌, refl, sym, ap, ap₂, ◌∙◌, subst}
use mathlib.Core.Bool.{Bool, true, false, not}
use mathlib.Core.List.{List, [], ◌∷◌}
use mathlib.Core.Logic.{inl, inr}
use Prim.Native.Nat.{ℕ, zero, ◌-◌, ◌*◌, ◌^◌, ◌≤◌, ◌<◌}
use native.Mathlib.Nat.{zero-mul, mul-pos, mul_assoc}
use native.Mathlib.Omega.{arith}
use lib.IntN.{pos, ◌+ℤ◌}
use Rattle.bounds.specs.declared.refusal.Refusal.{Refusal}
use Rattle.word.specs.Takum.{Takum, real, takum, fraction_bits}
use Rattle.word.specs.declared.reading.Kind.{Kind}
use Rattle.word.specs.declared.reading.Reading.{Reading}
use Rattle.bounds.specs.Refusals.{width_test, stray_test, ◌then◌, IsWord, through, refused, passed, Answer, Verdict}
use Rattle.bounds.specs.Widths.{nar_word, largest, smallest}
use Rattle.word.specs.Reads.{num, IsSize, signed_size, IsKind, Reads}
use Rattle.word.specs.Orders.{order, negated}
use Rattle.bounds.proofs.Answers.{GivesAWord}
use Rattle.bounds.proofs.Powers.{twice}
use Rattle.bounds.proofs.Verdicts.{width_fits, width_through, stray_fits, move_passes, move_through, answered}
use Rattle.word.proofs.Signed.{negated_other}
use Rattle.word.proofs.Values.{grown, words_differ, no_sign, order_of_values}
use Rattle.word.proofs.Words.{zeros_appended}
use Rattle.round.specs.declared.value.Rule.{Rule}
use Rattle.write.specs.declared.value.Value.{Value}
use Rattle.nearest.specs.Nearest.{Nearest}
use Rattle.round.specs.Writes.{IsRounded, zero, other, IsExact, IsWritten}
use Rattle.write.specs.Writes.{is_negative, IsMoved, Writes, Moves}
use Rattle.word.proofs.Units.{unit_some}
use Rattle.nearest.proofs.Places.{two, word_of, has_value, from_word}
use Rattle.round.proofs.Rules.{zero_written}
use Rattle.write.proofs.Meanings.{number_written}
use Rattle.round.proofs.Rounding.{rounded_exists, rounded_one, rounded_not_zero_nor_NaR, past_the_largest, before_the_smallest, rounded_negated, exact_written, written_one}
use Rattle.round.proofs.Order.{rounding_keeps_order, order_times}
use Rattle.write.proofs.Moves.{Kept, moved_to_the_same, strict_keeps, there_and_back, wider_keeps}
use Rattle.promises.specs.Refusals.{move_lines}
use Rattle.promises.specs.Writing as promise
use Rattle.promises.specs.Writing.{numerator, denominator, with_other_sign, of_sign, KindSays, Says, Chain, Goes, ComesHome}
use Rattle.promises.proofs.Demands.{reads_as}
use Rattle.promises.proofs.Lines.{past, good_width, given_or_inexact}
use Rattle.promises.proofs.WordRefusals.{write_follows, move_follows}

some_denominator : (v : Value) → 0 < denominator v
unfolding denominator
some_denominator v = (unit_some (v.k +ℤ pos 307)).1

-- what the contract says at a width from 2 to 64
written : (n : ℕ) (rule : Rule) (v : Value) (r : Answer ℕ) → 2 ≤ n → n ≤ 64 → Writes n rule v r → IsWritten n rule v.negative (numerator v) (denominator v) r
unfolding Writes numerator denominator
written n rule v r lo hi x = answered (width_fits n lo hi) x

-- zero has no size
pub no_numerator : (v : Value) → v.m ≡ 0 → numerator v ≡ 0
unfolding numerator
no_numerator v q = ap (λ (m : ℕ). m * num (v.k +ℤ pos 307)) q ∙ zero-mul (num (v.k +ℤ pos 307))

pub rounded_is_the_nearest : promise.RoundedIsTheNearest
unfolding promise.RoundedIsTheNearest IsWritten
rounded_is_the_nearest n v r lo hi x = by r (written n Rule.Rounded v r lo hi x)
  where
    by : (r : Answer ℕ) → IsWritten n Rule.Rounded v.negative (numerator v) (denominator v) r → (w : ℕ) × (r ≡ Ok w) × IsRounded n v.negative (numerator v) (denominator v) w
    by (Ok w) y = (w, refl, y)
    by (Err q) y = absurd y

pub one_rounded_word : promise.OneRoundedWord
unfolding promise.OneRoundedWord
one_rounded_word n v lo hi =
    let t = rounded_exists n lo hi v.negative (numerator v) (denominator v) (some_denominator v) in
    (t.0, t.1, λ w' y. rounded_one n lo hi v.negative (numerator v) (denominator v) w' t.0 (some_denominator v) y t.1)

-- a value that isn't zero
module _ (v : Value) (some : 0 < v.m) where
  some_numerator : 0 < numerator v
  unfolding numerator
  some_numerator = mul-pos some (unit_some (v.k +ℤ pos 307)).0

  -- a rounded word of it is the nearest one
  nearest_one : (n w : ℕ) → 2 ≤ n → n ≤ 64 → Writes n Rule.Rounded v (Ok w) → Nearest n v.negative (numerator v) (denominator v) w
  unfolding IsWritten
  nearest_one n w lo hi x = by (written n Rule.Rounded v (Ok w) lo hi x)
    where
      by : IsRounded n v.negative (numerator v) (denominator v) w → Nearest n v.negative (numerator v) (denominator v) w
      by (zero q e) = absurd (omega (arith, q, some_numerator))
      by (other h y) = y

pub rounded_is_never_zero_nor_NaR : promise.RoundedIsNeverZeroNorNaR
unfolding promise.RoundedIsNeverZeroNorNaR nar_word
rounded_is_never_zero_nor_NaR n v w lo hi some x = rounded_not_zero_nor_NaR n lo hi v.negative (numerator v) (denominator v) w (nearest_one v some n w lo hi x)

module _ (n : ℕ) (lo : 2 ≤ n) (hi : n ≤ 64) where
  pub of_sign_lem : (s : Bool) (v : ℕ) → 0 < v → v < 2 ^ (n - 1) → word_of n s v ≡ of_sign n s v
  unfolding word_of of_sign
  of_sign_lem false v h b = refl
  of_sign_lem true v h b = sym (negated_other n v h (omega (arith, b, twice n lo)))

  -- an answer whose word is known for the nearest one
  end_word : (v : Value) (r : Answer ℕ) (e : ℕ) → 0 < e → e < 2 ^ (n - 1) → 0 < v.m → Writes n Rule.Rounded v r → ((w : ℕ) → Nearest n v.negative (numerator v) (denominator v) w → w ≡ word_of n v.negative e) → r ≡ Ok (of_sign n v.negative e)
  unfolding promise.RoundedIsTheNearest
  end_word v r e first last some x f =
      let t = rounded_is_the_nearest n v r lo hi x in
      t.1 ∙ ap Ok (f t.0 (nearest_one v some n t.0 lo hi (subst (Writes n Rule.Rounded v) t.1 x)) ∙ of_sign_lem v.negative e first last)

pub past_the_largest_word : promise.PastTheLargest
unfolding promise.PastTheLargest largest word_of
past_the_largest_word n lo hi =
    let e = 2 ^ (n - 1) - 1 in
    let first : 0 < e = omega (arith, two n lo hi) in
    let last : e < 2 ^ (n - 1) = omega (arith, two n lo hi) in
    let is = has_value n lo hi false e first last in
    (grown n e, is, λ v r some h x. end_word n lo hi v r e first last some x (λ w y. past_the_largest n lo hi v.negative (grown n e) (numerator v) (denominator v) w (some_denominator v) is h y))

pub before_the_smallest_word : promise.BeforeTheSmallest
unfolding promise.BeforeTheSmallest smallest word_of
before_the_smallest_word n lo hi =
    let last : 1 < 2 ^ (n - 1) = omega (arith, two n lo hi) in
    let is = has_value n lo hi false 1 (omega arith) last in
    (grown n 1, is, λ v r some h x. end_word n lo hi v r 1 (omega arith) last some x (λ w y. before_the_smallest n lo hi v.negative (grown n 1) (numerator v) (denominator v) w (some_denominator v) is h y))

-- the one place of width 2
pub at_width_2_every_positive_value_is_written_as_1 : promise.AtWidth2EveryPositiveValueIsWrittenAs1
unfolding promise.AtWidth2EveryPositiveValueIsWrittenAs1 promise.RoundedIsTheNearest word_of
at_width_2_every_positive_value_is_written_as_1 v r some plus x =
    let lo : 2 ≤ 2 = omega arith in
    let hi : 2 ≤ 64 = omega arith in
    let t = rounded_is_the_nearest 2 v r lo hi x in
    let u = from_word 2 lo hi v.negative (numerator v) (denominator v) t.0 (nearest_one v some 2 t.0 lo hi (subst (Writes 2 Rule.Rounded v) t.1 x)) in
    let one : u.0 ≡ 1 = omega (arith, u.1.first, u.1.last) in
    t.1 ∙ ap Ok (u.2 ∙ ap (λ (s : Bool). word_of 2 s u.0) plus ∙ one)

pub a_words_value_is_written_as_the_word : promise.AWordsValueIsWrittenAsTheWord
unfolding promise.AWordsValueIsWrittenAsTheWord
a_words_value_is_written_as_the_word n rule v w r lo hi x y = exact_written n lo hi rule v.negative (numerator v) (denominator v) w r (some_denominator v) x (written n rule v r lo hi y)

pub strict_writing_keeps_the_value : promise.StrictWritingKeepsTheValue
unfolding promise.StrictWritingKeepsTheValue Writes IsWritten IsSize GivesAWord
strict_writing_keeps_the_value n v w (through h x) = (x.is.word, x.z, x.is.means, sym x.same)
strict_writing_keeps_the_value n v w (refused h q) = absurd (subst GivesAWord q tt)

pub strict_writing_is_refused_exactly_where_there_is_no_word : promise.StrictWritingIsRefusedExactlyWhereThereIsNoWord
unfolding promise.StrictWritingIsRefusedExactlyWhereThereIsNoWord IsWritten
strict_writing_is_refused_exactly_where_there_is_no_word n v r lo hi x =
    given_or_inexact _ r (λ w q. written n Rule.Strict v (Ok w) lo hi (subst (Writes n Rule.Strict v) q x)) (past Err r 1 _ _ (good_width n (lo, hi)) (write_follows n Rule.Strict v r x))

-- a word that was read has exactly the value that the reading says
kind_exactly : (n w : ℕ) (a : Kind) (v : Value) → IsWord n w → IsKind (takum n w) (fraction_bits n w) a → KindSays a v → IsExact n v.negative (numerator v) (denominator v) w
unfolding KindSays IsKind IsSize numerator denominator
kind_exactly n w Kind.Zero v i x says =
    record { z = 0; is = record { word = i; means = x ∙ ap real (sym (no_sign v.negative)) }; same = zero-mul (denominator v) ∙ sym (no_numerator v says) }
kind_exactly n w (Kind.Number s h m p) v i number says =
    subst (λ (v : Value). IsExact n v.negative (numerator v) (denominator v) w) (sym says) (record { z = number.v; is = record { word = i; means = number.means }; same = sym number.size })
kind_exactly n w Kind.Nar v i x says = absurd says

read_exactly : (n w : ℕ) (a : Reading) (v : Value) → IsWord n w → Reads n w (Ok a) → Says a v → IsExact n v.negative (numerator v) (denominator v) w
unfolding Says
read_exactly n w a v i x says = kind_exactly n w a.kind v i (reads_as n w a i x).what says

pub what_was_read_is_written_back : promise.WhatWasReadIsWrittenBack
unfolding promise.WhatWasReadIsWrittenBack promise.AWordsValueIsWrittenAsTheWord
what_was_read_is_written_back n w rule a v r i x says y = a_words_value_is_written_as_the_word n rule v w r i.least i.most (read_exactly n w a v i x says) y

pub rounding_commutes_with_negation : promise.RoundingCommutesWithNegation
unfolding promise.RoundingCommutesWithNegation IsWritten with_other_sign numerator denominator
rounding_commutes_with_negation n v w r lo hi x y =
    let w_is = written n Rule.Rounded v (Ok w) lo hi x in
    written_one n lo hi Rule.Rounded (not v.negative) (numerator v) (denominator v) r (Ok (negated n w)) (some_denominator v) (written n Rule.Rounded (with_other_sign v) r lo hi y) (rounded_negated n lo hi v.negative (numerator v) (denominator v) w w_is)

-- the order of two words is that of their values, and so of any multiples of them
pub the_order_of_values_is_that_of_their_words : promise.TheOrderOfValuesIsThatOfTheirWords
unfolding promise.TheOrderOfValuesIsThatOfTheirWords promise.order_of
the_order_of_values_is_that_of_their_words n x y a b u v i j p q says says' =
    let s = read_exactly n x a u i p says in
    let t = read_exactly n y b v j q says' in
    let du = denominator u in
    let dv = denominator v in
    sym
    (order_of_values n x y i j (signed_size u.negative s.z) (signed_size v.negative t.z) s.is.means t.is.means
    ∙ order_times u.negative v.negative s.z t.z (du * dv) (mul-pos (some_denominator u) (some_denominator v))
    ∙ ap₂ (λ (a b : ℕ). order (signed_size u.negative a) (signed_size v.negative b)) (sym (mul_assoc s.z du dv) ∙ ap (λ (a : ℕ). a * dv) s.same) (other t.z du dv ∙ ap (λ (a : ℕ). a * du) t.same))
  where
    other : (z d e : ℕ) → z * (d * e) ≡ z * e * d
    other z d e = omega arith

pub rounding_keeps_the_order : promise.RoundingKeepsOrder
unfolding promise.RoundingKeepsOrder promise.order_of IsWritten
rounding_keeps_the_order n u v x y lo hi h p q =
    rounding_keeps_order n lo hi u.negative v.negative (numerator u) (denominator u) (numerator v) (denominator v) x y (some_denominator u) (some_denominator v) (written n Rule.Rounded u (Ok x) lo hi p) (written n Rule.Rounded v (Ok y) lo hi q) h

-- ---- moves
-- zero is moved as it is written
zero_moved : (n : ℕ) → 2 ≤ n → n ≤ 64 → (rule : Rule) (r : Answer ℕ) (t : Takum) (v : Value) → t ≡ real (pos 0) → v.m ≡ 0 → IsMoved n rule t r → IsWritten n rule v.negative (numerator v) (denominator v) r
unfolding IsMoved is_negative
zero_moved n lo hi rule r t v q m x =
    let same = written_one n lo hi rule false 0 1 r (Ok 0) (omega arith) (subst (λ (t : Takum). IsMoved n rule t r) q x) (zero_written n lo hi rule false 0 1 refl) in
    subst (IsWritten n rule v.negative (numerator v) (denominator v)) (sym same) (zero_written n lo hi rule v.negative (numerator v) (denominator v) (no_numerator v m))

-- where the source is a word, only the target's width can be refused
pub target_tested : (n n' w : ℕ) → IsWord n w → width_test n then width_test n' then stray_test n w ≡ width_test n' then passed
target_tested n n' w i = ap₂ (λ (u v : Verdict). u then width_test n' then v) (width_fits n i.least i.most) (stray_fits n w i.fits)

only_target : (n n' w : ℕ) {q : Refusal} → IsWord n w → width_test n then width_test n' then stray_test n w ≡ Err q → width_test n' ≡ Err q
only_target n n' w {q} i h = by (width_test n') (sym (target_tested n n' w i) ∙ h)
  where
    by : (u : Verdict) → (u then passed) ≡ Err q → u ≡ Err q
    by (Ok _) h = h
    by (Err q') h = h

kind_moved : (n n' w : ℕ) (rule : Rule) (a : Kind) (v : Value) (r : Answer ℕ) → IsWord n w → IsKind (takum n w) (fraction_bits n w) a → KindSays a v → Moves n n' rule w r → Writes n' rule v r
unfolding KindSays IsKind Moves Writes numerator denominator
kind_moved n n' w rule a v r i x says (refused q y) = refused (only_target n n' w i q) y
kind_moved n n' w rule Kind.Zero v r i x says (through q y) =
    let t = width_through n' (move_through n n' w q).1 in
    through (move_through n n' w q).1 (zero_moved n' t.0 t.1 rule r (takum n w) v x says y)
kind_moved n n' w rule (Kind.Number s h m p) v r i number says (through q y) =
    subst (λ (v : Value). Writes n' rule v r) (sym says) (through (move_through n n' w q).1 (number_written n' rule r (takum n w) _ s h m p number y))
kind_moved n n' w rule Kind.Nar v r i x says (through q y) = absurd says

pub a_move_is_a_reading_and_a_writing : promise.AMoveIsAReadingAndAWriting
unfolding promise.AMoveIsAReadingAndAWriting Says
a_move_is_a_reading_and_a_writing n n' w rule a v r i x says = kind_moved n n' w rule a.kind v r i (reads_as n w a i x).what says

pub strict_moves_keep_the_value : promise.StrictMovesKeepTheValue
unfolding promise.StrictMovesKeepTheValue
strict_moves_keep_the_value n n' w w' x = let k = strict_keeps n n' w w' x in (k.to, k.same)

pub a_word_with_the_value_is_given : promise.AWordWithTheValueIsGiven
unfolding promise.AWordWithTheValueIsGiven
a_word_with_the_value_is_given n n' w w' rule r i i' same x = moved_to_the_same n n' w w' rule r i i' same x

pub strict_moves_are_refused_exactly_where_there_is_no_word : promise.StrictMovesAreRefusedExactlyWhereThereIsNoWord
unfolding promise.StrictMovesAreRefusedExactlyWhereThereIsNoWord move_lines
strict_moves_are_refused_exactly_where_there_is_no_word n n' w r i lo hi x =
    given_or_inexact _ r (λ w' q. let k = strict_keeps n n' w w' (subst (Moves n n' Rule.Strict w) q x) in (k.to, k.same))
    (past Err r 2 _ _ (λ h. omega (arith, h, i.fits)) (past Err r 1 _ _ (good_width n' (lo, hi)) (past Err r 1 _ _ (good_width n (i.least, i.most)) (move_follows n n' Rule.Strict w r x))))

pub NaR_moves_to_NaR : promise.NaRMovesToNaR
unfolding promise.NaRMovesToNaR Moves IsMoved
NaR_moves_to_NaR n n' w rule r i lo hi q x = subst (λ (t : Takum). IsMoved n' rule t r) q (answered (move_passes n n' w i lo hi) x)

pub wider_never_changes_nor_refuses : promise.WiderNeverChangesNorRefuses
unfolding promise.WiderNeverChangesNorRefuses
wider_never_changes_nor_refuses n k w rule r room i x = (wider_keeps n k w rule r room i x, zeros_appended n k w i.least room i.fits)

pub there_and_back_again : promise.ThereAndBack
unfolding promise.ThereAndBack
there_and_back_again n n' w w' r x y = there_and_back n n' w w' Rule.Strict r x y

-- a chain keeps the value, however long it is
chain_keeps : (ns : List ℕ) (n w n'' w'' : ℕ) → IsWord n w → Chain n w ns n'' w'' → IsWord n'' w'' × (takum n'' w'' ≡ takum n w)
unfolding Chain
chain_keeps [] n w m v i x = (subst (λ (m : ℕ). IsWord m v) (sym x.0) (subst (IsWord n) (sym x.1) i), ap (λ (m : ℕ). takum m v) x.0 ∙ ap (takum n) x.1)
chain_keeps (n' ∷ ns) n w m v i x =
    let k = strict_keeps n n' w x.0 x.1 in
    let t = chain_keeps ns n' x.0 m v k.to x.2 in
    (t.0, t.1 ∙ k.same)

pub chains_come_home : promise.ChainsComeHome
unfolding promise.ChainsComeHome
chains_come_home n w ns m v r i x y =
    let t = chain_keeps ns n w m v i x in
    moved_to_the_same m n v w Rule.Strict r t.0 i (sym t.1) y

-- ---- the chain as a function goes through it
goes_keeps : (home : ℕ) (ns : List ℕ) (n w v : ℕ) → Goes home n w ns (Ok v) → Kept n home w v
unfolding Goes GivesAWord
goes_keeps home [] n w v x = strict_keeps n home w v x
goes_keeps home (n' ∷ ns) n w v (inl x) =
    let k = strict_keeps n n' w x.0 x.1 in
    let l = goes_keeps home ns n' x.0 v x.2 in
    record { from = k.from; to = l.to; same = l.same ∙ k.same }
goes_keeps home (n' ∷ ns) n w v (inr x) = absurd (subst GivesAWord x.2 tt)

pub goes_home : (n w : ℕ) (ns : List ℕ) (r : Answer ℕ) → Goes n n w ns r → ComesHome n w ns r
goes_home n w ns r x =
    record {
      goes = x;
      home = λ v q.
          let k = goes_keeps n ns n w v (subst (Goes n n w ns) q x) in
          words_differ n v w k.to k.from k.same;
    }
