-- The P figures hold, by one test that is computed over the whole table. Assumes nothing.
use Rattle.bounds.specs.declared.width.Width.{Width}
use Rattle.bounds.specs.declared.refusal.ListRefusal.{ListRefusal}
use Rattle.std.specs.Prelude.{⊤, Ok, Err}
use mathlib.Core.Path.{◌≡◌, refl, sym, ap, ◌∙◌, subst}
use mathlib.Core.Bool.{Bool, true, false, ◌&&◌, ◌||◌, cond}
use mathlib.Core.List.{List, [], ◌∷◌}
use mathlib.Core.Logic.{◌⊎◌, inl, inr, ⊎_elim}
use Prim.Native.Nat.{ℕ, zero, suc, ◌+◌, ◌-◌, ◌*◌, ◌%◌, ◌^◌, ◌<◌}
use native.Mathlib.Nat.{mul-one, zero-lt-suc, le_of_eq, lt_of_le_of_lt, lt_of_lt_of_le}
use native.Mathlib.Omega.{arith}
use lib.Count.{count_leading_zeros, count_trailing_zeros}
use lib.Dec.{T, eqb, leb, ltb, eqb→eq, leb→le, ltb→lt}
use lib.Ieee.Bits.{is_true}
use lib.IntN.{ℤ, pos, negsuc, nat_abs, ◌+ℤ◌}
use Rattle.bounds.specs.declared.answer.Written.{Written}
use Rattle.bounds.specs.declared.refusal.Refusal.{Refusal}
use Rattle.bounds.specs.declared.saying.Saying.{Saying}
use Rattle.word.specs.Takum.{Takum, real, NaR, power, regime_of, characteristic_of, S, D, R, r, p, C, F, c, e, value, meaning, N, padded, takum, or_zero, own_fraction_bits}
use Rattle.word.specs.Reads.{num, den, IsSize, signed_size}
use Rattle.word.specs.Orders.{negated}
use Rattle.word.proofs.Heads.{both}
use Rattle.word.proofs.Integers.{same_integer, same_integer_is}
use Rattle.word.proofs.Units.{unit_some}
use Rattle.bounds.specs.Refusals.{through, Answer, ListAnswer}
use Rattle.bounds.specs.Sayings.{says_exact, written}
use Rattle.bounds.proofs.Answers.{is_exact}
use Rattle.bounds.proofs.Verdicts.{width_fits}
use Rattle.round.specs.declared.value.Rule.{Rule}
use Rattle.round.specs.Writes.{other, IsWritten}
use Rattle.write.specs.Writes.{is_negative, Writes}
use Rattle.write.specs.Sayings.{WritesAndSays, MovesAndSays}
use Rattle.round.proofs.Rounding.{none_between}
use Rattle.write.proofs.OneOutcome.{writes_one, writes_and_says_one, moves_and_says_one}
use Rattle.whole.specs.declared.taking.Taking.{Taking}
use Rattle.whole.specs.Parts.{NearestSize, by_rule}
use Rattle.whole.specs.Wholes.{IsTakenWhole, WritesWhole, TakesWhole}
use Rattle.whole.specs.Sayings.{WritesWholeAndSays}
use Rattle.whole.specs.Shortest.{GivesShortest}
use Rattle.whole.proofs.Answers.{inside, taken_inside}
use Rattle.whole.proofs.NearestWholes.{nearest_whole}
use Rattle.whole.proofs.Refused.{meaning_taken}
use Rattle.whole.proofs.OneOutcome.{taken_one, writes_whole_and_says_one}
use Rattle.promises.specs.Figures.{Said, plus, minus, nar, IsSaid, Figure, reads, has_own, writes, refuses, writes_whole, refuses_whole, takes, says, says_whole, needs, needs_more, refuses_blocks, moves, whole, positive, negative, below, figures, FigureHolds, AllHold}
use Rattle.promises.specs.Demands.{RefusedAs, ReadingIsTheDefinition}
use Rattle.promises.specs.Writing.{numerator, denominator}
use Rattle.promises.specs.Shortest.{bits, ZeroNeeds2}
use Rattle.promises.proofs.OldBlocks.{is_retired}
use Rattle.promises.proofs.Tests.{size_of, same, same_is, either, is_word, word_is, has, has_is}
use Rattle.promises.proofs.Settled.{size_at, is_positive, past_half, before_half, is_rounded, went, size_settled, settled, meaning_settled, move_settled, positive_is, size_has, rounded_is, answered_so, moved_so}
use Rattle.promises.proofs.Demands.{reading_is_the_definition}
use Rattle.promises.proofs.Sayings.{meaning_kept}
use Rattle.promises.proofs.Shortest.{length_of, is_width, is_refused, by_counting, zero_needs_2}

-- ---- reading: the size is the one that is said, and the sign too
said : Said → Takum → Bool
said (plus M k) t = let z = size_of t in eqb (M * num (k +ℤ pos 307)) (z * den (k +ℤ pos 307)) && same t (real (signed_size false z))
said (minus M k) t = let z = size_of t in eqb (M * num (k +ℤ pos 307)) (z * den (k +ℤ pos 307)) && same t (real (signed_size true z))
said nar t = same t NaR

said_is : (x : Said) (t : Takum) → T (said x t) → IsSaid x t
unfolding said IsSaid IsSize
said_is (plus M k) t ok = let u = both (eqb (M * num (k +ℤ pos 307)) (size_of t * den (k +ℤ pos 307))) (same t (real (signed_size false (size_of t)))) ok in (size_of t, eqb→eq _ _ u.0, same_is t _ u.1)
said_is (minus M k) t ok = let u = both (eqb (M * num (k +ℤ pos 307)) (size_of t * den (k +ℤ pos 307))) (same t (real (signed_size true (size_of t)))) ok in (size_of t, eqb→eq _ _ u.0, same_is t _ u.1)
said_is nar t ok = same_is t NaR ok

-- ---- writing
-- M counted in 2^-307
scaled : ℕ → ℕ
scaled M = M * 2 ^ 307

-- the number has that word: rounded, the nearest one; strictly, one of its value
given : ℕ → Rule → ℕ → ℕ → Bool
given n Rule.Rounded M w = is_rounded n (scaled M) 1 w
given n Rule.Strict M w = has n (scaled M) w

-- it is refused strictly: the last word at or below it is found by halving
last_below : ℕ → ℕ → ℕ → ℕ → ℕ
last_below n a zero v = v
last_below n a (suc i) v = cond (leb (size_at n (v + 2 ^ i)) a) (last_below n a i (v + 2 ^ i)) (last_below n a i v)

low_word : ℕ → ℕ → ℕ
low_word n M = last_below n (scaled M) (n - 1) 0

-- the number is strictly between the positive word v and the next
not_given : ℕ → Rule → ℕ → ℕ → ℕ → Bool
not_given n Rule.Rounded M number v = false
not_given n Rule.Strict M number v = (is_positive n v && is_positive n (suc v)) && ((ltb (size_at n v) (scaled M) && ltb (scaled M) (size_at n (suc v))) && eqb number 4)

-- ---- taking: the number is at most a half off, at a half even, has the sign, and is far inside signed 64 bits
half_off : ℕ → ℕ → Bool
half_off a i = (leb (2 * a) (2 * scaled i + 2 ^ 307) && leb (2 * scaled i) (2 * a + 2 ^ 307)) && (eqb (i % 2) 0 || (ltb (2 * a) (2 * scaled i + 2 ^ 307) && ltb (2 * scaled i) (2 * a + 2 ^ 307)))

-- the sign of a meaning
sign_of : Takum → Bool
sign_of (real z) = is_negative z
sign_of NaR = false

taken : ℕ → Taking → ℕ → ℤ → Bool
taken n Taking.Nearest w x = (is_word n w && same (takum n w) (real (signed_size (sign_of (takum n w)) (size_of (takum n w))))) && (same_integer (signed_size (sign_of (takum n w)) (nat_abs x)) x && (half_off (size_of (takum n w)) (nat_abs x) && ltb (nat_abs x) (2 ^ 63)))
taken n Taking.Strict w x = false

-- ---- the shortest width: zero needs 2, and every other number its length, which is 64 at most or past that
within : ℕ → ℕ → Bool
within m n = ltb m (2 ^ 64) && (eqb n (length_of m) && leb (length_of m) 64)

needed : ℤ → ℕ → Bool
needed (pos zero) n = eqb n 2
needed (pos (suc i)) n = within (suc i) n
needed (negsuc i) n = within (suc i) n

needed_more : ℤ → ℕ → Bool
needed_more x number = (ltb 0 (nat_abs x) && ltb (nat_abs x) (2 ^ 64)) && (ltb 64 (length_of (nat_abs x)) && eqb number 4)

-- ---- a move that keeps the meaning, as of zero and NaR
kept : ℕ → ℕ → ℕ → ℕ → Saying → Bool
kept n w n' w' s = (is_word n w && is_word n' w') && (same (takum n' w') (takum n w) && says_exact s)

-- ---- the test of one figure and of a list of them
passes : Figure → Bool
passes (reads n w x) = is_word n w && said x (takum n w)
passes (has_own n w k) = is_word n w && eqb (own_fraction_bits n w) k
passes (writes n rule M w) = given n rule M w
passes (refuses n rule M number) = not_given n rule M number (low_word n M)
passes (writes_whole n rule M w) = given n rule M w
passes (refuses_whole n rule M number) = not_given n rule M number (low_word n M)
passes (takes n rule w x) = taken n rule w x
passes (says n v w s) = settled n v.negative (numerator v) (denominator v) w s
passes (says_whole n x w s) = settled n (is_negative x) (scaled (nat_abs x)) 1 w s
passes (needs x n) = needed x n
passes (needs_more x number) = needed_more x number
passes (refuses_blocks n number) = eqb n 8 && eqb number 13
passes (moves n w n' w' s) = move_settled n w n' w' s || kept n w n' w' s

all_pass : List Figure → Bool
all_pass [] = true
all_pass (f ∷ fs) = passes f && all_pass fs

given_holds : (n : ℕ) (rule : Rule) (M w : ℕ) → T (given n rule M w) → (a : Answer ℕ) → Writes n rule (whole M) a → a ≡ Ok w
unfolding given scaled whole Writes num den IsWritten
given_holds n Rule.Rounded M w t = λ a x.
    let y = rounded_is n (scaled M) 1 w (zero-lt-suc 0) t in
    let i = y.1.is.word in
    writes_one n Rule.Rounded (whole M) a (Ok w) x (through (width_fits n i.least i.most) (other y.0 y.1))
given_holds n Rule.Strict M w t = λ a x.
    let y = has_is n (scaled M) w t in
    writes_one n Rule.Strict (whole M) a (Ok w) x (through (width_fits n y.word.least y.word.most) (record { z = scaled M; is = y; same = mul-one (scaled M) }))

not_given_holds : (n : ℕ) (rule : Rule) (M number v : ℕ) → T (not_given n rule M number v) → (a : Answer ℕ) → Writes n rule (whole M) a → RefusedAs (Answer ℕ) Err number a
unfolding not_given scaled whole Writes num den IsWritten
not_given_holds n Rule.Rounded M number v t = absurd t
not_given_holds n Rule.Strict M number v t = λ a x.
    let z = size_at n v in
    let z' = size_at n (suc v) in
    let u = both (is_positive n v && is_positive n (suc v)) ((ltb z (scaled M) && ltb (scaled M) z') && eqb number 4) t in
    let p = both (is_positive n v) (is_positive n (suc v)) u.0 in
    let w = both (ltb z (scaled M) && ltb (scaled M) z') (eqb number 4) u.1 in
    let y = both (ltb z (scaled M)) (ltb (scaled M) z') w.0 in
    let i = positive_is n v p.0 in
    let j = positive_is n (suc v) p.1 in
    record {
      q = Refusal.Inexact;
      is =
          writes_one n Rule.Strict (whole M) a (Err Refusal.Inexact) x
          (through (width_fits n i.lo i.hi)
          (refl, none_between n i.lo i.hi v z z' (scaled M) 1 (zero-lt-suc 0) i.first j.last (size_has n v i) (size_has n (suc v) j) (lt_of_le_of_lt (le_of_eq (mul-one z)) (ltb→lt z (scaled M) y.0)) (lt_of_lt_of_le (ltb→lt (scaled M) z' y.1) (le_of_eq (sym (mul-one z'))))));
      known = sym (eqb→eq number 4 w.1);
    }

half_off_is : (a i : ℕ) → T (half_off a i) → NearestSize (2 ^ 307) a i
unfolding half_off scaled
half_off_is a i t =
    let u = both (leb (2 * a) (2 * scaled i + 2 ^ 307) && leb (2 * scaled i) (2 * a + 2 ^ 307)) (eqb (i % 2) 0 || (ltb (2 * a) (2 * scaled i + 2 ^ 307) && ltb (2 * scaled i) (2 * a + 2 ^ 307))) t in
    let v = both (leb (2 * a) (2 * scaled i + 2 ^ 307)) (leb (2 * scaled i) (2 * a + 2 ^ 307)) u.0 in
    record { up_to = leb→le _ _ v.0; from = leb→le _ _ v.1; tie_above = λ q. even u.1 (inl q); tie_below = λ q. even u.1 (inr q) }
  where
    tie : (c d : ℕ) → c < d → c ≡ d → ⊥
    tie c d h q = omega (arith, h, q)

    apart_from : (c d : ℕ) → T (ltb c d) → c ≡ d → i % 2 ≡ 0
    apart_from c d t q = absurd (tie c d (ltb→lt c d t) q)

    even : T (eqb (i % 2) 0 || (ltb (2 * a) (2 * scaled i + 2 ^ 307) && ltb (2 * scaled i) (2 * a + 2 ^ 307))) → (2 * a ≡ 2 * scaled i + 2 ^ 307) ⊎ (2 * scaled i ≡ 2 * a + 2 ^ 307) → i % 2 ≡ 0
    even t e =
        ⊎_elim (eqb→eq (i % 2) 0)
        (λ k. let v = both (ltb (2 * a) (2 * scaled i + 2 ^ 307)) (ltb (2 * scaled i) (2 * a + 2 ^ 307)) k in ⊎_elim (apart_from (2 * a) (2 * scaled i + 2 ^ 307) v.0) (apart_from (2 * scaled i) (2 * a + 2 ^ 307) v.1) e)
        (either (eqb (i % 2) 0) (ltb (2 * a) (2 * scaled i + 2 ^ 307) && ltb (2 * scaled i) (2 * a + 2 ^ 307)) t)

taken_holds : (n : ℕ) (rule : Taking) (w : ℕ) (x : ℤ) → T (taken n rule w x) → (a : Answer ℤ) → TakesWhole n rule w a → a ≡ Ok x
unfolding taken by_rule
taken_holds n Taking.Strict w x t = absurd t
taken_holds n Taking.Nearest w x t = λ a y.
    let s = sign_of (takum n w) in
    let v = size_of (takum n w) in
    let word = both (is_word n w) (same (takum n w) (real (signed_size s v))) (both (is_word n w && same (takum n w) (real (signed_size s v))) (same_integer (signed_size s (nat_abs x)) x && (half_off v (nat_abs x) && ltb (nat_abs x) (2 ^ 63))) t).0 in
    let number = both (same_integer (signed_size s (nat_abs x)) x) (half_off v (nat_abs x) && ltb (nat_abs x) (2 ^ 63)) (both (is_word n w && same (takum n w) (real (signed_size s v))) (same_integer (signed_size s (nat_abs x)) x && (half_off v (nat_abs x) && ltb (nat_abs x) (2 ^ 63))) t).1 in
    let near = both (half_off v (nat_abs x)) (ltb (nat_abs x) (2 ^ 63)) number.1 in
    taken_one Taking.Nearest (real (signed_size s v)) a (Ok x) (meaning_taken n Taking.Nearest w a (word_is n w word.0) y (real (signed_size s v)) (same_is (takum n w) (real (signed_size s v)) word.1))
    (subst (λ (z : ℤ). IsTakenWhole Taking.Nearest (real (signed_size s v)) (Ok z)) (same_integer_is (signed_size s (nat_abs x)) x number.0) (taken_inside Taking.Nearest (signed_size s v) (signed_size s (nat_abs x)) _ (nearest_whole s v (nat_abs x) (half_off_is v (nat_abs x) near.0)) (inside s (nat_abs x) (ltb→lt (nat_abs x) (2 ^ 63) near.1)) refl))

within_holds : (x : ℤ) (n : ℕ) → zero < nat_abs x → T (within (nat_abs x) n) → (a : Answer Width) → GivesShortest x a → a ≡ bits n
unfolding within
within_holds x n some t = λ a y.
    let m = nat_abs x in
    let u = both (ltb m (2 ^ 64)) (eqb n (length_of m) && leb (length_of m) 64) t in
    let v = both (eqb n (length_of m)) (leb (length_of m) 64) u.1 in
    is_width (length_of m) a (by_counting x a some (ltb→lt m (2 ^ 64) u.0) y) (leb→le (length_of m) 64 v.1) ∙ ap bits (sym (eqb→eq n (length_of m) v.0))

needed_holds : (x : ℤ) (n : ℕ) → T (needed x n) → (a : Answer Width) → GivesShortest x a → a ≡ bits n
unfolding needed ZeroNeeds2
needed_holds (pos zero) n t = λ a y. zero_needs_2 a y ∙ ap bits (sym (eqb→eq n 2 t))
needed_holds (pos (suc i)) n t = within_holds (pos (suc i)) n (zero-lt-suc i) t
needed_holds (negsuc i) n t = within_holds (negsuc i) n (zero-lt-suc i) t

needed_more_holds : (x : ℤ) (number : ℕ) → T (needed_more x number) → (a : Answer Width) → GivesShortest x a → RefusedAs (Answer Width) Err number a
unfolding needed_more
needed_more_holds x number t = λ a y.
    let m = nat_abs x in
    let u = both (ltb 0 m && ltb m (2 ^ 64)) (ltb 64 (length_of m) && eqb number 4) t in
    let inside = both (ltb 0 m) (ltb m (2 ^ 64)) u.0 in
    let past = both (ltb 64 (length_of m)) (eqb number 4) u.1 in
    subst (λ (k : ℕ). RefusedAs (Answer Width) Err k a) (sym (eqb→eq number 4 past.1))
    (is_refused (length_of m) a (by_counting x a (ltb→lt 0 m inside.0) (ltb→lt m (2 ^ 64) inside.1) y) (ltb→lt 64 (length_of m) past.0))

kept_holds : (n w n' w' : ℕ) (s : Saying) → T (kept n w n' w' s) → (a : Answer Written) → MovesAndSays n n' Rule.Rounded w a → a ≡ written w' s
unfolding kept
kept_holds n w n' w' s t a x =
    let u = both (is_word n w && is_word n' w') (same (takum n' w') (takum n w) && says_exact s) t in
    let words = both (is_word n w) (is_word n' w') u.0 in
    let exact = both (same (takum n' w') (takum n w)) (says_exact s) u.1 in
    meaning_kept n n' Rule.Rounded w w' a (word_is n w words.0) (word_is n' w' words.1) (same_is (takum n' w') (takum n w) exact.0) x ∙ ap (written w') (sym (is_exact s (is_true (says_exact s) exact.1)))

-- a whole number is offered as the value is
as_value : (n : ℕ) (rule : Rule) (M : ℕ) (a : Answer ℕ) → WritesWhole n rule (pos M) a → Writes n rule (whole M) a
unfolding WritesWhole Writes whole is_negative num den
as_value n rule M a x = x

holds : (f : Figure) → T (passes f) → FigureHolds f
unfolding passes FigureHolds ReadingIsTheDefinition WritesAndSays Writes WritesWholeAndSays WritesWhole numerator denominator scaled
holds (reads n w x) ok = λ a h.
    let y = both (is_word n w) (said x (takum n w)) ok in
    let (r, same, is) = reading_is_the_definition n w a (word_is n w y.0) h in
    (r, same, (takum n w, said_is x (takum n w) y.1, is))
holds (has_own n w k) ok =
    let y = both (is_word n w) (eqb (own_fraction_bits n w) k) ok in
    let i = word_is n w y.0 in
    (i, λ a h. let (r, same, is) = reading_is_the_definition n w a i h in (r, same, is.fine ∙ eqb→eq (own_fraction_bits n w) k y.1))
holds (writes n rule M w) ok = given_holds n rule M w ok
holds (refuses n rule M number) ok = not_given_holds n rule M number (low_word n M) ok
holds (writes_whole n rule M w) ok = λ a x. given_holds n rule M w ok a (as_value n rule M a x)
holds (takes n rule w x) ok = taken_holds n rule w x ok
holds (refuses_whole n rule M number) ok = λ a x. not_given_holds n rule M number (low_word n M) ok a (as_value n rule M a x)
holds (says n v w s) ok = λ a x. writes_and_says_one n Rule.Rounded v a (written w s) x (answered_so n v.negative (numerator v) (denominator v) w s (unit_some (v.k +ℤ pos 307)).1 ok)
holds (says_whole n x w s) ok = λ a y. writes_whole_and_says_one n Rule.Rounded x a (written w s) y (answered_so n (is_negative x) (scaled (nat_abs x)) 1 w s (zero-lt-suc 0) ok)
holds (needs x n) ok = needed_holds x n ok
holds (needs_more x number) ok = needed_more_holds x number ok
holds (refuses_blocks n number) ok = λ words buffer a x.
    let y = both (eqb n 8) (eqb number 13) ok in
    subst (λ (k : ℕ). RefusedAs (ListAnswer ⊤) (λ q. Err (ListRefusal.Whole q)) k a) (sym (eqb→eq number 13 y.1)) (is_retired n words buffer a (eqb→eq n 8 y.0) x)
holds (moves n w n' w' s) ok = λ a x. ⊎_elim (λ t. moves_and_says_one n n' Rule.Rounded w a (written w' s) x (moved_so n w n' w' s t)) (λ t. kept_holds n w n' w' s t a x) (either (move_settled n w n' w' s) (kept n w n' w' s) ok)

all_hold : (fs : List Figure) → T (all_pass fs) → AllHold fs
unfolding all_pass AllHold
all_hold [] t = tt
all_hold (f ∷ fs) t = let x = both (passes f) (all_pass fs) t in (holds f x.0, all_hold fs x.1)

pub figures_hold : AllHold figures
unfolding figures below said num den signed_size power same is_word passes all_pass regime_of characteristic_of S D R r p C F c e value meaning N padded takum or_zero own_fraction_bits has low_word last_below size_of scaled given not_given half_off sign_of taken is_negative positive negative numerator denominator negated size_at is_positive past_half before_half is_rounded went size_settled settled meaning_settled move_settled kept within needed needed_more length_of count_leading_zeros count_trailing_zeros
figures_hold = all_hold figures tt
