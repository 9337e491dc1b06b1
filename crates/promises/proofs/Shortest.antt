-- The promises that specs/Shortest.antt states, from the laws of the shortest width. Assumes nothing.
use Rattle.std.specs.Prelude.{Ok, Err}
use Rattle.bounds.specs.declared.width.Width.{Width}
use Rattle.bounds.specs.Refusals.{passed, Answer}
use mathlib.Core.Path.{◌≡◌, refl, sym, ap, ◌∙◌, subst}
use mathlib.Core.Bool.{◌&&◌}
use mathlib.Core.Logic.{◌⊎◌, inl, inr}
use Prim.Native.Nat.{ℕ, zero, suc, ◌+◌, ◌-◌, ◌*◌, ◌^◌, ◌≤◌, ◌<◌}
use native.Mathlib.Decide.{dec_lt}
use native.Mathlib.Nat.{two-pow-succ, lt_of_le_of_lt, lt_of_not-le, mul-pos, zero-lt-suc}
use native.Mathlib.Omega.{arith}
use lib.Count.{count_leading_zeros, count_trailing_zeros}
use borrow.Author.Tests.{ltb-true, leb-true}
use lib.Dec.{eqb, leb, ltb, lit<, lit≤}
use lib.IntN.{ℤ, pos, negsuc, nat_abs}
use lib.Pow.{pow_pos}
use Rattle.bounds.specs.declared.refusal.Refusal.{Refusal}
use Rattle.bounds.proofs.Limits.{exponent_lt}
use Rattle.bounds.proofs.Powers.{Log, leading_log, not_more}
use Rattle.bounds.proofs.Verdicts.{open_when}
use Rattle.nearest.specs.Nearest.{HasValue}
use Rattle.nearest.proofs.Places.{word_of, has_value, place_of}
use Rattle.write.specs.Writes.{is_negative}
use Rattle.whole.specs.Wholes.{over_test}
use Rattle.whole.specs.Limits.{EveryWholeNumberUpToTheLimitHasAWord, TheLimitPlusOneHasNoWord}
use Rattle.whole.specs.Shortest.{HasWord, GivesShortest}
use Rattle.whole.specs.Lengths.{IsLog, IsMax, N0, UpTo, when, reduced_once, printed_length, corrected_length}
use Rattle.whole.specs.Parts.{IsFirstReduction, IsLastReduction, IsLength}
use Rattle.whole.proofs.LimitLarge.{wider}
use Rattle.whole.proofs.LimitWords.{every_whole_number_up_to_the_limit_has_a_word, the_limit_plus_one_has_no_word}
use Rattle.whole.proofs.OddParts.{one_greatest, greatest_of_all, greatest_up_to, first_zeros, last_zeros}
use Rattle.whole.proofs.Lengths.{BeginsAt, counted, length_counted, a_length, begins_at}
use Rattle.whole.proofs.ShortestWidths.{has_size, given_for_zero, given_at, refused_past}
use Rattle.whole.proofs.OneOutcome.{gives_shortest_one}
use Rattle.promises.specs.Demands.{RefusedAs}
use Rattle.promises.specs.Numbers as numbers
use Rattle.promises.specs.Numbers.{IsWhole}
use Rattle.promises.specs.Writing.{GivenOrInexact}
use Rattle.promises.specs.Shortest as promise
use Rattle.promises.specs.Shortest.{bits}
use Rattle.promises.proofs.Numbers.{known, a_whole_number_is_refused_exactly_where_it_has_no_word}

-- ---- the least width
pub the_answered_width_has_a_word : promise.TheAnsweredWidthHasAWord
unfolding promise.TheAnsweredWidthHasAWord GivesShortest HasWord IsWhole
the_answered_width_has_a_word x n y = (y.least, y.most, y.has)

pub no_smaller_width_has_a_word : promise.NoSmallerWidthHasAWord
unfolding promise.NoSmallerWidthHasAWord GivesShortest HasWord IsWhole
no_smaller_width_has_a_word x n y k w lo less v = y.none_shorter k lo less (w, v)

-- with zeros appended a word keeps its value
wider_has : (x : ℤ) (n k : ℕ) → n ≤ k → k ≤ 64 → HasWord n x → HasWord k x
unfolding HasWord
wider_has x n k le hi w = (_, wider n k (is_negative x) _ w.0 le hi w.1)

pub every_greater_width_has_a_word : promise.EveryGreaterWidthHasAWord
unfolding promise.EveryGreaterWidthHasAWord GivesShortest HasWord IsWhole
every_greater_width_has_a_word x n y k le hi = wider_has x n k le hi y.has

-- an answer is a width, or INEXACT
refused_so : (x : ℤ) (q : Refusal) → GivesShortest x (Err q) → RefusedAs (Answer Width) Err 4 (Err q)
unfolding GivesShortest
refused_so x q y = record { q = Refusal.Inexact; is = ap Err y.0; known = refl }

pub a_number_is_refused_exactly_where_no_width_has_a_word : promise.ANumberIsRefusedExactlyWhereNoWidthHasAWord
unfolding promise.ANumberIsRefusedExactlyWhereNoWidthHasAWord GivesShortest HasWord IsWhole
a_number_is_refused_exactly_where_no_width_has_a_word x (Ok n) y = inl (n.bits, y.has.0, refl, y.least, y.most, y.has.1)
a_number_is_refused_exactly_where_no_width_has_a_word x (Err q) y = inr (refused_so x q y, λ n w lo hi v. y.1 n lo hi (w, v))

pub strict_writing_begins_at_the_answered_width : promise.StrictWritingBeginsAtTheAnsweredWidth
unfolding promise.StrictWritingBeginsAtTheAnsweredWidth promise.NoSmallerWidthHasAWord promise.EveryGreaterWidthHasAWord GivenOrInexact numbers.AWholeNumberIsRefusedExactlyWhereItHasNoWord
strict_writing_begins_at_the_answered_width x n k r y lo hi t = by (a_whole_number_is_refused_exactly_where_it_has_no_word k x r lo hi t)
  where
    by : GivenOrInexact (IsWhole k x) r → (n ≤ k → (w : ℕ) × (r ≡ Ok w)) × (k < n → RefusedAs (Answer ℕ) Err 4 r)
    by (inl (w, is, v)) = ((λ le. (w, is)), (λ less. absurd (no_smaller_width_has_a_word x n y k w lo less v)))
    by (inr (is, none)) = ((λ le. let v = every_greater_width_has_a_word x n y k le hi in absurd (none v.0 v.1)), (λ less. is))

pub zero_needs_2 : promise.ZeroNeeds2
unfolding promise.ZeroNeeds2
zero_needs_2 a y = gives_shortest_one (pos 0) a (bits 2) y given_for_zero

-- ---- the letters of every number
-- the length by the counts of zeros at both ends
unfoldable pub length_of : ℕ → ℕ
length_of m =
    let v = 63 - count_leading_zeros 64 m + 1 in
    let w = count_trailing_zeros 64 m in
    let log = 31 - count_leading_zeros 32 v in
    4 + v + log - w - when (eqb (w + 1) v) (count_trailing_zeros 32 v) - when (eqb (w + 1) v && eqb v (2 ^ log)) (count_trailing_zeros 32 (8 + log))

length_of_lem : (m : ℕ) → zero < m → m < 2 ^ 64 → IsLength m (length_of m)
unfolding length_of IsFirstReduction IsLastReduction
length_of_lem m some fits = let k = counted m top log some fits t.1.low (omega (arith, t.1.high, two-pow-succ top)) u.1.low (omega (arith, u.1.high, two-pow-succ log)) in
    length_counted m _ _ _ _ _ k (_, first_zeros _ _ k.log_is (omega (arith, k.most)), refl) (_, last_zeros _ k.short, refl)
  where
    top : ℕ
    top = 63 - count_leading_zeros 64 m

    log : ℕ
    log = 31 - count_leading_zeros 32 (top + 1)

    t : (count_leading_zeros 64 m < 64) × Log top m
    t = leading_log 64 m some fits

    u : (count_leading_zeros 32 (top + 1) < 32) × Log log (top + 1)
    u = leading_log 32 (top + 1) (omega arith) (omega arith)

-- inside signed 64 bits a size is below 2^64
fits : (x : ℤ) → over_test x ≡ passed → nat_abs x < 2 ^ 64
unfolding over_test
fits (pos i) h = omega (arith, ltb-true i (2 ^ 63) (open_when (ltb i (2 ^ 63)) Refusal.Over h))
fits (negsuc i) h = omega (arith, leb-true (suc i) (2 ^ 63) (open_when (leb (suc i) (2 ^ 63)) Refusal.Over h))

pub every_number_has_its_letters : promise.EveryNumberHasItsLetters
unfolding promise.EveryNumberHasItsLetters IsLength
every_number_has_its_letters x inside not_zero = (length_of_lem (nat_abs x) (has_size x not_zero) (fits x inside)).0

-- ---- what is answered for a number whose words begin at l
abbrev pub ByLength : ℕ → Answer Width → Type 0
ByLength l a = ((l ≤ 64) × (a ≡ bits l)) ⊎ ((64 < l) × RefusedAs (Answer Width) Err 4 a)

by_length : (x : ℤ) (l : ℕ) (a : Answer Width) → BeginsAt (nat_abs x) l → GivesShortest x a → ByLength l a
by_length x l a begins y = by (dec_lt 64 l)
  where
    by : Dec (64 < l) → ByLength l a
    by (yes past) = inr (past, record { q = Refusal.Inexact; is = gives_shortest_one x a (Err Refusal.Inexact) y (refused_past x l begins past); known = refl })
    by (no f) = inl (not_more f, gives_shortest_one x a (bits l) y (given_at x l begins (not_more f)))

pub is_width : (l : ℕ) (a : Answer Width) → ByLength l a → l ≤ 64 → a ≡ bits l
is_width l a (inl (le, is)) h = is
is_width l a (inr (past, r)) h = absurd (omega (arith, past, h))

pub is_refused : (l : ℕ) (a : Answer Width) → ByLength l a → 64 < l → RefusedAs (Answer Width) Err 4 a
is_refused l a (inl (le, is)) h = absurd (omega (arith, le, h))
is_refused l a (inr (past, r)) h = r

-- which is the length as it is counted
pub by_counting : (x : ℤ) (a : Answer Width) → zero < nat_abs x → nat_abs x < 2 ^ 64 → GivesShortest x a → ByLength (length_of (nat_abs x)) a
unfolding IsLength
by_counting x a some fits y = let t = length_of_lem (nat_abs x) some fits in by_length x (length_of (nat_abs x)) a (begins_at (nat_abs x) (length_of (nat_abs x)) t.0 fits t.1) y

pub the_answer_is_the_corrected_length : promise.TheAnswerIsTheCorrectedLength
unfolding promise.TheAnswerIsTheCorrectedLength
the_answer_is_the_corrected_length x a t inside y =
    let l = a_length (nat_abs x) t (fits x inside) in
    (l.0, l.1, by_length x l.0 a (begins_at (nat_abs x) l.0 t (fits x inside) l.1) y)

-- ---- either sign
-- at a width a size has words of both signs, or of neither
either_sign : (x y : ℤ) (n : ℕ) → nat_abs x ≡ nat_abs y → zero < nat_abs x → 2 ≤ n → n ≤ 64 → HasWord n x → HasWord n y
unfolding HasWord
either_sign x y n q some lo hi w =
    let s = is_negative y in
    let t = place_of n lo hi (is_negative x) (nat_abs x * 2 ^ 307) w.0 (mul-pos {m = nat_abs x} {n = 2 ^ 307} some (pow_pos 307)) w.1 in
    (word_of n s t.v, subst (λ (z : ℕ). HasValue n s z (word_of n s t.v)) (sym t.size_is ∙ ap (λ (i : ℕ). i * 2 ^ 307) q) (has_value n lo hi s t.v t.first t.last))

-- so numbers of one size have one answer
by_size : (x y : ℤ) (a : Answer Width) → nat_abs x ≡ nat_abs y → zero < nat_abs x → GivesShortest x a → GivesShortest y a
unfolding GivesShortest
by_size x y (Ok n) q some g = record {
  least = g.least;
  most = g.most;
  has = either_sign x y n.bits q some g.least g.most g.has;
  none_shorter = λ k lo less w. g.none_shorter k lo less (either_sign y x k (sym q) (subst (λ (i : ℕ). zero < i) q some) lo (omega (arith, less, g.most)) w);
}
by_size x y (Err r) q some g = (g.0, λ n lo hi w. g.1 n lo hi (either_sign y x n (sym q) (subst (λ (i : ℕ). zero < i) q some) lo hi w))

pub the_negated_number_needs_as_much : promise.TheNegatedNumberNeedsAsMuch
unfolding promise.TheNegatedNumberNeedsAsMuch
the_negated_number_needs_as_much (pos zero) a b y z = gives_shortest_one (pos 0) a b y z
the_negated_number_needs_as_much (pos (suc i)) a b y z = gives_shortest_one (negsuc i) a b (by_size (pos (suc i)) (negsuc i) a refl (zero-lt-suc i) y) z
the_negated_number_needs_as_much (negsuc i) a b y z = gives_shortest_one (pos (suc i)) a b (by_size (negsuc i) (pos (suc i)) a refl (zero-lt-suc i) y) z

-- ---- as it is printed
-- a number has one logarithm
one_log : (a k j : ℕ) → IsLog a k → IsLog a j → k ≡ j
one_log a k j x y = omega (arith, exponent_lt k (j + 1) (lt_of_le_of_lt x.low y.high), exponent_lt j (k + 1) (lt_of_le_of_lt y.low x.high))

pub as_printed_the_length_of_9_is_9 : promise.AsPrintedTheLengthOf9Is9
unfolding promise.AsPrintedTheLengthOf9Is9 printed_length corrected_length reduced_once
as_printed_the_length_of_9_is_9 t = (rw (v, w, log, last), rw (v, w, log))
  where
    v : t.v ≡ 4
    v = t.v_is ∙ ap (λ (k : ℕ). 1 + k) (one_log 9 t.top 3 t.top_is (record { low = lit≤ tt; high = lit< tt }))

    w : t.w ≡ 0
    w = one_greatest N0 9 t.w 0 t.w_is (greatest_of_all 9 0 (record { q = 9; is = refl; odd = refl }))

    log : t.log ≡ 2
    log = one_log 4 t.log 2 (subst (λ (a : ℕ). IsLog a t.log) v t.log_is) (record { low = lit≤ tt; high = lit< tt })

    last : t.last ≡ 1
    last = one_greatest (UpTo 3) 2 t.last 1 (subst (λ (a : ℕ). IsMax (UpTo 3) a t.last) log t.last_is) (greatest_up_to 3 2 1 (lit< tt) (record { q = 5; is = refl; odd = refl }))

-- ---- the exact-count limit
pub up_to_the_limit_a_number_needs_no_more : promise.UpToTheLimitANumberNeedsNoMore
unfolding promise.UpToTheLimitANumberNeedsNoMore EveryWholeNumberUpToTheLimitHasAWord GivesShortest HasWord
up_to_the_limit_a_number_needs_no_more n l x a g le y =
    let k = known n l g in
    by a y k.lo k.hi (every_whole_number_up_to_the_limit_has_a_word n l k.lo k.hi k.limit (nat_abs x) le (is_negative x))
  where
    by : (a : Answer Width) → GivesShortest x a → 2 ≤ n → n ≤ 64 → HasWord n x → (k : ℕ) × (a ≡ bits k) × (k ≤ n)
    by (Ok k) y lo hi w = (k.bits, refl, not_more (λ (l : n < k.bits). y.none_shorter n lo l w))
    by (Err q) y lo hi w = absurd (y.1 n lo hi w)

pub the_limit_plus_one_needs_more : promise.TheLimitPlusOneNeedsMore
unfolding promise.TheLimitPlusOneNeedsMore TheLimitPlusOneHasNoWord GivesShortest HasWord
the_limit_plus_one_needs_more n l x a g is y =
    let k = known n l g in
    by a y k.hi (λ w. the_limit_plus_one_has_no_word n l k.lo k.hi k.limit (is_negative x) w.0 (subst (λ (i : ℕ). HasValue n (is_negative x) (i * 2 ^ 307) w.0) is w.1))
  where
    by : (a : Answer Width) → GivesShortest x a → n ≤ 64 → (HasWord n x → ⊥) → ((k : ℕ) × (a ≡ bits k) × (n < k)) ⊎ RefusedAs (Answer Width) Err 4 a
    by (Ok k) y hi none = inl (k.bits, refl, lt_of_not-le (λ (le : k.bits ≤ n). none (wider_has x k.bits n le hi y.has)))
    by (Err q) y hi none = inr (refused_so x q y)
