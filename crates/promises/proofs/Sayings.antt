-- The promises that specs/Sayings.antt states: each law once, of whatever is meant, since each call writes what is meant. Assumes nothing.
use Rattle.std.specs.Prelude.{Ok, Err}
use Rattle.bounds.specs.declared.refusal.ListRefusal.{ListRefusal}
use mathlib.Core.Path.{◌≡◌, refl, sym, ap, ap₂, ◌∙◌, subst, subst₂}
use mathlib.Core.Bool.{Bool, true, false, true≢false, not}
use mathlib.Core.List.{List}
use mathlib.Core.Logic.{◌⊎◌, inl, inr, ⊎_elim}
use Prim.Native.Nat.{ℕ, zero, suc, ◌+◌, ◌-◌, ◌*◌, ◌/◌, ◌%◌, ◌^◌, ◌≤◌, ◌<◌}
use native.Mathlib.Nat.{le_of_lt, le_trans, mul_comm, le-div_iff_mul-le, zero-mul, zero-lt-suc}
use native.Mathlib.Decide.{dec_lt}
use native.Mathlib.Omega.{arith}
use lib.Dec.{lit≤}
use lib.Ieee.{Float, nan, inf, fin, neg}
use lib.Ieee.Fits.{down_pos}
use lib.IntN.{ℤ, pos, negsuc, neg_ℤ, nat_abs, ◌*ℤ◌, ◌+ℤ◌, ◌-ℤ◌}
use lib.ListN.{length, get_or}
use lib.Pow.{pow_pos}
use lib.Signed.{lt_z}
use Rattle.bounds.specs.declared.answer.Written.{Written}
use Rattle.bounds.specs.declared.saying.Saying.{Saying}
use Rattle.bounds.specs.declared.saying.Saying.TheVariants.{Exact, Below, Above, PastTheEnd}
use Rattle.bounds.specs.Refusals.{number_of, IsWord, through, refused, Answer, ListAnswer}
use Rattle.bounds.specs.Sayings.{saying_number, says_exact, opposite_saying, plain, AndSays, written}
use Rattle.bounds.specs.Widths.{nar_word, largest, smallest}
use Rattle.bounds.proofs.Answers.{word_of, GivesAWord, same_word, plain_word, word_said, said_one}
use Rattle.bounds.proofs.Powers.{twice, shl_below}
use Rattle.bounds.proofs.Verdicts.{width_fits, width_through, move_passes, move_through, answered}
use Rattle.word.specs.declared.reading.Kind.{Kind}
use Rattle.word.specs.Takum.{Takum, real, NaR, takum, fraction_bits}
use Rattle.word.specs.Reads.{num, den, signed_size, IsKind, Reads}
use Rattle.word.specs.Orders as orders
use Rattle.word.specs.Orders.{order, negated}
use Rattle.word.proofs.Signed.{order_below, order_above, order_equal, negated_zero, negated_other}
use Rattle.word.proofs.Units.{unit_some}
use Rattle.word.proofs.Values.{grown, NaR_word, negated_word, negation_negates}
use Rattle.word.proofs.Words.{takum_zero, zeros_appended}
use Rattle.nearest.specs.Nearest.{HasValue}
use Rattle.nearest.specs.Offers.{IsOffered}
use Rattle.nearest.specs.Sayings as nearest
use Rattle.nearest.proofs.Places as places
use Rattle.nearest.proofs.Places.{two, has_value, value_is}
use Rattle.nearest.proofs.Sayings.{says_one, says_negated, exact_size, size_exact}
use Rattle.round.specs.declared.value.Rule.{Rule}
use Rattle.round.specs.Writes.{IsRounded, zero, other, IsWritten, WritesShort, WritesSize, WritesLong}
use Rattle.round.specs.Sayings.{WritesShortAndSays, WritesSizeAndSays, WritesLongAndSays}
use Rattle.round.proofs.Jamming.{exact_between, jammed_between}
use Rattle.round.proofs.Long.{some_rest, finer_offer}
use Rattle.round.proofs.OneOutcome.{written_word}
use Rattle.round.proofs.Rounding.{past_the_largest, before_the_smallest, exact_written, rounded_negated, written_one}
use Rattle.round.proofs.Rules.{zero_value}
use Rattle.round.proofs.Sayings.{says_times, says_reduced}
use Rattle.write.specs.declared.value.Value.{Value}
use Rattle.write.specs.Writes.{is_negative, IsMoved, Writes, Moves}
use Rattle.write.specs.Sayings.{SaysMoved, WritesAndSays, MovesAndSays}
use Rattle.write.proofs.Meanings.{said_number}
use Rattle.write.proofs.Moves.{meaning_exact, moved_to_the_same, strict_keeps}
use Rattle.write.proofs.OneOutcome.{moves_says_one}
use Rattle.write.proofs.Sayings.{exact_means, means_exact}
use Rattle.whole.specs.Wholes.{WritesWhole}
use Rattle.whole.specs.Sayings.{WritesWholeAndSays}
use Rattle.binary64.specs.Writes.{IsWrittenBinary64, WritesBinary64}
use Rattle.binary64.specs.Sayings.{SaysBinary64, WritesBinary64AndSays}
use Rattle.column.specs.declared.moving.MovedColumn.{MovedColumn}
use Rattle.column.specs.Columns.{how_many, Movable, MovableUpTo, IsTried, MovesColumn, Holds}
use Rattle.column.specs.Counts.{Counts, KeepsTheMeaning, CountsExact, HoldsAndCounts}
use Rattle.column.proofs.Counts.{counts_one, counts_all, counted_all, counts_alike}
use Rattle.column.proofs.Positions.{passes, moved_passed, every_word_counted, word_at}
use Rattle.promises.specs.Demands.{RefusedAs, TheNaRWord}
use Rattle.promises.specs.Hub.{significand, long_numerator, long_denominator}
use Rattle.promises.specs.Sayings as promise
use Rattle.promises.specs.Sayings.{Offered, value, whole, binary64, word, short, size, long, IsFit, Gives, Meant, number, nar, of_takum, of_float, of_short, meant, HasTheMeaning, TellTheSame, MeanTheSame, opposite, Moved}
use Rattle.promises.specs.Writing.{numerator, denominator, with_other_sign, of_sign, KindSays, Says, AMoveIsAReadingAndAWriting, WiderNeverChangesNorRefuses}
use Rattle.promises.proofs.Demands.{reads_as, the_NaR_word}
use Rattle.promises.proofs.Hub.{equal_fraction}
use Rattle.promises.proofs.Jammed.{same_said}
use Rattle.promises.proofs.Writing.{no_numerator, of_sign_lem, a_move_is_a_reading_and_a_writing, wider_never_changes_nor_refuses}

pub saying_numbers_are_0_to_3 : promise.SayingNumbersAre0To3
unfolding promise.SayingNumbersAre0To3
saying_numbers_are_0_to_3 s t = (at_most s, apart s t)
  where
    at_most : (s : Saying) → saying_number s ≤ 3
    at_most Exact = omega arith
    at_most Below = omega arith
    at_most Above = omega arith
    at_most PastTheEnd = omega arith

    of_number : ℕ → Saying
    of_number zero = Exact
    of_number (suc zero) = Below
    of_number (suc (suc zero)) = Above
    of_number (suc (suc (suc n))) = PastTheEnd

    back : (s : Saying) → of_number (saying_number s) ≡ s
    back Exact = refl
    back Below = refl
    back Above = refl
    back PastTheEnd = refl

    apart : (s t : Saying) → saying_number s ≡ saying_number t → s ≡ t
    apart s t q = sym (back s) ∙ ap of_number q ∙ back t

-- past the end or not, by the sizes of the end words
past_or_not : (n a b : ℕ) → 2 ≤ n → n ≤ 64 → nearest.IsPastTheEnd n a b ⊎ (nearest.IsPastTheEnd n a b → ⊥)
unfolding largest smallest places.word_of
past_or_not n a b lo hi = by (dec_lt (z * b) a) (dec_lt 0 a) (dec_lt a (z' * b))
  where
    last : 2 ^ (n - 1) - 1 < 2 ^ (n - 1)
    last = omega (arith, two n lo hi)

    some : 0 < 2 ^ (n - 1) - 1
    some = omega (arith, two n lo hi)

    first : 1 < 2 ^ (n - 1)
    first = omega (arith, two n lo hi)

    z : ℕ
    z = grown n (2 ^ (n - 1) - 1)

    z' : ℕ
    z' = grown n 1

    neither : (z * b < a → ⊥) → (0 < a → a < z' * b → ⊥) → nearest.IsPastTheEnd n a b → ⊥
    neither f g (nearest.beyond y is l) = f (subst (λ (k : ℕ). k * b < a) (value_is n lo hi y (2 ^ (n - 1) - 1) some last is) l)
    neither f g (nearest.short y is h l) = g h (subst (λ (k : ℕ). a < k * b) (value_is n lo hi y 1 (zero-lt-suc 0) first is) l)

    by : Dec (z * b < a) → Dec (0 < a) → Dec (a < z' * b) → nearest.IsPastTheEnd n a b ⊎ (nearest.IsPastTheEnd n a b → ⊥)
    by (yes l) p q = inl (nearest.beyond z (has_value n lo hi false (2 ^ (n - 1) - 1) some last) l)
    by (no f) (yes h) (yes l) = inl (nearest.short z' (has_value n lo hi false 1 (zero-lt-suc 0) first) h l)
    by (no f) (yes h) (no g) = inr (neither f (λ h l. g l))
    by (no f) (no g) p = inr (neither f (λ h l. g h))

pub one_saying_holds : promise.OneSayingHolds
unfolding promise.OneSayingHolds nearest.Says
one_saying_holds n negative a b w x i means = let t = some (lt_z u v) refl (lt_z v u) refl (past_or_not n a b i.least i.most) in
    (t.0, t.1, λ s y. says_one n i.least i.most negative a b w s t.0 i y t.1)
  where
    u : ℤ
    u = x *ℤ pos b

    v : ℤ
    v = signed_size negative a

    against : (way : ℤ) → order u v ≡ way → nearest.Against n negative a b w way
    against way q = record { x = x; means = means; is = q }

    some : (p : Bool) → lt_z u v ≡ p → (q : Bool) → lt_z v u ≡ q → nearest.IsPastTheEnd n a b ⊎ (nearest.IsPastTheEnd n a b → ⊥) → (s : Saying) × nearest.Says n negative a b w s
    some false p false q e = (Exact, against (pos 0) (order_equal u v p q))
    some true p z q (inl e) = (PastTheEnd, e)
    some true p z q (inr f) = (Below, (f, against (negsuc 0) (order_below u v p)))
    some false p true q (inl e) = (PastTheEnd, e)
    some false p true q (inr f) = (Above, (f, against (pos 1) (order_above u v p q)))

pub the_answer_is_as_before : promise.TheAnswerIsAsBefore
unfolding WritesAndSays MovesAndSays WritesWholeAndSays WritesBinary64AndSays WritesShortAndSays WritesSizeAndSays WritesSize WritesLongAndSays WritesLong nearest.FindsAndSays
the_answer_is_as_before =
    record {
      write = λ n rule v r x. x.answers;
      write_whole = λ n rule x r y. y.answers;
      write_binary64 = λ n rule x r y. y.answers;
      move_word = λ n n' rule w r x. x.answers;
      write_short = λ n rule negative m k r x. x.answers;
      write_size = λ n rule s r x. x.answers;
      write_long = λ n rule v r x. x.answers;
      nearest = λ n negative h m below r x. x.answers;
    }

-- ---- each call writes what is meant
-- what is written and said for what is meant, at a width from 2 to 64
unfoldable Answered : ℕ → Rule → Meant → Answer Written → Type 0
Answered n rule (number s a b) r = AndSays (IsWritten n rule s a b) (nearest.Says n s a b) r
Answered n rule nar r = r ≡ written (nar_word n) Exact

-- the size is a fraction
unfoldable IsFraction : Meant → Type 0
IsFraction (number s a b) = 0 < b
IsFraction nar = Unit {0}

-- NaR is given, and said to be exact
nar_said : (n : ℕ) (r : Answer Written) → plain r ≡ Ok (nar_word n) → ((w : ℕ) (s : Saying) → r ≡ written w s → s ≡ Exact) → r ≡ written (nar_word n) Exact
nar_said n r q x = let t = plain_word r (nar_word n) q in
    t.1 ∙ ap (written (nar_word n)) (x (nar_word n) t.0 t.1)

module _ (n : ℕ) (lo : 2 ≤ n) (hi : n ≤ 64) where
  writes_meant : (rule : Rule) (o : Offered) (r : Answer Written) → IsFit o → Gives n rule o r → Answered n rule (meant o) r
  unfolding Answered IsFit Gives meant of_takum of_float of_short IsWrittenBinary64 SaysBinary64 IsMoved SaysMoved numerator denominator long_numerator long_denominator significand WritesAndSays Writes WritesWholeAndSays WritesWhole WritesBinary64AndSays WritesBinary64 MovesAndSays Moves WritesShortAndSays WritesShort WritesSizeAndSays WritesSize WritesLongAndSays WritesLong
  writes_meant rule (value v) r i x = record { answers = answered (width_fits n lo hi) x.answers; says = x.says }
  writes_meant rule (whole z) r i x = record { answers = answered (width_fits n lo hi) x.answers; says = x.says }
  writes_meant rule (binary64 f) r i x = float f (answered (width_fits n lo hi) x.answers) x.says
    where
      float : (f : Float) → IsWrittenBinary64 n rule f (plain r) → ((w : ℕ) (s : Saying) → r ≡ written w s → SaysBinary64 n f w s) → Answered n rule (of_float f) r
      float nan x y = nar_said n r x y
      float (inf s) x y = nar_said n r x y
      float (fin s m e) x y = record { answers = x; says = y }
  writes_meant rule (word n' w) r i x = moved (takum n' w) (answered (move_passes n' n w i lo hi) x.answers) x.says
    where
      moved : (t : Takum) → IsMoved n rule t (plain r) → ((w : ℕ) (s : Saying) → r ≡ written w s → SaysMoved n t w s) → Answered n rule (of_takum t) r
      moved (real z) x y = record { answers = x; says = y }
      moved NaR x y = nar_said n r x y
  writes_meant rule (short s m k) r i x = record { answers = answered (width_fits n lo hi) x.answers; says = x.says }
  writes_meant rule (size s) r i x = record { answers = answered (width_fits n lo hi) x.answers; says = x.says }
  writes_meant rule (long v) r i x = record { answers = answered (width_fits n lo hi) x.answers; says = x.says }

is_fraction : (o : Offered) → IsFraction (meant o)
unfolding IsFraction meant of_takum of_float of_short denominator long_denominator
is_fraction (value v) = (unit_some (v.k +ℤ pos 307)).1
is_fraction (whole x) = zero-lt-suc 0
is_fraction (binary64 f) = float f
  where
    float : (f : Float) → IsFraction (of_float f)
    float nan = tt
    float (inf s) = tt
    float (fin s m e) = down_pos e
is_fraction (word n w) = moved (takum n w)
  where
    moved : (t : Takum) → IsFraction (of_takum t)
    moved (real z) = zero-lt-suc 0
    moved NaR = tt
is_fraction (short s m k) = (unit_some (k +ℤ pos 307)).1
is_fraction (size s) = (unit_some (s.h -ℤ pos 63 +ℤ pos 307)).1
is_fraction (long v) = (unit_some (v.k +ℤ pos 307)).1

is_exact_or_not : (s : Saying) → (s ≡ Exact) ⊎ (s ≡ Exact → ⊥)
is_exact_or_not Exact = inl refl
is_exact_or_not Below = inr (λ q. true≢false (sym (ap says_exact q)))
is_exact_or_not Above = inr (λ q. true≢false (sym (ap says_exact q)))
is_exact_or_not PastTheEnd = inr (λ q. true≢false (sym (ap says_exact q)))

-- ---- the laws, of what is meant
module _ (n : ℕ) (lo : 2 ≤ n) (hi : n ≤ 64) where
  -- a word that is written has the sign's value of some size
  has_some : (rule : Rule) (s : Bool) (a b w : ℕ) → IsWritten n rule s a b (Ok w) → (z : ℕ) × HasValue n s z w
  unfolding IsWritten
  has_some Rule.Rounded s a b w (zero q e) = (0, subst (HasValue n s 0) (sym e) (zero_value n lo hi s))
  has_some Rule.Rounded s a b w (other h x) = (x.z, x.is)
  has_some Rule.Strict s a b w x = (x.z, x.is)

  -- what is said to be exact means the same
  said_means : (rule : Rule) (m : Meant) (w : ℕ) → Answered n rule m (written w Exact) → HasTheMeaning n m w
  unfolding Answered HasTheMeaning TheNaRWord
  said_means rule (number s a b) w x = let t = has_some rule s a b w x.answers in
      record { z = t.0; is = t.1; same = exact_size n lo hi s t.0 a b w t.1 (x.says w Exact refl) }
  said_means rule nar w x = let t = the_NaR_word n lo hi in
      subst (λ (v : ℕ). IsWord n v × (takum n v ≡ NaR)) (sym (same_word x).0) (t.0, t.1)

  -- a word that means the same is given, and said to be exact
  meaning_said : (rule : Rule) (m : Meant) (w : ℕ) (r : Answer Written) → IsFraction m → HasTheMeaning n m w → Answered n rule m r → r ≡ written w Exact
  unfolding Answered HasTheMeaning IsFraction nar_word
  meaning_said rule (number s a b) w r some x y =
      let t = plain_word r w (exact_written n lo hi rule s a b w (plain r) some x y.answers) in
      t.1 ∙ ap (written w) (says_one n lo hi s a b w t.0 Exact x.is.word (y.says w t.0 t.1) (size_exact n lo hi s x.z a b w x.is x.same))
  meaning_said rule nar w r some x y = y ∙ ap (λ (v : ℕ). written v Exact) (sym (NaR_word n w x.0 x.1))

  strictly : (m : Meant) (w : ℕ) (s : Saying) → IsFraction m → Answered n Rule.Strict m (written w s) → s ≡ Exact
  unfolding Answered IsWritten HasTheMeaning
  strictly (number t a b) w s some x = (same_word (meaning_said Rule.Strict (number t a b) w (written w s) some x.answers x)).1
  strictly nar w s some x = (same_word x).1

  same_story : (m : Meant) (a b : Answer Written) → IsFraction m → Answered n Rule.Rounded m a → Answered n Rule.Strict m b → TellTheSame a b
  unfolding Answered IsWritten HasTheMeaning TellTheSame
  same_story nar a b some x y = (nar_word n, Exact, x, inl (refl, y ∙ sym x))
  same_story (number t i j) (Err q) b some x y = absurd x.answers
  same_story (number t i j) (Ok a) b some x y = (a.word, a.saying, refl, by a.saying b x y)
    where
      w : ℕ
      w = a.word

      exact : (s : Saying) (b : Answer Written) → s ≡ Exact → Answered n Rule.Rounded (number t i j) (written w s) → Answered n Rule.Strict (number t i j) b → b ≡ written w s
      exact s b e x y = meaning_said Rule.Strict (number t i j) w b some (said_means Rule.Rounded (number t i j) w (subst (λ (u : Saying). Answered n Rule.Rounded (number t i j) (written w u)) e x)) y ∙ ap (written w) (sym e)

      inexact : (s : Saying) (b : Answer Written) → (s ≡ Exact → ⊥) → Answered n Rule.Rounded (number t i j) (written w s) → Answered n Rule.Strict (number t i j) b → RefusedAs (Answer Written) Err 4 b
      inexact s (Ok d) f x y = absurd (f (same_word (meaning_said Rule.Rounded (number t i j) d.word (written w s) some y.answers x)).1)
      inexact s (Err q) f x y = record { q = q; is = refl; known = ap number_of y.answers.0 }

      by : (s : Saying) (b : Answer Written) → Answered n Rule.Rounded (number t i j) (written w s) → Answered n Rule.Strict (number t i j) b → ((s ≡ Exact) × (b ≡ written w s)) ⊎ ((s ≡ Exact → ⊥) × RefusedAs (Answer Written) Err 4 b)
      by s b x y = ⊎_elim (λ e. inl (e, exact s b e x y)) (λ f. inr (f, inexact s b f x y)) (is_exact_or_not s)

  -- the other sign gives the negated word, and exchanges below and above
  other_sign : (s : Bool) (a b w : ℕ) (q : Saying) (r : Answer Written) → 0 < b → Answered n Rule.Rounded (number s a b) (written w q) → Answered n Rule.Rounded (number (not s) a b) r → r ≡ written (negated n w) (opposite_saying q)
  unfolding Answered IsWritten
  other_sign s a b w q r some x y =
      let i = written_word n lo hi Rule.Rounded s a b w x.answers in
      said_one (λ c d. written_one n lo hi Rule.Rounded (not s) a b c d some) (λ v t u z. says_one n lo hi (not s) a b v t u (written_word n lo hi Rule.Rounded (not s) a b v z)) r (written (negated n w) (opposite_saying q)) y
      (word_said (negated n w) (opposite_saying q) (rounded_negated n lo hi s a b w x.answers) (says_negated n s a b w q i (x.says w q refl)))

-- ---- so of every call
pub exact_where_a_word_has_the_value : promise.ExactWhereAWordHasTheValue
unfolding promise.ExactWhereAWordHasTheValue
exact_where_a_word_has_the_value n rule o w s i lo hi x =
    let y = writes_meant n lo hi rule o (written w s) i x in
    (λ q. said_means n lo hi rule (meant o) w (subst (λ (t : Saying). Answered n rule (meant o) (written w t)) q y), λ w' z. let t = same_word (meaning_said n lo hi rule (meant o) w' (written w s) (is_fraction o) z y) in (t.1, t.0))

pub by_the_strict_rule_it_is_exact : promise.ByTheStrictRuleItIsExact
unfolding promise.ByTheStrictRuleItIsExact
by_the_strict_rule_it_is_exact n o w s i lo hi x = strictly n lo hi (meant o) w s (is_fraction o) (writes_meant n lo hi Rule.Strict o (written w s) i x)

pub the_two_rules_tell_the_same_story : promise.TheTwoRulesTellTheSameStory
unfolding promise.TheTwoRulesTellTheSameStory
the_two_rules_tell_the_same_story n o a b i lo hi x y = same_story n lo hi (meant o) a b (is_fraction o) (writes_meant n lo hi Rule.Rounded o a i x) (writes_meant n lo hi Rule.Strict o b i y)

pub zero_and_NaR_are_exact : promise.ZeroAndNaRAreExact
unfolding promise.ZeroAndNaRAreExact Answered HasTheMeaning
zero_and_NaR_are_exact n rule o r i lo hi x =
    let y = writes_meant n lo hi rule o r i x in
    (λ s b q. meaning_said n lo hi rule (meant o) 0 r (is_fraction o) (subst (λ (m : Meant). HasTheMeaning n m 0) (sym q) (record { z = 0; is = zero_value n lo hi s; same = zero-mul b })) y, λ q. subst (λ (m : Meant). Answered n rule m r) q y)

-- ---- one value, however it is offered
-- what is said of a fraction is said of every fraction that equals it
equal_said : (n : ℕ) (s : Bool) (a b c d w : ℕ) (q : Saying) → 0 < b → 0 < d → a * d ≡ c * b → nearest.Says n s a b w q → nearest.Says n s c d w q
equal_said n s a b c d w q some_b some_d same x = says_reduced n s c d b some_b w q (subst₂ (λ (i j : ℕ). nearest.Says n s i j w q) same (mul_comm b d) (says_times n s a b d some_d w q x))

meaning_answered : (n : ℕ) → 2 ≤ n → n ≤ 64 → (rule : Rule) (m m' : Meant) (r r' : Answer Written) → IsFraction m → IsFraction m' → MeanTheSame m m' → Answered n rule m r → Answered n rule m' r' → r ≡ r'
unfolding MeanTheSame IsFraction Answered
meaning_answered n lo hi rule (number s a b) (number s' a' b') r r' some some' (same, q) x y =
    said_one (λ i j. written_one n lo hi rule s' a' b' i j some') (λ w t u z. says_one n lo hi s' a' b' w t u (written_word n lo hi rule s' a' b' w z)) r r'
    (record { answers = subst (λ (t : Bool). IsWritten n rule t a' b' (plain r)) same (equal_fraction n rule s a b a' b' (plain r) some some' q x.answers); says = λ w t e. subst (λ (u : Bool). nearest.Says n u a' b' w t) same (equal_said n s a b a' b' w t some some' q (x.says w t e)) }) y
meaning_answered n lo hi rule (number s a b) nar r r' some some' same x y = absurd same
meaning_answered n lo hi rule nar (number s a b) r r' some some' same x y = absurd same
meaning_answered n lo hi rule nar nar r r' some some' same x y = x ∙ sym y

pub one_meaning_has_one_answer : promise.OneMeaningHasOneAnswer
unfolding promise.OneMeaningHasOneAnswer
one_meaning_has_one_answer n rule o o' r r' i i' lo hi same x y = meaning_answered n lo hi rule (meant o) (meant o') r r' (is_fraction o) (is_fraction o') same (writes_meant n lo hi rule o r i x) (writes_meant n lo hi rule o' r' i' y)

pub what_is_found_is_said_of_the_size : promise.WhatIsFoundIsSaidOfTheSize
unfolding promise.WhatIsFoundIsSaidOfTheSize nearest.FindsAndSays nearest.SaysFound nearest.SaysOffered
what_is_found_is_said_of_the_size n negative h m below w s full top fits x a b some offered =
    let t = some_rest below in
    let set : 2 ^ 63 + m % 2 ^ 63 ≡ m = omega (arith, full, top) in
    x.says w s refl t.0 t.1 a b some (subst (λ (y : ℕ). IsOffered y t.0 (h -ℤ pos 63) a b) (sym set) (finer_offer m below t.0 h a b some fits t.1 offered))

-- the exact size and the jammed one lie between the same multiples of twice the unit
pub jamming_changes_no_saying : promise.JammingChangesNoSaying
unfolding promise.JammingChangesNoSaying WritesLongAndSays WritesShortAndSays WritesShort significand
jamming_changes_no_saying n rule v x a b w s lo hi full top some between q y =
    let z = has_some n lo hi rule v.negative _ _ w (answered (width_fits n lo hi) y.answers) in
    let said = subst (λ (i : ℕ). nearest.Says n v.negative (i * num (v.k +ℤ pos 307)) (den (v.k +ℤ pos 307)) w s) q (y.says w s refl) in
    same_said n lo hi (x / 2) (v.k +ℤ pos 1) ((le-div_iff_mul-le (pow_pos 1)).1 (le_trans (lit≤ tt) full)) _ _ a b (jammed_between x v.k) (exact_between x v.k a b between) v.negative z.0 w s z.1 said

-- ---- moves
pub a_move_is_exact_where_the_meaning_stays : promise.AMoveIsExactWhereTheMeaningStays
unfolding promise.AMoveIsExactWhereTheMeaningStays MovesAndSays
a_move_is_exact_where_the_meaning_stays n n' rule w w' s x =
    let y = x.says w' s refl in
    (λ q. exact_means n n' rule w w' x.answers (subst (SaysMoved n' (takum n w) w') q y), λ q. moves_says_one n n' rule w w' s Exact x.answers y (means_exact n n' w w' q))

-- a word that means what the word w of n bits means
same_meaning : (n n' w w' : ℕ) → IsWord n' w' → takum n' w' ≡ takum n w → HasTheMeaning n' (meant (word n w)) w'
unfolding meant of_takum HasTheMeaning
same_meaning n n' w w' i q = by (takum n w) q
  where
    by : (t : Takum) → takum n' w' ≡ t → HasTheMeaning n' (of_takum t) w'
    by (real z) q = meaning_exact n' w' z i q
    by NaR q = (i, q)

pub meaning_kept : (n n' : ℕ) (rule : Rule) (w w' : ℕ) (r : Answer Written) → IsWord n w → IsWord n' w' → takum n' w' ≡ takum n w → MovesAndSays n n' rule w r → r ≡ written w' Exact
unfolding IsFit Gives
meaning_kept n n' rule w w' r i i' q x = meaning_said n' i'.least i'.most rule (meant (word n w)) w' r (is_fraction (word n w)) (same_meaning n n' w w' i' q) (writes_meant n' i'.least i'.most rule (word n w) r i x)

pub a_wider_move_is_exact : promise.AWiderMoveIsExact
unfolding promise.AWiderMoveIsExact
a_wider_move_is_exact n more rule w r room i x = meaning_kept n (n + more) rule w (w * 2 ^ more) r i (record { least = omega (arith, i.least); most = room; fits = shl_below n more (n + more) i.fits refl }) (zeros_appended n more w i.least room i.fits) x

-- a word that is given by a move is one, and so is the word that is moved
pub moved_words : (n n' : ℕ) (rule : Rule) (w w' : ℕ) → Moves n n' rule w (Ok w') → IsWord n w × IsWord n' w'
unfolding Moves IsMoved GivesAWord word_of TheNaRWord
moved_words n n' rule w w' (refused h q) = absurd (subst GivesAWord q tt)
moved_words n n' rule w w' (through h x) =
    let t = move_through n n' w h in
    let u = width_through n' t.1 in
    (t.0, by (takum n w) u.0 u.1 x)
  where
    by : (t : Takum) → 2 ≤ n' → n' ≤ 64 → IsMoved n' rule t (Ok w') → IsWord n' w'
    by (real z) lo hi y = written_word n' lo hi rule (is_negative z) (nat_abs z) 1 w' y
    by NaR lo hi y = subst (IsWord n') (sym (ap word_of y)) (the_NaR_word n' lo hi).0

pub after_exact_the_way_back_is_open : promise.AfterExactTheWayBackIsOpen
unfolding promise.AfterExactTheWayBackIsOpen promise.AMoveIsExactWhereTheMeaningStays MovesAndSays
after_exact_the_way_back_is_open n n' rule w w' r x y =
    let i = moved_words n n' rule w w' x.answers in
    meaning_kept n' n Rule.Strict w' w r i.1 i.0 (sym ((a_move_is_exact_where_the_meaning_stays n n' rule w w' Exact x).0 refl)) y

pub a_move_says_what_writing_says : promise.AMoveSaysWhatWritingSays
unfolding promise.AMoveSaysWhatWritingSays AMoveIsAReadingAndAWriting MovesAndSays WritesAndSays Says KindSays Reads IsKind numerator denominator
a_move_says_what_writing_says n n' w rule a v r i x says y = record { answers = a_move_is_a_reading_and_a_writing n n' w rule a v (plain r) i x says y.answers; says = λ w' s e. by a.kind w' s (reads_as n w a i x).what says e }
  where
    by : (k : Kind) (w' : ℕ) (s : Saying) → IsKind (takum n w) (fraction_bits n w) k → KindSays k v → r ≡ written w' s → nearest.Says n' v.negative (numerator v) (denominator v) w' s
    by Kind.Zero w' s zero_read says e =
        let i' = (moved_words n n' rule w w' (subst (Moves n n' rule w) (ap plain e) y.answers)).1 in
        let nothing = zero_value n' i'.least i'.most v.negative in
        let given = same_word (sym e ∙ meaning_kept n n' rule w 0 r i nothing.word (takum_zero n' ∙ sym zero_read) y) in
        subst₂ (nearest.Says n' v.negative (numerator v) (denominator v)) (sym given.0) (sym given.1) (size_exact n' i'.least i'.most v.negative 0 (numerator v) (denominator v) 0 nothing (zero-mul (denominator v) ∙ sym (no_numerator v says)))
    by (Kind.Number t h m p) w' s read says e = subst (λ (v : Value). nearest.Says n' v.negative (numerator v) (denominator v) w' s) (sym says) (said_number n' w' s (takum n w) _ t h m p read (y.says w' s e))
    by Kind.Nar w' s x says e = absurd says

-- ---- past the end
end_word : (n : ℕ) → 2 ≤ n → n ≤ 64 → (m : Meant) (w : ℕ) → IsFraction m → Answered n Rule.Rounded m (written w PastTheEnd)
    → (negative : Bool) × (a b z : ℕ) × (m ≡ number negative a b) × ((HasValue n false z (largest n) × (z * b < a) × (w ≡ of_sign n negative (largest n))) ⊎ (HasValue n false z (smallest n) × (a < z * b) × (w ≡ of_sign n negative (smallest n))))
unfolding IsFraction Answered IsWritten nearest.Says largest smallest of_sign places.word_of
end_word n lo hi nar w some x = absurd (omega (arith, ap saying_number (same_word x).1))
end_word n lo hi (number s a b) w some x = by (x.says w PastTheEnd refl) x.answers
  where
    by : nearest.IsPastTheEnd n a b → IsRounded n s a b w → (negative : Bool) × (a' b' z : ℕ) × (number s a b ≡ number negative a' b') × ((HasValue n false z (largest n) × (z * b' < a') × (w ≡ of_sign n negative (largest n))) ⊎ (HasValue n false z (smallest n) × (a' < z * b') × (w ≡ of_sign n negative (smallest n))))
    by (nearest.beyond z is l) (zero q e) = absurd (omega (arith, q, l))
    by (nearest.short z is h l) (zero q e) = absurd (omega (arith, q, h))
    by (nearest.beyond z is l) (other h x) =
        (s, a, b, z, refl, inl (is, l, past_the_largest n lo hi s z a b w some is (le_of_lt l) x ∙ of_sign_lem n lo hi s (2 ^ (n - 1) - 1) (omega (arith, two n lo hi)) (omega (arith, two n lo hi))))
    by (nearest.short z is h l) (other h' x) = (s, a, b, z, refl, inr (is, l, before_the_smallest n lo hi s z a b w some is (le_of_lt l) x ∙ of_sign_lem n lo hi s 1 (zero-lt-suc 0) (omega (arith, two n lo hi))))

pub past_the_end_is_said_of_the_end_word : promise.PastTheEndIsSaidOfTheEndWord
unfolding promise.PastTheEndIsSaidOfTheEndWord
past_the_end_is_said_of_the_end_word n o w i lo hi x = end_word n lo hi (meant o) w (is_fraction o) (writes_meant n lo hi Rule.Rounded o (written w PastTheEnd) i x)

-- ---- negation
-- what is meant by the opposite: the other sign, unless it is zero, which may keep its own
unfoldable AreOpposite : Meant → Meant → Type 0
AreOpposite (number s a b) m = (m ≡ number (not s) a b) ⊎ ((a ≡ 0) × (m ≡ number s a b))
AreOpposite nar m = m ≡ nar

opposite_meant : (o : Offered) → IsFit o → AreOpposite (meant o) (meant (opposite o))
unfolding AreOpposite meant of_takum of_float of_short is_negative neg opposite orders.opposite with_other_sign numerator denominator long_numerator long_denominator significand IsFit
opposite_meant (value v) i = inl refl
opposite_meant (whole x) i = by x
  where
    by : (x : ℤ) → AreOpposite (number (is_negative x) (nat_abs x * 2 ^ 307) 1) (number (is_negative (neg_ℤ x)) (nat_abs (neg_ℤ x) * 2 ^ 307) 1)
    by (pos zero) = inr (zero-mul (2 ^ 307), refl)
    by (pos (suc i)) = inl refl
    by (negsuc i) = inl refl
opposite_meant (binary64 f) i = by f
  where
    by : (f : Float) → AreOpposite (of_float f) (of_float (neg f))
    by nan = refl
    by (inf s) = refl
    by (fin s m e) = inl refl
opposite_meant (word n w) i = subst (λ (t : Takum). AreOpposite (of_takum (takum n w)) (of_takum t)) (sym (negation_negates n w i)) (by (takum n w))
  where
    by : (t : Takum) → AreOpposite (of_takum t) (of_takum (orders.opposite t))
    by (real (pos zero)) = inr (refl, refl)
    by (real (pos (suc i))) = inl refl
    by (real (negsuc i)) = inl refl
    by NaR = refl
opposite_meant (short s m k) i = inl refl
opposite_meant (size s) i = inl refl
opposite_meant (long v) i = inl refl

opposite_fit : (o : Offered) → IsFit o → IsFit (opposite o)
unfolding IsFit opposite
opposite_fit (value v) i = tt
opposite_fit (whole x) i = tt
opposite_fit (binary64 f) i = tt
opposite_fit (word n w) i = negated_word n w i
opposite_fit (short s m k) i = tt
opposite_fit (size s) i = tt
opposite_fit (long v) i = tt

opposite_said : (n : ℕ) → 2 ≤ n → n ≤ 64 → (m m' : Meant) (w : ℕ) (s : Saying) (r : Answer Written) → IsFraction m → AreOpposite m m' → Answered n Rule.Rounded m (written w s) → Answered n Rule.Rounded m' r → r ≡ written (negated n w) (opposite_saying s)
unfolding AreOpposite IsFraction Answered HasTheMeaning nar_word
opposite_said n lo hi (number t a b) m' w s r some (inl e) x y = other_sign n lo hi t a b w s r some x (subst (λ (m : Meant). Answered n Rule.Rounded m r) e y)
opposite_said n lo hi (number t a b) m' w s r some (inr (q, e)) x y =
    let nothing : HasTheMeaning n (number t a b) 0 = record { z = 0; is = zero_value n lo hi t; same = zero-mul b ∙ sym q } in
    let first = same_word (meaning_said n lo hi Rule.Rounded (number t a b) 0 (written w s) some nothing x) in
    meaning_said n lo hi Rule.Rounded (number t a b) 0 r some nothing (subst (λ (m : Meant). Answered n Rule.Rounded m r) e y) ∙ sym (ap₂ written (ap (negated n) first.0 ∙ negated_zero n) (ap opposite_saying first.1))
opposite_said n lo hi nar m' w s r some e x y =
    let first = same_word x in
    let itself : negated n (nar_word n) ≡ nar_word n = negated_other n (nar_word n) (pow_pos (n - 1)) (omega (arith, twice n lo, pow_pos (n - 1))) ∙ omega (arith, twice n lo) in
    subst (λ (m : Meant). Answered n Rule.Rounded m r) e y ∙ sym (ap₂ written (ap (negated n) first.0 ∙ itself) (ap opposite_saying first.1))

pub negating_exchanges_below_and_above : promise.NegatingExchangesBelowAndAbove
unfolding promise.NegatingExchangesBelowAndAbove
negating_exchanges_below_and_above n o w s r i lo hi x y =
    opposite_said n lo hi (meant o) (meant (opposite o)) w s r (is_fraction o) (opposite_meant o i) (writes_meant n lo hi Rule.Rounded o (written w s) i x) (writes_meant n lo hi Rule.Rounded (opposite o) r (opposite_fit o i) y)

-- ---- columns
-- a column that was moved: its answer, what its results hold, and what it counts
module _ (n n' : ℕ) (rule : Rule) (words before after : List ℕ) (a : MovedColumn) (x : Moved n n' rule words before after a) where
  holds_moved : Holds n n' rule words before (Ok a) after
  unfolding HoldsAndCounts
  holds_moved = x.holds.0

  counts_kept : Counts (KeepsTheMeaning n n' words after) a.moved a.exact
  unfolding HoldsAndCounts CountsExact
  counts_kept = x.holds.1

  all_words : a.moved ≡ length words
  all_words = every_word_counted n n' rule words before a after x.answers holds_moved

  each_moved : (i : ℕ) → i < a.moved → Moves n n' rule (get_or words i 0) (Ok (get_or after i 0))
  each_moved i l = word_at n n' rule words before a after x.answers holds_moved i (omega (arith, l, all_words))

  -- all are counted exactly where each keeps the meaning
  all_kept : ((i : ℕ) → i < a.moved → KeepsTheMeaning n n' words after i) → a.exact ≡ a.moved
  all_kept f = counts_one counts_kept (counts_all a.moved f)

pub a_column_counts_what_its_moves_say : promise.AColumnCountsWhatItsMovesSay
unfolding promise.AColumnCountsWhatItsMovesSay MovesAndSays KeepsTheMeaning
a_column_counts_what_its_moves_say n n' rule words before after a x =
    subst (λ (k : ℕ). Counts (λ i. MovesAndSays n n' rule (get_or words i 0) (written (get_or after i 0) Exact)) k a.exact) (all_words n n' rule words before after a x)
    (counts_alike (λ i l q. word_said (get_or after i 0) Exact (each_moved n n' rule words before after a x i l) (means_exact n n' (get_or words i 0) (get_or after i 0) q)) (λ i l y. exact_means n n' rule (get_or words i 0) (get_or after i 0) y.answers (y.says (get_or after i 0) Exact refl)) (counts_kept n n' rule words before after a x))

pub a_strict_column_is_exact_throughout : promise.AStrictColumnIsExactThroughout
unfolding promise.AStrictColumnIsExactThroughout KeepsTheMeaning
a_strict_column_is_exact_throughout n n' words before after a x = all_kept n n' Rule.Strict words before after a x (λ i l. (strict_keeps n n' (get_or words i 0) (get_or after i 0) (each_moved n n' Rule.Strict words before after a x i l)).same)

pub a_wider_column_is_exact_throughout : promise.AWiderColumnIsExactThroughout
unfolding promise.AWiderColumnIsExactThroughout KeepsTheMeaning WiderNeverChangesNorRefuses word_of
a_wider_column_is_exact_throughout n more rule words before after a room x = all_kept n (n + more) rule words before after a x (λ i l.
    let y = each_moved n (n + more) rule words before after a x i l in
    let t = wider_never_changes_nor_refuses n more (get_or words i 0) rule (Ok (get_or after i 0)) room (moved_words n (n + more) rule (get_or words i 0) (get_or after i 0) y).0 y in
    ap (takum (n + more)) (ap word_of t.0) ∙ t.1)

pub all_are_exact_where_strict_moves_them : promise.AllAreExactWhereStrictMovesThem
unfolding promise.AllAreExactWhereStrictMovesThem MovesColumn IsTried Movable MovableUpTo KeepsTheMeaning GivesAWord word_of
all_are_exact_where_strict_moves_them n n' words before after a strict x y = (λ q. none_refused q strict (tried strict y), λ c q. each_kept c (tried (Ok c) (subst (MovesColumn n n' Rule.Strict words (length before)) q y)))
  where
    tried : (c : ListAnswer MovedColumn) → MovesColumn n n' Rule.Strict words (length before) c → IsTried n n' Rule.Strict words c
    tried c y = let t = moved_passed n n' Rule.Rounded words before a after x.answers (holds_moved n n' Rule.Rounded words before after a x) in
        answered (passes n n' (length words) (length before) t.source t.target t.fits) y

    -- where the strict move gives a word, the rounded one gives the same
    kept : (i : ℕ) → i < a.moved → Movable n n' Rule.Strict (get_or words i 0) → KeepsTheMeaning n n' words after i
    kept i l (w', z) =
        let k = strict_keeps n n' (get_or words i 0) w' z in
        let same = ap word_of (moved_to_the_same n n' (get_or words i 0) w' Rule.Rounded (Ok (get_or after i 0)) k.from k.to k.same (each_moved n n' Rule.Rounded words before after a x i l)) in
        ap (takum n') same ∙ k.same

    -- a word that means the same is what the strict move gives
    given : (i : ℕ) (r : Answer ℕ) → i < a.moved → KeepsTheMeaning n n' words after i → Moves n n' Rule.Strict (get_or words i 0) r → r ≡ Ok (get_or after i 0)
    given i r l q z = let t = moved_words n n' Rule.Rounded (get_or words i 0) (get_or after i 0) (each_moved n n' Rule.Rounded words before after a x i l) in
        moved_to_the_same n n' (get_or words i 0) (get_or after i 0) Rule.Strict r t.0 t.1 q z

    none_refused : a.exact ≡ a.moved → (c : ListAnswer MovedColumn) → IsTried n n' Rule.Strict words c → how_many c ≡ Ok a.moved
    none_refused q (Ok d) z = ap Ok (z.0 ∙ sym (all_words n n' Rule.Rounded words before after a x))
    none_refused q (Err (ListRefusal.Whole u)) z = absurd z
    none_refused q (Err (ListRefusal.At position u)) z =
        let l : position < a.moved = omega (arith, z.inside, all_words n n' Rule.Rounded words before after a x) in
        absurd (subst GivesAWord (sym (given position (Err u) l (counted_all (counts_kept n n' Rule.Rounded words before after a x) q position l) z.is)) tt)

    each_kept : (c : MovedColumn) → IsTried n n' Rule.Strict words (Ok c) → a.exact ≡ a.moved
    each_kept c z = all_kept n n' Rule.Rounded words before after a x (λ i l. kept i l (z.1 i (omega (arith, l, z.0, all_words n n' Rule.Rounded words before after a x))))

pub a_refused_column_counts_none : promise.ARefusedColumnCountsNone
unfolding promise.ARefusedColumnCountsNone
a_refused_column_counts_none (Ok c) f = absurd (f c refl)
a_refused_column_counts_none (Err (ListRefusal.Whole q)) f = refl
a_refused_column_counts_none (Err (ListRefusal.At position q)) f = refl
