-- The laws of moving that specs/Moving.antt states: a move hangs on what the word means, keeps order and sign, and a wider one keeps the meaning.
-- Assumes nothing.
use Rattle.std.specs.Prelude.{Ok, Err, IsErrAnd}
use Rattle.std.proofs.lemmas.Result.{err_from_is_err_and}
use Rattle.std.specs.declared.cmp.Ordering.{Ordering}
use Rattle.std.specs.declared.cmp.Ordering.TheVariants.{Less, Equal}
use Rattle.std.specs.Ordering.{int_cmp}
use mathlib.Core.Path.{◌≡◌, refl, sym, ap, ap₂, ◌∙◌, subst, subst₂}
use mathlib.Core.Logic.{◌⊎◌, inl, inr, ⊎_elim}
use mathlib.Core.Bool.{Bool, true, false, cond}
use Prim.Native.Nat.{ℕ, ◌+◌, ◌-◌, ◌*◌, ◌^◌, ◌≤◌}
use native.Mathlib.Nat.{mul-one, zero-lt-suc}
use native.Mathlib.Omega.{arith}
use lib.IntN.{ℤ, pos, negsuc, neg_ℤ, nat_abs, pos-ne-negsuc}
use lib.Signed.{lt_z}
use Rattle.bounds.specs.declared.answer.Written.{Written}
use Rattle.bounds.specs.declared.refusal.Refusal.{Refusal}
use Rattle.bounds.specs.declared.saying.Saying.TheVariants.{Exact, Below, Above}
use Rattle.bounds.specs.Refusals.{IsWord, through, refused, Answer}
use Rattle.bounds.specs.Sayings.{plain}
use Rattle.bounds.specs.Widths.{nar_word}
use Rattle.bounds.proofs.Powers.{shl_below}
use Rattle.bounds.proofs.Answers.{word_of}
use Rattle.bounds.proofs.Verdicts.{width_through, words_through, word_passes, move_passes, move_through, answered}
use Rattle.word.specs.Takum.{Takum, real, NaR, power, regime_of, characteristic_of, S, D, R, r, p, C, F, c, e, value, meaning, N, padded, takum}
use Rattle.word.specs.Reads.{signed_size}
use Rattle.word.specs.Orders.{signed, order, negated}
use Rattle.word.proofs.Words.{takum_NaR, takum_zero, zeros_appended}
use Rattle.word.proofs.Values.{NaR_word, NaR_below, above_NaR, order_same, order_exchanged, order_of_values}
use Rattle.order.specs.Orders.{Compares, Negates}
use Rattle.order.proofs.Numbers.{order_number_is}
use Rattle.round.specs.declared.value.Rule.{Rule}
use Rattle.round.specs.Writes.{zero, other, IsWritten}
use Rattle.round.proofs.Order.{NotGreater, rounding_keeps_order}
use Rattle.write.specs.Writes.{is_negative, IsMoved, Moves}
use Rattle.write.specs.Sayings.{SaysMoved, MovesAndSays}
use Rattle.write.proofs.Moves.{rejoined, moved_to_the_same}
use Rattle.write.proofs.OneOutcome.{moves_and_says_one}
use Rattle.promises.specs.Sayings as sayings
use Rattle.promises.specs.Sayings.{IsFit, Gives, word, opposite}
use Rattle.promises.specs.Moving as promise
use Rattle.promises.specs.Moving.{goes_on, stops, GoesOutAndBack, OutAndBack, GoesNegated, MovesNegated, GoesCompared, ComparesMoved, IsNotReversed, GoesBy}
use Rattle.promises.proofs.Demands.{order_is}
use Rattle.promises.proofs.Sayings.{meaning_kept, moved_words, a_move_is_exact_where_the_meaning_stays, negating_exchanges_below_and_above}
use Rattle.promises.proofs.Settled.{size_at, is_positive, past_half, before_half, is_rounded, went, size_settled, settled, meaning_settled, move_settled, moved_so}
use Rattle.promises.proofs.Tests.{size_of, is_word}
use Rattle.promises.proofs.WordRefusals.{answer_none}
use Rattle.promises.proofs.Writing.{target_tested}

-- what a `?` hands on
pub handed : {A : Type 0} (r : Answer A) (q : Refusal) → IsErrAnd r (λ e. e ≡ q) → r ≡ Err q
handed r q e = let p = err_from_is_err_and r e in p.1 ∙ ap Err p.2

-- ---- wider
-- at a width that is at least as wide there is a word with the same meaning
widened : (n n' w : ℕ) → n ≤ n' → n' ≤ 64 → IsWord n w → (w' : ℕ) × IsWord n' w' × (takum n' w' ≡ takum n w)
widened n n' w wide top i = subst (λ (m : ℕ). m ≤ 64 → (w' : ℕ) × IsWord m w' × (takum m w' ≡ takum n w)) sum at_sum top
  where
    more : ℕ
    more = n' - n

    sum : n + more ≡ n'
    sum = omega (arith, wide)

    at_sum : n + more ≤ 64 → (w' : ℕ) × IsWord (n + more) w' × (takum (n + more) w' ≡ takum n w)
    at_sum room = (w * 2 ^ more, record { least = omega (arith, i.least); most = room; fits = shl_below n more (n + more) i.fits refl }, zeros_appended n more w i.least room i.fits)

-- ---- out and back
-- a word of b bits, on to c by either rule: it is a word of c bits with the same meaning, and no refusal
on_to : (b c u : ℕ) (rule : Rule) (r : Answer ℕ) → b ≤ c → c ≤ 64 → IsWord b u → Moves b c rule u r → (v : ℕ) × (r ≡ Ok v) × IsWord c v × (takum c v ≡ takum b u)
on_to b c u rule r wide top i m = let t = widened b c u wide top i in (t.0, moved_to_the_same b c u t.0 rule r i t.1 t.2 m, t.1, t.2)

pub the_way_back_is_exact : promise.TheWayBackIsExact
unfolding promise.TheWayBackIsExact word_of
the_way_back_is_exact a b c w u v rule r wide top m m' back =
    let i = (moved_words a b Rule.Rounded w u m).1 in
    let t = on_to b c u rule (Ok v) wide top i m' in
    meaning_kept c b Rule.Rounded t.0 u r t.2 i (sym t.3) (subst (λ (v : ℕ). MovesAndSays c b Rule.Rounded v r) (ap word_of t.1) back)

pub out_and_back_is_the_first_move : promise.OutAndBackIsTheFirstMove
unfolding promise.OutAndBackIsTheFirstMove GoesOutAndBack word_of
out_and_back_is_the_first_move a b c w rule r wide top (stops q m e) = subst (Moves a b Rule.Rounded w) (sym e) m
out_and_back_is_the_first_move a b c w rule r wide top (goes_on u m (stops q m' e)) =
    let t = on_to b c u rule (Err q) wide top (moved_words a b Rule.Rounded w u m).1 m' in
    absurd (answer_none t.0 (Err q) t.1 q refl)
out_and_back_is_the_first_move a b c w rule r wide top (goes_on u m (goes_on v m' back)) =
    let i = (moved_words a b Rule.Rounded w u m).1 in
    let t = on_to b c u rule (Ok v) wide top i m' in
    subst (Moves a b Rule.Rounded w) (sym (moved_to_the_same c b t.0 u Rule.Rounded r t.2 i (sym t.3) (subst (λ (v : ℕ). Moves c b Rule.Rounded v r) (ap word_of t.1) back))) m

pub goes_out_and_back : (a b c w : ℕ) (r : Answer ℕ) → GoesOutAndBack a b c Rule.Rounded w r → OutAndBack a b c w r
unfolding promise.OutAndBackIsTheFirstMove
goes_out_and_back a b c w r x = record { goes = x; first = λ wide top. out_and_back_is_the_first_move a b c w Rule.Rounded r wide top x }

-- ---- negation
pub the_negation_moves_to_the_negation : promise.TheNegationMovesToTheNegation
unfolding promise.TheNegationMovesToTheNegation GoesNegated Negates sayings.NegatingExchangesBelowAndAbove IsFit Gives opposite MovesAndSays word_of
the_negation_moves_to_the_negation a b w u s r x (stops q n e) =
    absurd (answer_none (negated a w) (Err q) (answered (word_passes a w (moved_words a b Rule.Rounded w u x.answers).0) n) q refl)
the_negation_moves_to_the_negation a b w u s r x (goes_on o n y) =
    let t = moved_words a b Rule.Rounded w u x.answers in
    let same = ap word_of (answered (word_passes a w t.0) n) in
    negating_exchanges_below_and_above b (word a w) u s r t.0 t.1.least t.1.most x (subst (λ (o : ℕ). MovesAndSays a b Rule.Rounded o r) same y)

pub goes_negated : (a b w : ℕ) (r : Answer Written) → GoesNegated a b w r → MovesNegated a b w r
unfolding promise.TheNegationMovesToTheNegation
goes_negated a b w r x = record { goes = x; negates = λ u s y. the_negation_moves_to_the_negation a b w u s r y x }

-- ---- order
-- what a rounded move gives, of what the word means
moved_meaning : (a b x u : ℕ) → Moves a b Rule.Rounded x (Ok u) → IsMoved b Rule.Rounded (takum a x) (Ok u)
unfolding Moves
moved_meaning a b x u m = let t = moved_words a b Rule.Rounded x u m in answered (move_passes a b x t.0 t.1.least t.1.most) m

-- NaR is greater than no word
NaR_least : (n x y : ℕ) → IsWord n x → IsWord n y → takum n x ≡ NaR → NotGreater (signed n x) (signed n y)
unfolding nar_word
NaR_least n x y i j q = by (takum n y) refl
  where
    by : (t : Takum) → takum n y ≡ t → NotGreater (signed n x) (signed n y)
    by (real z) e h = pos-ne-negsuc 1 0 (sym h ∙ NaR_below n x y i j z q e)
    by NaR e h = omega (arith, ap nat_abs (sym h ∙ ap (λ (v : ℕ). order (signed n x) (signed n v)) (NaR_word n y j e ∙ sym (NaR_word n x i q)) ∙ order_same (signed n x)))

-- a word that isn't greater is moved to a word that isn't greater
still_not_greater : (a b x y u v : ℕ) → Moves a b Rule.Rounded x (Ok u) → Moves a b Rule.Rounded y (Ok v) → NotGreater (signed a x) (signed a y) → NotGreater (signed b u) (signed b v)
unfolding IsMoved IsWritten nar_word word_of
still_not_greater a b x y u v m m' h = by (takum a x) refl (takum a y) refl (moved_meaning a b x u m) (moved_meaning a b y v m')
  where
    from_x : IsWord a x × IsWord b u
    from_x = moved_words a b Rule.Rounded x u m

    from_y : IsWord a y × IsWord b v
    from_y = moved_words a b Rule.Rounded y v m'

    by : (s : Takum) → takum a x ≡ s → (t : Takum) → takum a y ≡ t → IsMoved b Rule.Rounded s (Ok u) → IsMoved b Rule.Rounded t (Ok v) → NotGreater (signed b u) (signed b v)
    by (real z) p (real z') q k l =
        rounding_keeps_order b from_x.1.least from_x.1.most (is_negative z) (is_negative z') (nat_abs z) 1 (nat_abs z') 1 u v (zero-lt-suc 0) (zero-lt-suc 0) k l
        (λ e. h (order_of_values a x y from_x.0 from_y.0 z z' p q ∙ sym (ap₂ order (whole z) (whole z')) ∙ e))
      where
        whole : (z : ℤ) → signed_size (is_negative z) (nat_abs z * 1) ≡ z
        whole z = ap (signed_size (is_negative z)) (mul-one (nat_abs z)) ∙ rejoined z
    by (real z) p NaR q k l = absurd (h (above_NaR a x y from_x.0 from_y.0 z p q))
    by NaR p t q k l = NaR_least b u v from_x.1 from_y.1 (takum_NaR b u from_x.1.least from_x.1.most (ap word_of k))

-- the three orders
one_of_three : (x y : ℤ) → (order x y ≡ negsuc 0) ⊎ ((order x y ≡ pos 0) ⊎ (order x y ≡ pos 1))
unfolding order
one_of_three x y = by (lt_z x y) (lt_z y x)
  where
    by : (c d : Bool) → (cond c (negsuc 0) (cond d (pos 1) (pos 0)) ≡ negsuc 0) ⊎ ((cond c (negsuc 0) (cond d (pos 1) (pos 0)) ≡ pos 0) ⊎ (cond c (negsuc 0) (cond d (pos 1) (pos 0)) ≡ pos 1))
    by true d = inl refl
    by false true = inr (inr refl)
    by false false = inr (inl refl)

-- what is greater afterwards was greater before
was_greater : (x y u v : ℤ) → (NotGreater x y → NotGreater u v) → order u v ≡ pos 1 → order x y ≡ pos 1
was_greater x y u v keeps h =
    ⊎_elim (λ e. absurd (keeps (λ g. pos-ne-negsuc 1 0 (sym g ∙ e)) h)) (⊎_elim (λ e. absurd (keeps (λ g. omega (arith, ap nat_abs (sym g ∙ e))) h)) (λ e. e)) (one_of_three x y)

-- and what is less was less, since it is the greater of the two exchanged
number_not_reversed : (x y u v : ℤ) → (NotGreater x y → NotGreater u v) → (NotGreater y x → NotGreater v u) → (order u v ≡ order x y) ⊎ (order u v ≡ pos 0)
number_not_reversed x y u v keeps keeps' =
    ⊎_elim (λ e. inl (e ∙ sym (order_exchanged y x ∙ ap neg_ℤ (was_greater y x v u keeps' (order_exchanged u v ∙ ap neg_ℤ e))))) (⊎_elim inr (λ e. inl (e ∙ sym (was_greater x y u v keeps e)))) (one_of_three u v)

not_reversed : (x y u v : ℤ) → (NotGreater x y → NotGreater u v) → (NotGreater y x → NotGreater v u) → IsNotReversed (int_cmp x y) (int_cmp u v)
unfolding IsNotReversed
not_reversed x y u v keeps keeps' = ⊎_elim (λ e. inl (order_is u v (int_cmp x y) (e ∙ sym (order_number_is x y)))) (λ e. inr (order_is u v Equal e)) (number_not_reversed x y u v keeps keeps')

-- the order that is answered
answered_order : (n x y : ℕ) (o : Ordering) → Compares n x y (Ok o) → IsWord n x × IsWord n y × (int_cmp (signed n x) (signed n y) ≡ o)
unfolding Compares
answered_order n x y o (through h e) = let t = words_through n x y h in (t.0, t.1, cc)
answered_order n x y o (refused h e) = absurd cc

pub moving_never_reverses_the_order : promise.MovingNeverReversesTheOrder
unfolding promise.MovingNeverReversesTheOrder GoesCompared
moving_never_reverses_the_order a b x y before after p (stops q m e) = absurd cc
moving_never_reverses_the_order a b x y before after p (goes_on u m (stops q m' e)) = absurd cc
moving_never_reverses_the_order a b x y before after p (goes_on u m (goes_on v m' q)) =
    subst₂ IsNotReversed (answered_order a x y before p).2 (answered_order b u v after q).2
    (not_reversed (signed a x) (signed a y) (signed b u) (signed b v) (still_not_greater a b x y u v m m') (still_not_greater a b y x v u m' m))

-- what has a value is moved to a word that has one
moved_real : (b : ℕ) (z : ℤ) (v : ℕ) → IsMoved b Rule.Rounded (real z) (Ok v) → (z' : ℤ) × (takum b v ≡ real z')
unfolding IsMoved IsWritten
moved_real b z v (zero e e') = (pos 0, ap (takum b) e' ∙ takum_zero b)
moved_real b z v (other h x) = (_, x.is.means)

pub NaR_stays_below_every_other_word : promise.NaRStaysBelowEveryOtherWord
unfolding promise.NaRStaysBelowEveryOtherWord GoesCompared IsMoved nar_word word_of
NaR_stays_below_every_other_word a b x y z after p p' (stops q m e) = absurd cc
NaR_stays_below_every_other_word a b x y z after p p' (goes_on u m (stops q m' e)) = absurd cc
NaR_stays_below_every_other_word a b x y z after p p' (goes_on u m (goes_on v m' q)) =
    let t = answered_order b u v after q in
    let nar = takum_NaR b u t.0.least t.0.most (ap word_of (subst (λ (s : Takum). IsMoved b Rule.Rounded s (Ok u)) p (moved_meaning a b x u m))) in
    let k = moved_real b z v (subst (λ (s : Takum). IsMoved b Rule.Rounded s (Ok v)) p' (moved_meaning a b y v m')) in
    sym t.2 ∙ order_is _ _ Less (NaR_below b u v t.0 t.1 k.0 nar k.1)

pub goes_compared : (a b x y : ℕ) (r : Answer Ordering) → GoesCompared a b x y r → ComparesMoved a b x y r
unfolding promise.MovingNeverReversesTheOrder
goes_compared a b x y r g = record { goes = g; not_reversed = λ before after p e. moving_never_reverses_the_order a b x y before after p (subst (GoesCompared a b x y) e g) }

-- ---- a middle width
-- words of one meaning are moved alike
moved_alike : (a b c w u : ℕ) (r r' : Answer Written) → IsWord a w → IsWord b u → takum b u ≡ takum a w → MovesAndSays b c Rule.Rounded u r → MovesAndSays a c Rule.Rounded w r' → r ≡ r'
unfolding MovesAndSays Moves
moved_alike a b c w u r r' i j same x y = moves_and_says_one a c Rule.Rounded w r r' (record { answers = by x.answers; says = λ v s e. subst (λ (t : Takum). SaysMoved c t v s) same (x.says v s e) }) y
  where
    by : Moves b c Rule.Rounded u (plain r) → Moves a c Rule.Rounded w (plain r)
    by (through h z) = let t = width_through c (move_through b c u h).1 in through (move_passes a c w i t.0 t.1) (subst (λ (t : Takum). IsMoved c Rule.Rounded t (plain r)) same z)
    by (refused h e) = refused (target_tested a c w i ∙ sym (target_tested b c u j) ∙ h) e

-- by way of b, where a word there means what the word means
by_the_same : (a b c w u : ℕ) (r r' : Answer Written) → IsWord a w → IsWord b u → takum b u ≡ takum a w → GoesBy a b c w r → MovesAndSays a c Rule.Rounded w r' → r ≡ r'
unfolding GoesBy word_of
by_the_same a b c w u r r' i j same (stops q m e) x = absurd (answer_none u (Err q) (moved_to_the_same a b w u Rule.Rounded (Err q) i j same m) q refl)
by_the_same a b c w u r r' i j same (goes_on v m y) x =
    moved_alike a b c w u r r' i j same (subst (λ (v : ℕ). MovesAndSays b c Rule.Rounded v r) (ap word_of (moved_to_the_same a b w u Rule.Rounded (Ok v) i j same m)) y) x

pub an_exact_middle_changes_nothing : promise.AnExactMiddleChangesNothing
unfolding promise.AnExactMiddleChangesNothing sayings.AMoveIsExactWhereTheMeaningStays MovesAndSays
an_exact_middle_changes_nothing a b c w u r r' x =
    let t = moved_words a b Rule.Rounded w u x.answers in
    by_the_same a b c w u r r' t.0 t.1 ((a_move_is_exact_where_the_meaning_stays a b Rule.Rounded w u Exact x).0 refl)

pub a_middle_as_wide_changes_nothing : promise.AMiddleAsWideChangesNothing
unfolding promise.AMiddleAsWideChangesNothing
a_middle_as_wide_changes_nothing a b c w r r' i wide top = let t = widened a b w wide top i in by_the_same a b c w t.0 r r' i t.1 t.2

pub a_move_to_the_same_width_is_the_word : promise.AMoveToTheSameWidthIsTheWord
unfolding promise.AMoveToTheSameWidthIsTheWord
a_move_to_the_same_width_is_the_word a w r i x = meaning_kept a a Rule.Rounded w w r i i refl x

-- 513 + 2^-20 goes from 64 bits to 513 at 32 and from there to 512 at 16, and directly to 514: the tests are computed
pub a_middle_width_can_change_the_word : promise.AMiddleWidthCanChangeTheWord
unfolding promise.AMiddleWidthCanChangeTheWord GoesBy MovesAndSays move_settled meaning_settled settled size_settled is_rounded is_positive past_half before_half went size_at size_of is_word is_negative power regime_of characteristic_of S D R r p C F c e value meaning N padded takum
a_middle_width_can_change_the_word =
    let first = (moved_so 64 0x5A00800008000000 32 0x5A008000 Below tt).answers in (
      64,
      32,
      16,
      0x5A00800008000000,
      (moved_words 64 32 Rule.Rounded 0x5A00800008000000 0x5A008000 first).0,
      omega arith,
      omega arith,
      0x5A00,
      0x5A01,
      Below,
      Above,
      goes_on 0x5A008000 first (moved_so 32 0x5A008000 16 0x5A00 Below tt),
      moved_so 64 0x5A00800008000000 16 0x5A01 Above tt,
      λ e. omega (arith, e),
    )
