-- What the exported calls on widths and words hand over, from their contracts. Assumes nothing.
use Rattle.std.specs.Prelude.{Ok, Err}
use Rattle.std.specs.declared.cmp.Ordering.{Ordering}
use Rattle.std.specs.Ordering.{int_cmp}
use mathlib.Core.Path.{◌≡◌, refl, sym, ap, ◌∙◌, subst}
use mathlib.Core.Bool.{false}
use mathlib.Core.List.{[], ◌∷◌}
use mathlib.Core.Logic.{inl, inr}
use Prim.Native.Nat.{ℕ, ◌*◌, ◌^◌, ◌≤◌, ◌<◌}
use native.Mathlib.Decide.{dec_lt}
use native.Mathlib.Omega.{arith}
use lib.IntN.{pos, nat_abs}
use Rattle.bounds.specs.declared.refusal.Refusal.{Refusal}
use Rattle.bounds.specs.Refusals.{IsWord, Answer}
use Rattle.bounds.specs.Widths.{largest, smallest, nar_word, IsLimit, GivesWord, GivesLimit}
use Rattle.bounds.proofs.Powers.{not_more}
use Rattle.bounds.proofs.Verdicts.{width_through, word_through, words_through}
use Rattle.word.specs.declared.reading.Kind.{Kind}
use Rattle.word.specs.Takum.{Takum, real, NaR, takum, fraction_bits, own_fraction_bits}
use Rattle.word.specs.declared.reading.Reading.{Reading}
use Rattle.word.specs.Reads.{IsKind, Reads}
use Rattle.word.specs.Orders.{signed, order, opposite, negated}
use Rattle.order.specs.Orders.{order_number, Compares, Negates}
use Rattle.order.proofs.Numbers.{order_number_is}
use Rattle.word.proofs.Values.{order_of_values, order_same, NaR_below, above_NaR, words_differ, negated_word, negation_negates}
use Rattle.nearest.specs.Nearest.{HasValue}
use Rattle.write.specs.Writes.{is_negative}
use Rattle.whole.specs.Limits as limits
use Rattle.whole.proofs.LimitWords.{every_whole_number_up_to_the_limit_has_a_word, the_limit_plus_one_has_no_word}
use Rattle.ledusprig.specs.declared.handed.words.HandedWord.{HandedWord}
use Rattle.ledusprig.specs.declared.handed.words.HandedReading.{HandedReading}
use Rattle.ledusprig.specs.declared.handed.words.HandedComparison.{HandedComparison}
use Rattle.ledusprig.specs.declared.handed.widths.HandedLimit.{HandedLimit}
use Rattle.ledusprig.specs.Handed.{HandsOver, word_handed, kind_handed, reading_handed, comparison_handed, limit_handed}
use Rattle.promises.specs.Demands.{TheEndWords, TheNaRWord}
use Rattle.promises.specs.Numbers.{IsWhole}
use Rattle.promises.specs.Refusals.{width, stray}
use Rattle.promises.specs.Face.{HandsWord, IsNaR, IsLargest, IsSmallest, CountsUpTo, HandsLargest, HandsSmallest, HandsNaR, HandsLimit, NoNumber, IsToldBy, HandsReading, order_of_meanings, HandsComparison, HandsNegated}
use Rattle.promises.proofs.Demands.{reads_as, the_end_words, the_NaR_word}
use Rattle.promises.proofs.FaceLaws.{hands, word_hands, unrefused}
use Rattle.promises.proofs.Refusals.{refusals_follow_the_table}
use Rattle.promises.proofs.WordRefusals.{answer_none}

-- ---- what belongs to a width
of_width : (f : ℕ → ℕ) (n : ℕ) (Is : ℕ → Type 0) → (2 ≤ n → n ≤ 64 → Is (f n)) → (r : HandedWord) → HandsOver word_handed (GivesWord f n) r → HandsWord (width n ∷ []) Is r
unfolding GivesWord
of_width f n Is is = word_hands (width n ∷ []) Is by (refusals_follow_the_table.words f n)
  where
    by : (w : ℕ) → GivesWord f n (Ok w) → Is w
    by w x = let t = unrefused (answer_none w _ refl) x in let u = width_through n t.0 in let e : f n ≡ w = cc in subst Is e (is u.0 u.1)

pub largest_hands : (n : ℕ) (r : HandedWord) → HandsOver word_handed (GivesWord largest n) r → HandsLargest n r
unfolding HandsLargest IsLargest TheEndWords
largest_hands n = of_width largest n (IsLargest n) (λ lo hi. let t = the_end_words n lo hi in (t.1, t.3, λ z w x. by t.1 t.5 z w x (dec_lt 0 z)))
  where
    by : {least : ℕ} (most : ℕ) → ((z w : ℕ) → 0 < z → HasValue n false z w → (least ≤ z) × (z ≤ most)) → (z w : ℕ) → HasValue n false z w → Dec (0 < z) → z ≤ most
    by most f z w x (yes l) = (f z w l x).1
    by most f z w x (no g) = omega (arith, not_more g)

pub smallest_hands : (n : ℕ) (r : HandedWord) → HandsOver word_handed (GivesWord smallest n) r → HandsSmallest n r
unfolding HandsSmallest IsSmallest TheEndWords
smallest_hands n = of_width smallest n (IsSmallest n) (λ lo hi. let t = the_end_words n lo hi in (t.0, t.4, t.2, λ z w l x. (t.5 z w l x).0))

pub NaR_hands : (n : ℕ) (r : HandedWord) → HandsOver word_handed (GivesWord nar_word n) r → HandsNaR n r
unfolding HandsNaR IsNaR TheNaRWord
NaR_hands n = of_width nar_word n (IsNaR n) (λ lo hi. let t = the_NaR_word n lo hi in (t.0, t.1))

counts : (n l : ℕ) → 2 ≤ n → n ≤ 64 → IsLimit n l → CountsUpTo n l
unfolding CountsUpTo IsWhole limits.EveryWholeNumberUpToTheLimitHasAWord limits.TheLimitPlusOneHasNoWord
counts n l lo hi i = (λ x h. every_whole_number_up_to_the_limit_has_a_word n l lo hi i (nat_abs x) h (is_negative x), λ x w q y. the_limit_plus_one_has_no_word n l lo hi i (is_negative x) w (subst (λ (k : ℕ). HasValue n (is_negative x) (k * 2 ^ 307) w) q y))

pub limit_hands : (n : ℕ) (r : HandedLimit) → HandsOver limit_handed (GivesLimit n) r → HandsLimit n r
unfolding HandsLimit GivesLimit
limit_hands n = hands Err (λ r. r.refusal) (λ r. r.limit ≡ 0) (λ r. (r.refusal ≡ 0) × CountsUpTo n r.limit) (width n ∷ []) (λ q x. (refl, refl)) by (refusals_follow_the_table.limit n)
  where
    by : (a : Answer ℕ) → GivesLimit n a → ((q : Refusal) → a ≡ Err q → ⊥) → ((limit_handed a).refusal ≡ 0) × CountsUpTo n (limit_handed a).limit
    by (Ok l) x none = let (h, (k, e, i)) = unrefused none x in let u = width_through n h in let same : k ≡ l = cc in (refl, subst (CountsUpTo n) same (counts n k u.0 u.1 i))
    by (Err q) x none = absurd (none q refl)

-- ---- one word
pub read_hands : (n w : ℕ) (r : HandedReading) → HandsOver reading_handed (Reads n w) r → HandsReading n w r
unfolding HandsReading NoNumber IsToldBy IsKind Reads
read_hands n w = hands Err (λ r. r.refusal) (λ r. (r.kind ≡ 0) × NoNumber r × (r.own ≡ 0)) (λ r. (r.refusal ≡ 0) × (IsToldBy n w r × (r.own ≡ own_fraction_bits n w))) (width n ∷ stray n w ∷ []) (λ q x. (refl, (refl, (refl, refl, refl, refl), refl))) by (refusals_follow_the_table.read n w)
  where
    told : (a : Kind) (o : ℕ) → IsKind (takum n w) (fraction_bits n w) a → ((kind_handed a o).refusal ≡ 0) × IsToldBy n w (kind_handed a o)
    told Kind.Zero o x = (refl, inl (refl, x, (refl, refl, refl, refl)))
    told Kind.Nar o x = (refl, inr (inl (refl, x, (refl, refl, refl, refl))))
    told (Kind.Number s h m p) o x = (refl, inr (inr (refl, x)))

    own : (a : Kind) (o : ℕ) → (kind_handed a o).own ≡ o
    own Kind.Zero o = refl
    own Kind.Nar o = refl
    own (Kind.Number s h m p) o = refl

    by : (a : Answer Reading) → Reads n w a → ((q : Refusal) → a ≡ Err q → ⊥) → ((reading_handed a).refusal ≡ 0) × (IsToldBy n w (reading_handed a) × ((reading_handed a).own ≡ own_fraction_bits n w))
    by (Ok a) x none =
        let y = reads_as n w a (word_through n w (unrefused none x).0) x in
        let t = told a.kind a.own y.what in
        (t.0, (t.1, own a.kind a.own ∙ y.fine))
    by (Err q) x none = absurd (none q refl)

order_of_meanings_lem : (n x y : ℕ) → IsWord n x → IsWord n y → (t u : Takum) → takum n x ≡ t → takum n y ≡ u → order (signed n x) (signed n y) ≡ order_of_meanings t u
unfolding order_of_meanings
order_of_meanings_lem n x y ix iy (real a) (real b) h k = order_of_values n x y ix iy a b h k
order_of_meanings_lem n x y ix iy NaR (real b) h k = NaR_below n x y ix iy b h k
order_of_meanings_lem n x y ix iy (real a) NaR h k = above_NaR n x y ix iy a h k
order_of_meanings_lem n x y ix iy NaR NaR h k = ap (λ (v : ℕ). order (signed n x) (signed n v)) (sym (words_differ n x y ix iy (h ∙ sym k))) ∙ order_same (signed n x)

pub compare_hands : (n x y : ℕ) (r : HandedComparison) → HandsOver comparison_handed (Compares n x y) r → HandsComparison n x y r
unfolding HandsComparison Compares
compare_hands n x y = hands Err (λ r. r.refusal) (λ r. r.order ≡ pos 0) (λ r. (r.refusal ≡ 0) × (r.order ≡ order_of_meanings (takum n x) (takum n y))) (width n ∷ stray n x ∷ stray n y ∷ []) (λ q x. (refl, refl)) by (refusals_follow_the_table.compare n x y)
  where
    by : (a : Answer Ordering) → Compares n x y a → ((q : Refusal) → a ≡ Err q → ⊥) → ((comparison_handed a).refusal ≡ 0) × ((comparison_handed a).order ≡ order_of_meanings (takum n x) (takum n y))
    by (Ok o) z none = let t = unrefused none z in let u = words_through n x y t.0 in let e : o ≡ int_cmp (signed n x) (signed n y) = cc in (refl, ap order_number e ∙ order_number_is _ _ ∙ order_of_meanings_lem n x y u.0 u.1 _ _ refl refl)
    by (Err q) z none = absurd (none q refl)

pub negate_hands : (n w : ℕ) (r : HandedWord) → HandsOver word_handed (Negates n w) r → HandsNegated n w r
unfolding HandsNegated Negates
negate_hands n w = word_hands (width n ∷ stray n w ∷ []) (λ v. IsWord n v × (takum n v ≡ opposite (takum n w))) by (refusals_follow_the_table.negate n w)
  where
    by : (v : ℕ) → Negates n w (Ok v) → IsWord n v × (takum n v ≡ opposite (takum n w))
    by v x =
        let t = unrefused (answer_none v _ refl) x in
        let i = word_through n w t.0 in
        let e : negated n w ≡ v = cc in
        subst (λ (k : ℕ). IsWord n k × (takum n k ≡ opposite (takum n w))) e (negated_word n w i, negation_negates n w i)
