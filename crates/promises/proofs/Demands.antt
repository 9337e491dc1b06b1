-- The demands that specs/Demands.antt states. Assumes nothing.
use Rattle.std.specs.declared.cmp.Ordering.{Ordering}
use Rattle.std.specs.declared.cmp.Ordering.TheVariants.{Less, Equal, Greater}
use Rattle.std.specs.Ordering.{int_cmp}
use lib.IntN.{ℤ, pos, negsuc}
use mathlib.Core.Path.{◌≡◌, refl, sym, ap, ◌∙◌, subst}
use mathlib.Core.Bool.{false}
use Prim.Native.Nat.{ℕ, zero, suc, ◌-◌, ◌^◌, ◌≤◌, ◌<◌}
use native.Mathlib.Omega.{arith}
use lib.Pow.{pow_pos}
use Rattle.std.specs.Prelude.{Ok, Err}
use Rattle.bounds.specs.Refusals.{Answer, IsWord}
use Rattle.word.specs.declared.reading.Reading.{Reading}
use Rattle.word.specs.Takum.{takum, fraction_bits, own_fraction_bits}
use Rattle.bounds.specs.Widths.{nar_word, largest, smallest}
use Rattle.word.specs.Reads.{IsKind, IsReading, Reads}
use Rattle.order.specs.Orders.{order_number, Compares, Negates}
use Rattle.order.proofs.Numbers.{order_number_is}
use Rattle.word.specs.Orders.{signed, order, negated}
use Rattle.bounds.proofs.Powers.{twice}
use Rattle.bounds.proofs.Verdicts.{word_passes, words_pass, answered}
use Rattle.word.proofs.Words.{takum_NaR}
use Rattle.sizes.proofs.Tops.{word_number}
use Rattle.nearest.specs.Nearest.{HasValue}
use Rattle.nearest.proofs.Places.{two, word_of, has_value, size_some, not_decreasing, place_of}
use Rattle.word.proofs.Values.{grown, NaR_word, order_of_values, order_same, NaR_below, above_NaR, negated_word, negation_negates, words_differ}
use Rattle.word.proofs.Binades.{meaning_one}
use Rattle.promises.specs.Demands.{ReadingIsTheDefinition, ReadingTellsWordsApart, ASizeIsTheWordsValue, TheEndWords, TheNaRWord, ComparisonIsTheOrderOfValues, NaRIsBelowEveryValue, EveryValueIsAboveNaR, EveryWordEqualsItself, NegationNegates}

-- ---- demand 2, reading
pub reading_is_the_definition : ReadingIsTheDefinition
unfolding ReadingIsTheDefinition Reads
reading_is_the_definition n w a i x = answered (word_passes n w i) x

-- what a reading says that is no refusal
pub reads_as : (n w : ℕ) (a : Reading) → IsWord n w → Reads n w (Ok a) → IsReading (takum n w) (fraction_bits n w) (own_fraction_bits n w) a
unfolding Reads
reads_as n w a i x = let (r, same, is) = answered (word_passes n w i) x in subst (IsReading (takum n w) (fraction_bits n w) (own_fraction_bits n w)) (sym (ap (reading_of a) same)) is
  where
    reading_of : Reading → Answer Reading → Reading
    reading_of d (Ok r) = r
    reading_of d (Err q) = d

pub reading_tells_words_apart : ReadingTellsWordsApart
unfolding ReadingTellsWordsApart Reads
reading_tells_words_apart n x y a b ix iy hx hy same = words_differ n x y ix iy (meaning_one (takum n x) (takum n y) _ _ b.kind (subst (IsKind (takum n x) (fraction_bits n x)) same (reads_as n x a ix hx).what) (reads_as n y b iy hy).what)

pub a_size_is_the_words_value : ASizeIsTheWordsValue
unfolding ASizeIsTheWordsValue nar_word
a_size_is_the_words_value n w x i some other s = let t = word_number n w i some other x s in (t.v, t.means, t.size)

-- ---- the words that belong to a width
pub the_end_words : TheEndWords
unfolding TheEndWords smallest largest word_of
the_end_words n lo hi = (grown n 1, grown n last, has_value n lo hi false 1 (omega arith) (omega (arith, two n lo hi)), has_value n lo hi false last some below, size_some n lo hi 1 (omega arith) (omega (arith, two n lo hi)), between)
  where
    last : ℕ
    last = 2 ^ (n - 1) - 1

    some : 0 < last
    some = omega (arith, two n lo hi)

    below : last < 2 ^ (n - 1)
    below = omega (arith, two n lo hi)

    -- sizes never fall from one place to a later one
    between : (z w : ℕ) → 0 < z → HasValue n false z w → (grown n 1 ≤ z) × (z ≤ grown n last)
    between z w h x =
        let t = place_of n lo hi false z w h x in
        (subst (λ (y : ℕ). grown n 1 ≤ y) (sym t.size_is) (not_decreasing n lo hi 1 t.v (omega arith) t.first t.last), subst (λ (y : ℕ). y ≤ grown n last) (sym t.size_is) (not_decreasing n lo hi t.v last t.first (omega (arith, t.last)) below))

pub the_NaR_word : TheNaRWord
unfolding TheNaRWord nar_word
the_NaR_word n lo hi = (record { least = lo; most = hi; fits = omega (arith, twice n lo, pow_pos (n - 1)) }, takum_NaR n (2 ^ (n - 1)) lo hi refl, NaR_word n)

-- ---- order and negation
-- the order that has a number
pub of_number : ℤ → Ordering
of_number (pos zero) = Equal
of_number (pos (suc k)) = Greater
of_number (negsuc k) = Less

pub of_its_number : (o : Ordering) → of_number (order_number o) ≡ o
unfolding of_number
of_its_number Less = refl
of_its_number Equal = refl
of_its_number Greater = refl

pub order_is : (x y : ℤ) (o : Ordering) → order x y ≡ order_number o → int_cmp x y ≡ o
order_is x y o e = sym (of_its_number (int_cmp x y)) ∙ ap of_number (order_number_is x y ∙ e) ∙ of_its_number o

pub comparison_is_the_order_of_values : ComparisonIsTheOrderOfValues
unfolding ComparisonIsTheOrderOfValues Compares
comparison_is_the_order_of_values n x y u v a ix iy hx hy c = (_, answered (words_pass n x y ix iy) c, order_number_is _ _ ∙ order_of_values n x y ix iy u v hx hy)

pub NaR_is_below_every_value : NaRIsBelowEveryValue
unfolding NaRIsBelowEveryValue Compares
NaR_is_below_every_value n x y v a ix iy hx hy c = answered (words_pass n x y ix iy) c ∙ ap Ok (order_is _ _ Less (NaR_below n x y ix iy v hx hy))

pub every_value_is_above_NaR : EveryValueIsAboveNaR
unfolding EveryValueIsAboveNaR Compares
every_value_is_above_NaR n x y v a ix iy hx hy c = answered (words_pass n x y ix iy) c ∙ ap Ok (order_is _ _ Greater (above_NaR n x y ix iy v hx hy))

pub every_word_equals_itself : EveryWordEqualsItself
unfolding EveryWordEqualsItself Compares
every_word_equals_itself n w a i c = answered (words_pass n w w i i) c ∙ ap Ok (order_is (signed n w) (signed n w) Equal (order_same (signed n w)))

pub negation_negates_the_value : NegationNegates
unfolding NegationNegates Negates
negation_negates_the_value n w a i x = (negated n w, answered (word_passes n w i) x, negated_word n w i, negation_negates n w i)
