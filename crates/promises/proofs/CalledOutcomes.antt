-- Two outcomes that the contract of an exported call allows are equal: two structs that follow the same lines are refused at the same one, with
-- zeros, or at none, and then the answer is one. Assumes nothing.
use mathlib.Core.Path.{◌≡◌, refl, sym, ap, ap₂, ◌∙◌, subst}
use mathlib.Core.Bool.{Bool, true, false}
use mathlib.Core.List.{List, [], ◌∷◌}
use mathlib.Core.Logic.{◌⊎◌, inl, inr}
use Prim.Native.Nat.{ℕ, ◌+◌, ◌*◌, ◌^◌, ◌≤◌, ◌<◌}
use native.Mathlib.Decide.{dec_lt}
use native.Mathlib.Nat.{le_antisymm}
use native.Mathlib.Omega.{arith}
use lib.Ieee.{Float, nan, inf, fin, up, down}
use lib.Ieee.Fits.{down_pos}
use lib.IntN.{ℤ, pos, nat_abs, ◌+ℤ◌}
use lib.ListN.{length, get_or}
use lib.Seq.{ext_get_or}
use Rattle.bounds.specs.declared.saying.Saying.{Saying}
use Rattle.bounds.specs.declared.saying.Saying.TheVariants.{Exact}
use Rattle.bounds.specs.Refusals.{IsWord}
use Rattle.bounds.specs.Sayings.{saying_number}
use Rattle.bounds.proofs.Powers.{not_more}
use Rattle.word.specs.declared.reading.Kind.{Kind}
use Rattle.word.specs.Takum.{Takum, real, NaR, takum, fraction_bits}
use Rattle.word.specs.Reads.{num, den, signed_size, IsKind}
use Rattle.word.specs.Orders.{opposite}
use Rattle.word.proofs.Binades.{kind_one}
use Rattle.word.proofs.Values.{real_inj, not_NaR, words_differ}
use Rattle.nearest.specs.Nearest.{HasValue}
use Rattle.nearest.specs.Sayings.{Says}
use Rattle.nearest.proofs.Sayings.{says_one}
use Rattle.round.specs.Writes.{zero, other, IsExact}
use Rattle.write.specs.Writes.{is_negative}
use Rattle.write.specs.Sayings.{SaysMoved}
use Rattle.word.proofs.Units.{unit_some}
use Rattle.round.proofs.Rounding.{rounded_one, exact_rounded}
use Rattle.round.proofs.Rules.{zero_value}
use Rattle.whole.specs.Wholes.{IsNearestWhole}
use Rattle.whole.proofs.NearestWholes.{one_nearest_whole}
use Rattle.whole.proofs.OneOutcome.{one_shortest}
use Rattle.binary64.specs.Nearest.{NearestBinary64}
use Rattle.column.specs.Counts.{Counts, KeepsTheMeaning}
use Rattle.column.proofs.Counts.{counts_one}
use Rattle.sheet.specs.Layout as block
use Rattle.sheet.proofs.SameContent.{same_bytes}
use Rattle.ledusprig.specs.declared.handed.words.HandedWord.{HandedWord}
use Rattle.ledusprig.specs.declared.handed.words.HandedSaying.{HandedSaying}
use Rattle.ledusprig.specs.declared.handed.words.HandedReading.{HandedReading}
use Rattle.ledusprig.specs.declared.handed.words.HandedComparison.{HandedComparison}
use Rattle.ledusprig.specs.declared.handed.widths.HandedLimit.{HandedLimit}
use Rattle.ledusprig.specs.declared.handed.widths.HandedWidth.{HandedWidth}
use Rattle.ledusprig.specs.declared.handed.numbers.HandedWhole.{HandedWhole}
use Rattle.ledusprig.specs.declared.handed.numbers.HandedNumber.{HandedNumber}
use Rattle.ledusprig.specs.declared.handed.columns.HandedColumn.{HandedColumn}
use Rattle.ledusprig.specs.declared.handed.columns.HandedBlock.{HandedBlock}
use Rattle.ledusprig.specs.declared.handed.columns.HandedWriting.{HandedWriting}
use Rattle.ledusprig.specs.Handed.{kind_handed}
use Rattle.promises.specs.Nearest.{OneNumberIsTheNearest}
use Rattle.promises.specs.Numbers.{IsWhole}
use Rattle.promises.specs.Refusals.{Line, line, width, stray, nar, over, no_width, room, size, mark, check, block_width, count, fill, written_width, retired, written_count}
use Rattle.promises.specs.Face.{FieldFollows, NoneHolds, HandsWord, HandsSaid, inexact, IsGiven, IsNaR, IsLargest, IsSmallest, CountsUpTo, HandsLargest, HandsSmallest, HandsNaR, HandsLimit, NoNumber, IsToldBy, HandsReading, HandsComparison, HandsNegated, HandsValue, HandsWritten, HandsWholeWritten, HandsBinary64Written, HandsWhole, HandsNumber, HandsShortest, word_lines, IsMovedTo, HandsMoved, MovedAll, RefusedAtPosition, HandsColumn, HandsBlock, WrittenAll, StrayAtPosition, HandsBlockWritten}
use Rattle.promises.proofs.Nearest.{one_number_is_the_nearest}

-- ---- for every struct
-- two that follow the same lines are refused at one of them, or none holds
follows_one : (lines : List Line) {q q' : ℕ} {Zeros Zeros' Then Then' Same : Type 0} → (q ≡ q' → Zeros → Zeros' → Same) → (NoneHolds lines → Then → Then' → Same) → FieldFollows q lines Zeros Then → FieldFollows q' lines Zeros' Then' → Same
unfolding FieldFollows NoneHolds
follows_one [] refused then x y = then tt x y
follows_one (line number When ∷ lines) refused then (inl (h, e, z)) (inl (h', e', z')) = refused (e ∙ sym e') z z'
follows_one (line number When ∷ lines) refused then (inl x) (inr y) = absurd (y.0 x.0)
follows_one (line number When ∷ lines) refused then (inr x) (inl y) = absurd (x.0 y.0)
follows_one (line number When ∷ lines) refused then (inr (f, x)) (inr (g, y)) = follows_one lines refused (λ none. then (f, none)) x y

-- both are one thing
both : {A : Type 0} {a b c : A} → a ≡ c → b ≡ c → a ≡ b
both p q = p ∙ sym q

-- a width whose line doesn't hold
right : {n : ℕ} → ((n < 2) ⊎ (64 < n) → ⊥) → (2 ≤ n) × (n ≤ 64)
right f = (not_more (λ h. f (inl h)), not_more (λ h. f (inr h)))

-- ---- words
word_one : (lines : List Line) (Is : ℕ → Type 0) → (NoneHolds lines → (v w : ℕ) → Is v → Is w → v ≡ w) → (r s : HandedWord) → HandsWord lines Is r → HandsWord lines Is s → r ≡ s
word_one lines Is one r s = follows_one lines (λ e z z'. same e (both z z')) (λ none x y. same (both x.0 y.0) (one none r.word s.word x.1 y.1))
  where
    same : r.refusal ≡ s.refusal → r.word ≡ s.word → r ≡ s
    same e f = λ i. record { refusal = e i; word = f i }

-- with a saying
said_one : (lines : List Line) (Is : ℕ → Type 0) (SaysOf : ℕ → Saying → Type 0) → (NoneHolds lines → (v w : ℕ) → Is v → Is w → v ≡ w) → (NoneHolds lines → (w : ℕ) (p q : Saying) → Is w → SaysOf w p → SaysOf w q → p ≡ q) → (r s : HandedSaying) → HandsSaid lines Is SaysOf r → HandsSaid lines Is SaysOf s → r ≡ s
said_one lines Is SaysOf one says_one r s = follows_one lines (λ e z z'. same e (both z.0 z'.0) (both z.1 z'.1)) (λ none x y. by none (both x.0 y.0) x.1 y.1)
  where
    same : r.refusal ≡ s.refusal → r.saying ≡ s.saying → r.word ≡ s.word → r ≡ s
    same e f g = λ i. record { refusal = e i; saying = f i; word = g i }

    Said : HandedSaying → Type 0
    Said r = Is r.word × ((p : Saying) × (r.saying ≡ saying_number p) × SaysOf r.word p)

    by : NoneHolds lines → r.refusal ≡ s.refusal → Said r → Said s → r ≡ s
    by none e (x, (p, f, a)) (y, (q, g, b)) =
        let word = one none r.word s.word x y in
        same e (f ∙ ap saying_number (says_one none s.word p q y (subst (λ (w : ℕ). SaysOf w p) word a) b) ∙ sym g) word

-- one value has one word
has_one : (n : ℕ) (s : Bool) (z z' w w' : ℕ) → z ≡ z' → HasValue n s z w → HasValue n s z' w' → w ≡ w'
has_one n s z z' w w' e x y = words_differ n w w' x.word y.word (x.means ∙ ap (λ (k : ℕ). real (signed_size s k)) e ∙ sym y.means)

pub largest_called_one : (n : ℕ) (r s : HandedWord) → HandsLargest n r → HandsLargest n s → r ≡ s
unfolding HandsLargest IsLargest
largest_called_one n = word_one (width n ∷ []) (IsLargest n) (λ none v w (z, x, most) (z', y, most'). has_one n false z z' v w (le_antisymm (most' z v x) (most z' w y)) x y)

pub smallest_called_one : (n : ℕ) (r s : HandedWord) → HandsSmallest n r → HandsSmallest n s → r ≡ s
unfolding HandsSmallest IsSmallest
smallest_called_one n = word_one (width n ∷ []) (IsSmallest n) (λ none v w (z, some, x, least) (z', some', y, least'). has_one n false z z' v w (le_antisymm (least z' w some' y) (least' z v some x)) x y)

NaR_one : (n v w : ℕ) → IsNaR n v → IsNaR n w → v ≡ w
unfolding IsNaR
NaR_one n v w (i, x) (j, y) = words_differ n v w i j (both x y)

pub NaR_called_one : (n : ℕ) (r s : HandedWord) → HandsNaR n r → HandsNaR n s → r ≡ s
unfolding HandsNaR
NaR_called_one n = word_one (width n ∷ []) (IsNaR n) (λ none. NaR_one n)

pub negated_called_one : (n w : ℕ) (r s : HandedWord) → HandsNegated n w r → HandsNegated n w s → r ≡ s
unfolding HandsNegated
negated_called_one n w = word_one (width n ∷ stray n w ∷ []) (λ v. IsWord n v × (takum n v ≡ opposite (takum n w))) (λ none u v x y. words_differ n u v x.0 y.0 (both x.1 y.1))

-- ---- the limit: if one were less than another, the number after it would have a word by the greater, and none by itself
not_less : (n l l' : ℕ) → CountsUpTo n l → CountsUpTo n l' → l' ≤ l
unfolding CountsUpTo
not_less n l l' x y = not_more (λ h. let t = y.0 (pos (l + 1)) (omega (arith, h)) in x.1 (pos (l + 1)) t.0 refl t.1)

pub limit_called_one : (n : ℕ) (r s : HandedLimit) → HandsLimit n r → HandsLimit n s → r ≡ s
unfolding HandsLimit
limit_called_one n r s = follows_one (width n ∷ []) (λ e z z'. same e (both z z')) (λ none (e, x) (e', y). same (both e e') (le_antisymm (not_less n s.limit r.limit y x) (not_less n r.limit s.limit x y)))
  where
    same : r.refusal ≡ s.refusal → r.limit ≡ s.limit → r ≡ s
    same e f = λ i. record { refusal = e i; limit = f i }

-- ---- reading
reading_same : (r s : HandedReading) → r.refusal ≡ s.refusal → r.kind ≡ s.kind → (r.negative ≡ s.negative) × (r.h ≡ s.h) × (r.m ≡ s.m) × (r.p ≡ s.p) → r.own ≡ s.own → r ≡ s
reading_same r s e f (a, b, c, d) o = λ i. record { refusal = e i; kind = f i; negative = a i; h = b i; m = c i; p = d i; own = o i }

-- the struct is an answer that reading may give, handed over
told : (n w : ℕ) (r : HandedReading) → r.refusal ≡ 0 → IsToldBy n w r → (a : Kind) × IsKind (takum n w) (fraction_bits n w) a × (r ≡ kind_handed a r.own)
unfolding IsToldBy NoNumber IsKind
told n w r e (inl (f, x, none)) = (Kind.Zero, x, reading_same r _ e f none refl)
told n w r e (inr (inl (f, x, none))) = (Kind.Nar, x, reading_same r _ e f none refl)
told n w r e (inr (inr (f, x))) = (Kind.Number r.negative r.h r.m r.p, x, reading_same r _ e f (refl, refl, refl, refl) refl)

pub reading_called_one : (n w : ℕ) (r s : HandedReading) → HandsReading n w r → HandsReading n w s → r ≡ s
unfolding HandsReading NoNumber
reading_called_one n w r s = follows_one (width n ∷ stray n w ∷ []) (λ e (f, x, o) (f', y, o'). reading_same r s e (both f f') (both x.0 y.0, both x.1 y.1, both x.2 y.2, both x.3 y.3) (both o o')) (λ none (e, (x, o)) (e', (y, o')). by (told n w r e x) (told n w s e' y) (both o o'))
  where
    Told : HandedReading → Type 0
    Told r = (a : Kind) × IsKind (takum n w) (fraction_bits n w) a × (r ≡ kind_handed a r.own)

    by : Told r → Told s → r.own ≡ s.own → r ≡ s
    by (a, x, is) (b, y, is') o = is ∙ ap₂ kind_handed (kind_one (takum n w) (fraction_bits n w) a b x y) o ∙ sym is'

pub comparison_called_one : (n x y : ℕ) (r s : HandedComparison) → HandsComparison n x y r → HandsComparison n x y s → r ≡ s
unfolding HandsComparison
comparison_called_one n x y r s = follows_one (width n ∷ stray n x ∷ stray n y ∷ []) (λ e z z'. same e (both z z')) (λ none (e, z) (e', z'). same (both e e') (both z z'))
  where
    same : r.refusal ≡ s.refusal → r.order ≡ s.order → r ≡ s
    same e f = λ i. record { refusal = e i; order = f i }

-- ---- writing
given_one : (strict : Bool) (n : ℕ) → 2 ≤ n → n ≤ 64 → (s : Bool) (a b : ℕ) → 0 < b → (v w : ℕ) → IsGiven strict n s a b v → IsGiven strict n s a b w → v ≡ w
unfolding IsGiven
given_one true n lo hi s a b some v w x y = rounded_one n lo hi s a b v w some (exact_rounded n lo hi s a b v some x) (exact_rounded n lo hi s a b w some y)
given_one false n lo hi s a b some v w x y = rounded_one n lo hi s a b v w some x y

given_word : (strict : Bool) (n : ℕ) → 2 ≤ n → n ≤ 64 → (s : Bool) (a b w : ℕ) → IsGiven strict n s a b w → IsWord n w
unfolding IsGiven
given_word true n lo hi s a b w x = x.is.word
given_word false n lo hi s a b w (zero q e) = subst (IsWord n) (sym e) (zero_value n lo hi s).word
given_word false n lo hi s a b w (other h x) = x.is.word

value_one : (n : ℕ) (strict negative : Bool) (a b : ℕ) → 0 < b → (r s : HandedSaying) → HandsValue n strict negative a b r → HandsValue n strict negative a b s → r ≡ s
unfolding NoneHolds
value_one n strict negative a b some =
    said_one (width n ∷ inexact strict (IsExact n negative a b) ∷ []) (IsGiven strict n negative a b) (Says n negative a b) (λ none. let t = right none.0 in given_one strict n t.0 t.1 negative a b some)
    (λ none w p q x. let t = right none.0 in says_one n t.0 t.1 negative a b w p q (given_word strict n t.0 t.1 negative a b w x))

pub written_called_one : (n : ℕ) (strict negative : Bool) (m : ℕ) (k : ℤ) (r s : HandedSaying) → HandsWritten n strict negative m k r → HandsWritten n strict negative m k s → r ≡ s
unfolding HandsWritten
written_called_one n strict negative m k = value_one n strict negative (m * num (k +ℤ pos 307)) (den (k +ℤ pos 307)) (unit_some (k +ℤ pos 307)).1

pub whole_written_called_one : (n : ℕ) (strict : Bool) (x : ℤ) (r s : HandedSaying) → HandsWholeWritten n strict x r → HandsWholeWritten n strict x s → r ≡ s
unfolding HandsWholeWritten
whole_written_called_one n strict x = value_one n strict (is_negative x) (nat_abs x * 2 ^ 307) 1 (omega arith)

pub binary64_written_called_one : (n : ℕ) (strict : Bool) (x : Float) (r s : HandedSaying) → HandsBinary64Written n strict x r → HandsBinary64Written n strict x s → r ≡ s
unfolding HandsBinary64Written
binary64_written_called_one n strict nan = said_one (width n ∷ []) (IsNaR n) (λ w s. s ≡ Exact) (λ none. NaR_one n) (λ none w p q x. both)
binary64_written_called_one n strict (inf s) = said_one (width n ∷ []) (IsNaR n) (λ w s. s ≡ Exact) (λ none. NaR_one n) (λ none w p q x. both)
binary64_written_called_one n strict (fin s m e) = value_one n strict s (m * up e * 2 ^ 307) (down e) (down_pos e)

-- ---- taking
pub whole_called_one : (n : ℕ) (strict : Bool) (w : ℕ) (r s : HandedWhole) → HandsWhole n strict w r → HandsWhole n strict w s → r ≡ s
unfolding HandsWhole
whole_called_one n strict w r s = follows_one (width n ∷ stray n w ∷ nar n w ∷ over n w ∷ inexact strict (λ x. IsWhole n x w) ∷ []) (λ e z z'. same e (both z z')) (λ none (e, x) (e', y). same (both e e') (whole x.0 y.0))
  where
    same : r.refusal ≡ s.refusal → r.whole ≡ s.whole → r ≡ s
    same e f = λ i. record { refusal = e i; whole = f i }

    Nearest : ℤ → Type 0
    Nearest x = (z : ℤ) × (takum n w ≡ real z) × IsNearestWhole z x

    whole : Nearest r.whole → Nearest s.whole → r.whole ≡ s.whole
    whole (z, h, x) (z', h', y) = one_nearest_whole z' r.whole s.whole (subst (λ (k : ℤ). IsNearestWhole k r.whole) (real_inj (sym h ∙ h')) x) y

pub number_called_one : (n w : ℕ) (r s : HandedNumber) → HandsNumber n w r → HandsNumber n w s → r ≡ s
unfolding HandsNumber OneNumberIsTheNearest
number_called_one n w r s = follows_one (width n ∷ stray n w ∷ []) (λ e (f, x) (f', y). same e (both f f') (both x y)) (λ none (e, x) (e', y). by (both e e') x y)
  where
    same : r.refusal ≡ s.refusal → r.real ≡ s.real → r.number ≡ s.number → r ≡ s
    same e f g = λ i. record { refusal = e i; real = f i; number = g i }

    Taken : HandedNumber → Type 0
    Taken r = ((r.real ≡ true) × (z : ℤ) × (takum n w ≡ real z) × NearestBinary64 z r.number) ⊎ ((r.real ≡ false) × (r.number ≡ nan) × (takum n w ≡ NaR))

    by : r.refusal ≡ s.refusal → Taken r → Taken s → r ≡ s
    by e (inl (f, z, h, x)) (inl (f', z', h', y)) = same e (both f f') (one_number_is_the_nearest z' r.number s.number (subst (λ (k : ℤ). NearestBinary64 k r.number) (real_inj (sym h ∙ h')) x) y)
    by e (inl (f, z, h, x)) (inr (f', y, h')) = absurd (not_NaR z (sym h ∙ h'))
    by e (inr (f, x, h)) (inl (f', z, h', y)) = absurd (not_NaR z (sym h' ∙ h))
    by e (inr (f, x, h)) (inr (f', y, h')) = same e (both f f') (both x y)

-- ---- the shortest width
pub shortest_called_one : (x : ℤ) (r s : HandedWidth) → HandsShortest x r → HandsShortest x s → r ≡ s
unfolding HandsShortest
shortest_called_one x r s = follows_one (no_width x ∷ []) (λ e z z'. same e (both z z')) (λ none (e, y) (e', z). same (both e e') (one_shortest x r.width s.width y z))
  where
    same : r.refusal ≡ s.refusal → r.width ≡ s.width → r ≡ s
    same e f = λ i. record { refusal = e i; width = f i }

-- ---- moves
moved_one : (n : ℕ) → 2 ≤ n → n ≤ 64 → (strict : Bool) (t : Takum) (v w : ℕ) → IsMovedTo n strict t v → IsMovedTo n strict t w → v ≡ w
unfolding IsMovedTo
moved_one n lo hi strict (real z) = given_one strict n lo hi (is_negative z) (nat_abs z) 1 (omega arith)
moved_one n lo hi strict NaR = NaR_one n

moved_says_one : (n : ℕ) → 2 ≤ n → n ≤ 64 → (strict : Bool) (t : Takum) (w : ℕ) (p q : Saying) → IsMovedTo n strict t w → SaysMoved n t w p → SaysMoved n t w q → p ≡ q
unfolding IsMovedTo SaysMoved
moved_says_one n lo hi strict (real z) w p q x = says_one n lo hi (is_negative z) (nat_abs z) 1 w p q (given_word strict n lo hi (is_negative z) (nat_abs z) 1 w x)
moved_says_one n lo hi strict NaR w p q x = both

pub moved_called_one : (n n' : ℕ) (strict : Bool) (w : ℕ) (r s : HandedSaying) → HandsMoved n n' strict w r → HandsMoved n n' strict w s → r ≡ s
unfolding HandsMoved NoneHolds
moved_called_one n n' strict w =
    said_one (width n ∷ width n' ∷ word_lines n n' strict w) (IsMovedTo n' strict (takum n w)) (SaysMoved n' (takum n w)) (λ none. let t = right none.1.0 in moved_one n' t.0 t.1 strict (takum n w))
    (λ none v p q x. let t = right none.1.0 in moved_says_one n' t.0 t.1 strict (takum n w) v p q x)

-- ---- a column
-- what is refused at one of the lines isn't refused where none holds
refused_somewhere : (lines : List Line) (q : ℕ) (Zeros : Type 0) → NoneHolds lines → FieldFollows q lines Zeros ⊥ → ⊥
unfolding FieldFollows NoneHolds
refused_somewhere [] q Zeros none x = x
refused_somewhere (line number When ∷ lines) q Zeros none (inl x) = none.0 x.0
refused_somewhere (line number When ∷ lines) q Zeros none (inr x) = refused_somewhere lines q Zeros none.1 x.1

module _ (n n' : ℕ) (strict : Bool) (words before : List ℕ) where
  -- no position of a refusal is one before which no word is refused
  refused_later : (count : ℕ) (after : List ℕ) (r : HandedColumn) → ((i : ℕ) → i < count → NoneHolds (word_lines n n' strict (get_or words i 0))) → RefusedAtPosition n n' strict words before after r → count ≤ r.position
  refused_later count after r none x = not_more (λ h. refused_somewhere (word_lines n n' strict (get_or words r.position 0)) r.refusal _ (none r.position h) x.is)

  module _ (after after' : List ℕ) (r s : HandedColumn) where
    same_column : r.refusal ≡ s.refusal → r.position ≡ s.position → r.moved ≡ s.moved → r.exact ≡ s.exact → r ≡ s
    same_column e f g k = λ i. record { refusal = e i; position = f i; moved = g i; exact = k i }

    all_moved : 2 ≤ n' → n' ≤ 64 → MovedAll n n' strict words before after r → MovedAll n n' strict words before after' s → (r ≡ s) × (after ≡ after')
    all_moved lo hi x y =
        (same_column (both x.refusal y.refusal) (both x.position y.position) (both x.moved y.moved) (counts_one (subst (λ (l : List ℕ). Counts (KeepsTheMeaning n n' words l) (length words) r.exact) same x.exact) y.exact), same)
      where
        by : (i : ℕ) → Dec (i < length words) → get_or after i 0 ≡ get_or after' i 0
        by i (yes l) = moved_one n' lo hi strict (takum n (get_or words i 0)) (get_or after i 0) (get_or after' i 0) (x.results i l) (y.results i l)
        by i (no f) = both (x.others i (not_more f)) (y.others i (not_more f))

        same : after ≡ after'
        same = ext_get_or 0 after after' (both x.as_long y.as_long) (λ i h. by i (dec_lt i (length words)))

    both_refused : RefusedAtPosition n n' strict words before after r → RefusedAtPosition n n' strict words before after' s → (r ≡ s) × (after ≡ after')
    both_refused x y = follows_one (word_lines n n' strict (get_or words r.position 0)) (λ e (f, k, a) (g, k', b). (same_column e same_position (both f g) (both k k'), both a b)) (λ none z z'. absurd z) x.is there
      where
        same_position : r.position ≡ s.position
        same_position = le_antisymm (refused_later r.position after' s x.lowest y) (refused_later s.position after r y.lowest x)

        there : FieldFollows s.refusal (word_lines n n' strict (get_or words r.position 0)) ((s.moved ≡ 0) × (s.exact ≡ 0) × (after' ≡ before)) ⊥
        there = subst (λ (p : ℕ). FieldFollows s.refusal (word_lines n n' strict (get_or words p 0)) ((s.moved ≡ 0) × (s.exact ≡ 0) × (after' ≡ before)) ⊥) (sym same_position) y.is

    pub column_called_one : HandsColumn n n' strict words before after r → HandsColumn n n' strict words before after' s → (r ≡ s) × (after ≡ after')
    unfolding HandsColumn NoneHolds
    column_called_one = follows_one (width n ∷ width n' ∷ room (length words) (length before) ∷ []) (λ e (f, g, k, a) (f', g', k', b). (same_column e (both f f') (both g g') (both k k'), both a b)) (λ none. let t = right none.1.0 in by t.0 t.1)
      where
        by : 2 ≤ n' → n' ≤ 64 → MovedAll n n' strict words before after r ⊎ RefusedAtPosition n n' strict words before after r → MovedAll n n' strict words before after' s ⊎ RefusedAtPosition n n' strict words before after' s → (r ≡ s) × (after ≡ after')
        by lo hi (inl x) (inl y) = all_moved lo hi x y
        by lo hi (inl x) (inr y) = absurd (omega (arith, y.inside, refused_later (length words) after' s x.none y))
        by lo hi (inr x) (inl y) = absurd (omega (arith, x.inside, refused_later (length words) after r y.none x))
        by lo hi (inr x) (inr y) = both_refused x y

-- ---- a block
pub block_called_one : (b before after after' : List ℕ) (r s : HandedBlock) → HandsBlock b before after r → HandsBlock b before after' s → (r ≡ s) × (after ≡ after')
unfolding HandsBlock
block_called_one b before after after' r s = follows_one (size b ∷ mark b ∷ check b ∷ block_width b ∷ count b ∷ fill b ∷ room (block.count b) (length before) ∷ []) (λ e x y. by e x y) (λ none (e, x) (e', y). by (both e e') x y)
  where
    by : {width number count : ℕ} {words : List ℕ} → r.refusal ≡ s.refusal → (r.width ≡ width) × (r.number ≡ number) × (r.count ≡ count) × (after ≡ words) → (s.width ≡ width) × (s.number ≡ number) × (s.count ≡ count) × (after' ≡ words) → (r ≡ s) × (after ≡ after')
    by e (f, g, h, a) (f', g', h', b) = (λ i. record { refusal = e i; width = both f f' i; number = both g g' i; count = both h h' i }, both a b)

-- ---- a written block
module _ (n number : ℕ) (words before : List ℕ) where
  stray_later : (k : ℕ) (after : List ℕ) (r : HandedWriting) → ((i : ℕ) → i < k → NoneHolds (stray n (get_or words i 0) ∷ [])) → StrayAtPosition n words before after r → k ≤ r.position
  stray_later k after r none x = not_more (λ h. refused_somewhere (stray n (get_or words r.position 0) ∷ []) r.refusal _ (none r.position h) x.is)

  pub block_written_called_one : (after after' : List ℕ) (r s : HandedWriting) → HandsBlockWritten n number words before after r → HandsBlockWritten n number words before after' s → (r ≡ s) × (after ≡ after')
  unfolding HandsBlockWritten
  block_written_called_one after after' r s = follows_one (written_width n ∷ retired n ∷ written_count n (length words) ∷ size before ∷ []) (λ e (f, a) (f', b). (same e (both f f'), both a b)) (λ none. by)
    where
      same : r.refusal ≡ s.refusal → r.position ≡ s.position → r ≡ s
      same e f = λ i. record { refusal = e i; position = f i }

      both_stray : StrayAtPosition n words before after r → StrayAtPosition n words before after' s → (r ≡ s) × (after ≡ after')
      both_stray x y =
          let there : r.position ≡ s.position = le_antisymm (stray_later r.position after' s x.lowest y) (stray_later s.position after r y.lowest x) in
          follows_one (stray n (get_or words r.position 0) ∷ []) (λ e a b. (same e there, both a b)) (λ none z z'. absurd z) x.is (subst (λ (p : ℕ). FieldFollows s.refusal (stray n (get_or words p 0) ∷ []) (after' ≡ before) ⊥) (sym there) y.is)

      by : WrittenAll n number words after r ⊎ StrayAtPosition n words before after r → WrittenAll n number words after' s ⊎ StrayAtPosition n words before after' s → (r ≡ s) × (after ≡ after')
      by (inl x) (inl y) = (same (both x.refusal y.refusal) (both x.position y.position), same_bytes n number words after after' x.block y.block)
      by (inl x) (inr y) = absurd (omega (arith, y.inside, stray_later (length words) after' s x.none y))
      by (inr x) (inl y) = absurd (omega (arith, x.inside, stray_later (length words) after r y.none x))
      by (inr x) (inr y) = both_stray x y
