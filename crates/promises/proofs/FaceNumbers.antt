-- What the exported calls that write, move and take numbers hand over, from their contracts. Assumes nothing.
use Rattle.std.specs.Prelude.{Ok, Err}
use Rattle.bounds.specs.declared.width.Width.{Width}
use mathlib.Core.Path.{◌≡◌, refl, sym, ap, ◌∙◌, subst}
use mathlib.Core.Bool.{Bool, true, false, false≢true}
use mathlib.Core.List.{List, [], ◌∷◌}
use mathlib.Core.Logic.{◌⊎◌, inl, inr}
use Prim.Native.Nat.{ℕ, ◌*◌, ◌^◌}
use native.Mathlib.Omega.{arith}
use lib.Ieee.{Float, nan, inf, fin, up, down, binary64, of_bits}
use lib.IntN.{ℤ, pos, nat_abs, ◌+ℤ◌}
use Rattle.bounds.specs.declared.refusal.Refusal.{Refusal}
use Rattle.bounds.specs.declared.saying.Saying.TheVariants.{Exact}
use Rattle.bounds.specs.Refusals.{width_test, IsWord, Decided, passed, Answer}
use Rattle.bounds.specs.Sayings.{AndSays}
use Rattle.bounds.specs.Widths.{nar_word, GivesWord}
use Rattle.bounds.proofs.Verdicts.{width_through, word_through, move_through}
use Rattle.word.specs.Takum.{Takum, real, NaR, takum}
use Rattle.word.specs.Reads.{num, den}
use Rattle.word.proofs.Values.{not_NaR}
use Rattle.nearest.specs.Sayings.{Says}
use Rattle.round.specs.Writes.{IsExact, IsWritten}
use Rattle.write.specs.Writes.{IsMoved, is_negative, Writes, Moves}
use Rattle.write.specs.Sayings.{SaysMoved, WritesAndSays, MovesAndSays}
use Rattle.whole.specs.Wholes.{IsNearestWhole, WritesWhole, TakesWhole}
use Rattle.whole.specs.Sayings.{WritesWholeAndSays}
use Rattle.whole.specs.Shortest.{IsShortest, GivesShortest}
use Rattle.whole.proofs.InAndOut.{strictly_taken}
use Rattle.whole.proofs.TakenOut.{taken_out}
use Rattle.whole.proofs.WholeValues.{value_of}
use Rattle.binary64.specs.declared.taking.Binary64.{Binary64}
use Rattle.binary64.specs.Nearest.{NearestBinary64}
use Rattle.binary64.specs.Takes as taken
use Rattle.binary64.specs.Writes.{IsWrittenBinary64, WritesBinary64}
use Rattle.binary64.specs.Sayings.{SaysBinary64, WritesBinary64AndSays}
use Rattle.ledusprig.specs.declared.handed.words.HandedSaying.{HandedSaying}
use Rattle.ledusprig.specs.declared.handed.widths.HandedWidth.{HandedWidth}
use Rattle.ledusprig.specs.declared.handed.numbers.HandedWhole.{HandedWhole}
use Rattle.ledusprig.specs.declared.handed.numbers.HandedNumber.{HandedNumber}
use Rattle.ledusprig.specs.Handed.{HandsOver, rule_of, taking_of, saying_handed, width_handed, whole_handed, number_handed}
use Rattle.promises.specs.Demands.{TheNaRWord}
use Rattle.promises.specs.Nearest.{TheNumberOutIsTheNearest}
use Rattle.promises.specs.Numbers.{IsWhole, AWordThatIsNotNaRGoesOutAsANumber}
use Rattle.promises.specs.Refusals.{Line, FollowsUpTo, Follows, width, stray, nar, over, no_width, move_lines}
use Rattle.promises.specs.Face.{inexact, IsGiven, IsNaR, HandsSaid, HandsValue, HandsWritten, HandsWholeWritten, HandsBinary64Written, HandsWhole, HandsNumber, HandsShortest, word_lines, IsMovedTo, HandsMoved}
use Rattle.promises.proofs.Demands.{the_NaR_word}
use Rattle.promises.proofs.FaceLaws.{hands, said_hands, unrefused, numbered, last_retold, rule_retold, takes_strictly}
use Rattle.promises.proofs.Lines.{width_tells, follow}
use Rattle.promises.proofs.Nearest.{the_number_out_is_the_nearest}
use Rattle.promises.proofs.Numbers.{a_word_that_is_not_NaR_goes_out_as_a_number}
use Rattle.promises.proofs.Refusals.{refusals_follow_the_table}
use Rattle.promises.proofs.WordRefusals.{answer_none, inexact_line}

-- ---- writing: the rule gives what is asked for
given : (strict : Bool) (n : ℕ) (s : Bool) (a b w : ℕ) → IsWritten n (rule_of (numbered strict)) s a b (Ok w) → IsGiven strict n s a b w
unfolding IsWritten IsGiven
given true n s a b w x = x
given false n s a b w x = x

-- what is written for a value, at a width that is tested first
IsWrittenAt : ℕ → Bool → Bool → ℕ → ℕ → Answer ℕ → Type 0
IsWrittenAt n strict s a b r = Decided (width_test n) (λ q. r ≡ Err q) (IsWritten n (rule_of (numbered strict)) s a b r)

value_hands : (n : ℕ) (strict s : Bool) (a b : ℕ) (r : HandedSaying) → HandsOver saying_handed (AndSays (IsWrittenAt n strict s a b) (Says n s a b)) r → HandsValue n strict s a b r
unfolding IsWrittenAt Follows FollowsUpTo
value_hands n strict s a b = said_hands (width n ∷ inexact strict (IsExact n s a b) ∷ []) (IsGiven strict n s a b) (Says n s a b) (λ w x. given strict n s a b w (unrefused (answer_none w _ refl) x).1) follows
  where
    follows : (r : Answer ℕ) → IsWrittenAt n strict s a b r → Follows Err r (width n ∷ inexact strict (IsExact n s a b) ∷ [])
    follows r x = rule_retold Err r (width n ∷ []) 4 strict ((w : ℕ) → IsExact n s a b w → ⊥) (follow Refusal.Width (width_tells n) x (λ e. inexact_line n (rule_of (numbered strict)) s a b (IsExact n s a b) r (λ w y. y) (λ w y. y)))

pub write_hands : (n : ℕ) (strict s : Bool) (m : ℕ) (k : ℤ) (r : HandedSaying) → HandsOver saying_handed (WritesAndSays n (rule_of (numbered strict)) (record { negative = s; m = m; k = k })) r → HandsWritten n strict s m k r
unfolding HandsWritten WritesAndSays Writes IsWrittenAt
write_hands n strict s m k r h = value_hands n strict s (m * num (k +ℤ pos 307)) (den (k +ℤ pos 307)) r h

pub write_whole_hands : (n : ℕ) (strict : Bool) (x : ℤ) (r : HandedSaying) → HandsOver saying_handed (WritesWholeAndSays n (rule_of (numbered strict)) x) r → HandsWholeWritten n strict x r
unfolding HandsWholeWritten WritesWholeAndSays WritesWhole IsWrittenAt
write_whole_hands n strict x r h = value_hands n strict (is_negative x) (nat_abs x * 2 ^ 307) 1 r h

-- the NaR word means NaR
is_NaR : (n w : ℕ) → width_test n ≡ passed → nar_word n ≡ w → IsNaR n w
unfolding IsNaR TheNaRWord
is_NaR n w h e = let u = width_through n h in let t = the_NaR_word n u.0 u.1 in subst (IsNaR n) e (t.0, t.1)

-- what becomes NaR is exact
NaR_said : (n : ℕ) (r : HandedSaying) → HandsOver saying_handed (AndSays (GivesWord nar_word n) (λ w s. s ≡ Exact)) r → HandsSaid (width n ∷ []) (IsNaR n) (λ w s. s ≡ Exact) r
unfolding GivesWord
NaR_said n = said_hands (width n ∷ []) (IsNaR n) (λ w s. s ≡ Exact) (λ w x. let t = unrefused (answer_none w _ refl) x in is_NaR n w t.0 cc) (refusals_follow_the_table.words nar_word n)

pub write_binary64_hands : (n : ℕ) (strict : Bool) (x : Float) (r : HandedSaying) → HandsOver saying_handed (WritesBinary64AndSays n (rule_of (numbered strict)) x) r → HandsBinary64Written n strict x r
unfolding HandsBinary64Written WritesBinary64AndSays WritesBinary64 IsWrittenBinary64 SaysBinary64 IsWrittenAt GivesWord
write_binary64_hands n strict nan r h = NaR_said n r h
write_binary64_hands n strict (inf s) r h = NaR_said n r h
write_binary64_hands n strict (fin s m e) r h = value_hands n strict s (m * up e * 2 ^ 307) (down e) r h

-- ---- moving
moved_to : (strict : Bool) (n : ℕ) (t : Takum) (w : ℕ) → width_test n ≡ passed → IsMoved n (rule_of (numbered strict)) t (Ok w) → IsMovedTo n strict t w
unfolding IsMoved IsMovedTo
moved_to strict n (real z) w h x = given strict n (is_negative z) (nat_abs z) 1 w x
moved_to strict n NaR w h x = is_NaR n w h cc

-- a moved word is what is asked for
pub moved_word : (n n' : ℕ) (strict : Bool) (w w' : ℕ) → Moves n n' (rule_of (numbered strict)) w (Ok w') → IsMovedTo n' strict (takum n w) w'
unfolding Moves
moved_word n n' strict w w' x = let t = unrefused (answer_none w' _ refl) x in moved_to strict n' (takum n w) w' (move_through n n' w t.0).1 t.1

pub moved_follows : (n n' : ℕ) (strict : Bool) (w : ℕ) (a : Answer ℕ) → Moves n n' (rule_of (numbered strict)) w a → Follows Err a (width n ∷ width n' ∷ word_lines n n' strict w)
unfolding move_lines word_lines
moved_follows n n' strict w a x = rule_retold Err a (width n ∷ width n' ∷ stray n w ∷ []) 4 strict ((w' : ℕ) → IsWord n' w' × (takum n' w' ≡ takum n w) → ⊥) (refusals_follow_the_table.move_word n n' (rule_of (numbered strict)) w a x)

pub move_hands : (n n' : ℕ) (strict : Bool) (w : ℕ) (r : HandedSaying) → HandsOver saying_handed (MovesAndSays n n' (rule_of (numbered strict)) w) r → HandsMoved n n' strict w r
unfolding HandsMoved MovesAndSays
move_hands n n' strict w = said_hands (width n ∷ width n' ∷ word_lines n n' strict w) (IsMovedTo n' strict (takum n w)) (SaysMoved n' (takum n w)) (moved_word n n' strict w) (moved_follows n n' strict w)

-- ---- taking
taken_strictly : (strict : Bool) (n w : ℕ) (x : ℤ) → TakesWhole n (taking_of (numbered strict)) w (Ok x) → strict ≡ true → IsWhole n x w
unfolding IsWhole value_of
taken_strictly true n w x y e = let k = strictly_taken n w x y in record { word = k.word; means = k.means }
taken_strictly false n w x y e = absurd (false≢true e)

pub take_whole_hands : (n : ℕ) (strict : Bool) (w : ℕ) (r : HandedWhole) → HandsOver whole_handed (TakesWhole n (taking_of (numbered strict)) w) r → HandsWhole n strict w r
unfolding HandsWhole
take_whole_hands n strict w =
    hands Err (λ r. r.refusal) (λ r. r.whole ≡ pos 0) (λ r. (r.refusal ≡ 0) × Taken r.whole) lines (λ q x. (refl, refl)) by
    (λ a x. last_retold Err a (width n ∷ stray n w ∷ nar n w ∷ over n w ∷ []) 4 _ _ (λ h. (takes_strictly strict h.0, h.1)) (λ h. (ap (λ (b : Bool). taking_of (numbered b)) h.0, h.1)) (refusals_follow_the_table.take_whole n (taking_of (numbered strict)) w a x))
  where
    lines : List Line
    lines = width n ∷ stray n w ∷ nar n w ∷ over n w ∷ inexact strict (λ x. IsWhole n x w) ∷ []

    Taken : ℤ → Type 0
    Taken x = ((z : ℤ) × (takum n w ≡ real z) × IsNearestWhole z x) × (strict ≡ true → IsWhole n x w)

    by : (a : Answer ℤ) → TakesWhole n (taking_of (numbered strict)) w a → ((q : Refusal) → a ≡ Err q → ⊥) → ((whole_handed a).refusal ≡ 0) × Taken (whole_handed a).whole
    by (Ok x) y none = let k = taken_out n (taking_of (numbered strict)) w x y in (refl, ((k.z, k.means, k.near), taken_strictly strict n w x y))
    by (Err q) y none = absurd (none q refl)

-- no number goes out exactly where the word is NaR
no_number : (n w : ℕ) → IsWord n w → taken.TakesBinary64 n w Binary64.Nar → takum n w ≡ NaR
unfolding AWordThatIsNotNaRGoesOutAsANumber TheNaRWord
no_number n w i x = by (takum n w) refl
  where
    by : (t : Takum) → takum n w ≡ t → takum n w ≡ NaR
    by NaR e = e
    by (real z) e =
        let t = a_word_that_is_not_NaR_goes_out_as_a_number n w Binary64.Nar i (λ q. not_NaR z (sym e ∙ ap (takum n) q ∙ (the_NaR_word n i.least i.most).1)) x in
        let is = t.1 in
        let z : ◌≡◌ {A = ℕ} 0 1 = cc in
        absurd (omega arith)

pub take_binary64_hands : (n w : ℕ) (r : HandedNumber) → HandsOver number_handed (taken.TakesBinary64 n w) r → HandsNumber n w r
unfolding HandsNumber taken.TakesBinary64 TheNumberOutIsTheNearest
take_binary64_hands n w = hands Binary64.Refused (λ r. r.refusal) (λ r. (r.real ≡ false) × (r.number ≡ of_bits binary64 0)) (λ r. (r.refusal ≡ 0) × Taken r) (width n ∷ stray n w ∷ []) (λ q x. (refl, (refl, refl))) by (refusals_follow_the_table.take_binary64 n w)
  where
    Taken : HandedNumber → Type 0
    Taken r = ((r.real ≡ true) × (z : ℤ) × (takum n w ≡ real z) × NearestBinary64 z r.number) ⊎ ((r.real ≡ false) × (r.number ≡ nan) × (takum n w ≡ NaR))

    by : (a : Binary64) → taken.TakesBinary64 n w a → ((q : Refusal) → a ≡ Binary64.Refused q → ⊥) → ((number_handed a).refusal ≡ 0) × Taken (number_handed a)
    by (Binary64.Number x) t none = let (z, means, near) = the_number_out_is_the_nearest n w x t in (refl, inl (refl, z, means, near))
    by Binary64.Nar t none = (refl, inr (refl, refl, no_number n w (word_through n w (unrefused none t).0) t))
    by (Binary64.Refused q) t none = absurd (none q refl)

-- ---- the shortest width
pub shortest_hands : (x : ℤ) (r : HandedWidth) → HandsOver width_handed (GivesShortest x) r → HandsShortest x r
unfolding HandsShortest GivesShortest
shortest_hands x = hands Err (λ r. r.refusal) (λ r. r.width ≡ 0) (λ r. (r.refusal ≡ 0) × IsShortest x r.width) (no_width x ∷ []) (λ q y. (refl, refl)) by (refusals_follow_the_table.shortest_width x)
  where
    by : (a : Answer Width) → GivesShortest x a → ((q : Refusal) → a ≡ Err q → ⊥) → ((width_handed a).refusal ≡ 0) × IsShortest x (width_handed a).width
    by (Ok n) y none = (refl, y)
    by (Err q) y none = absurd (none q refl)
