-- The refusals of the calls on words and numbers follow the table. Assumes nothing.
use Rattle.std.specs.Prelude.{Ok, Err}
use Rattle.std.specs.declared.cmp.Ordering.{Ordering}
use mathlib.Core.Path.{◌≡◌, refl, sym, ap, ◌∙◌, subst}
use mathlib.Core.Bool.{Bool, true, false, cond}
use mathlib.Core.List.{List, [], ◌∷◌}
use mathlib.Core.Logic.{inl, inr}
use Prim.Native.Nat.{ℕ, suc, ◌-◌, ◌*◌, ◌^◌, ◌≤◌, ◌<◌}
use native.Mathlib.Decide.{dec_lt}
use native.Mathlib.Nat.{mul-one}
use native.Mathlib.Omega.{arith}
use borrow.Author.Tests.{le-leb, lt-leb, lt-ltb, le-ltb, eqb-true, eqb-false}
use lib.Dec.{eqb, leb, ltb}
use lib.Ieee.{Float, nan, inf, fin, up, down}
use lib.IntN.{ℤ, pos, negsuc, nat_abs, ◌+ℤ◌, ◌-ℤ◌}
use lib.Pow.{pow_pos}
use Rattle.bounds.specs.declared.refusal.Refusal.{Refusal}
use Rattle.bounds.specs.Refusals.{number_of, width_test, stray_test, word_test, ◌then◌, IsWord, Decided, passed, Answer, Verdict}
use Rattle.bounds.specs.declared.width.Width.{Width}
use Rattle.bounds.specs.Widths.{nar_word}
use Rattle.bounds.proofs.Verdicts.{width_through, word_through}
use Rattle.sizes.specs.declared.size.Size.{Size}
use Rattle.word.specs.Takum.{Takum, real, NaR, takum}
use Rattle.word.specs.Reads.{num, den}
use Rattle.order.specs.Orders.{Compares}
use Rattle.word.proofs.Words.{takum_NaR}
use Rattle.word.proofs.Values.{real_inj, not_NaR}
use Rattle.round.specs.declared.value.LongValue.{LongValue}
use Rattle.round.specs.declared.value.Rule.{Rule}
use Rattle.write.specs.declared.value.Value.{Value}
use Rattle.nearest.specs.Nearest.{HasValue}
use Rattle.round.specs.Writes.{IsExact, IsWritten, WritesShort, WritesSize, WritesLong}
use Rattle.write.specs.Writes.{is_negative, IsMoved, Writes, Moves}
use Rattle.bounds.proofs.Powers.{twice, not_more}
use Rattle.write.proofs.Moves.{moved_to_the_same, strict_keeps}
use Rattle.whole.specs.declared.taking.Taking.{Taking}
use Rattle.whole.specs.Wholes.{IsNearestWhole, over_test, inexact_test, IsTakenWhole, WritesWhole, TakesWhole}
use Rattle.whole.specs.Shortest.{HasWord, GivesShortest}
use Rattle.whole.proofs.Refused.{whole_size}
use Rattle.whole.proofs.NearestWholes.{one_nearest_whole}
use Rattle.whole.proofs.WholeValues.{value_of, exact_value}
use Rattle.binary64.specs.declared.taking.Binary64.{Binary64}
use Rattle.binary64.specs.Takes as taken
use Rattle.binary64.specs.Writes.{IsWrittenBinary64, WritesBinary64}
use Rattle.promises.specs.Writing.{numerator, denominator, Goes}
use Rattle.promises.specs.Moving.{AndThen, goes_on, stops}
use Rattle.promises.specs.Hub.{significand, long_numerator, long_denominator}
use Rattle.promises.specs.Numbers.{IsWhole}
use Rattle.promises.specs.Refusals.{Line, FollowsUpTo, Follows, width, stray, nar, no_word, no_whole, no_width, over, short_lines, move_lines, IsBinary64, ChainFollows, OutsideSigned64}
use Rattle.promises.proofs.Lines.{Tells, holds, fails, width_tells, stray_tells, parts, follow, verdict_decided, retold, none_hold, handed_on}

-- the calls of a width, and of a word with its width
module _ {A : Type 0} {R : Refusal → A} {a : A} {Q : Type 0} where
  pub of_width : (n : ℕ) → (Q → (q : Refusal) → a ≡ R q → ⊥) → Decided (width_test n) (λ p. a ≡ R p) Q → Follows R a (width n ∷ [])
  unfolding Follows FollowsUpTo
  of_width n none x = follow Refusal.Width (width_tells n) x (λ e. none)

  pub of_word : (n w : ℕ) → (Q → (q : Refusal) → a ≡ R q → ⊥) → Decided (width_test n then stray_test n w) (λ p. a ≡ R p) Q → Follows R a (width n ∷ stray n w ∷ [])
  unfolding Follows FollowsUpTo
  of_word n w none x = follow Refusal.Width (width_tells n) (parts x) (λ e y. follow Refusal.Stray (stray_tells n w) y (λ e. none))

-- two constructors differ
pub rounded_strict : Rule.Rounded ≡ Rule.Strict → ⊥
rounded_strict e = cc

pub answer_none : {A : Type 0} (x : A) (a : Answer A) → a ≡ Ok x → (q : Refusal) → a ≡ Err q → ⊥
answer_none x a p q e = cc

pub number_none : (t : Takum) (a : Binary64) → taken.IsTakenBinary64 t a → (q : Refusal) → a ≡ Binary64.Refused q → ⊥
unfolding taken.IsTakenBinary64
number_none (real z) a x q e = cc
number_none NaR a x q e = cc

pub compare_follows : (n x y : ℕ) (a : Answer Ordering) → Compares n x y a → Follows Err a (width n ∷ stray n x ∷ stray n y ∷ [])
unfolding Follows FollowsUpTo Compares
compare_follows n x y a h =
    follow Refusal.Width (width_tells n) (parts (parts h)) (λ e h. follow Refusal.Stray (stray_tells n x) h (λ e h. follow Refusal.Stray (stray_tells n y) h (λ e p q k. cc)))

pub test_follows : (n : ℕ) (a : Verdict) → a ≡ width_test n → Follows Err a (width n ∷ [])
test_follows n a x = of_width n (answer_none tt a) (verdict_decided x)

pub test_word_follows : (n w : ℕ) (a : Verdict) → a ≡ word_test n w → Follows Err a (width n ∷ stray n w ∷ [])
unfolding Follows FollowsUpTo
test_word_follows n w a x = of_word n w (answer_none tt a) (verdict_decided x)

-- ---- writing: INEXACT where strict and no word has the value
-- what is written for a value that a word has exactly where HasIt holds of it
pub inexact_line : (n : ℕ) (rule : Rule) (s : Bool) (a b : ℕ) (HasIt : ℕ → Type 0) (r : Answer ℕ) → ((w : ℕ) → IsExact n s a b w → HasIt w) → ((w : ℕ) → HasIt w → IsExact n s a b w) → IsWritten n rule s a b r → Follows Err r (no_word rule HasIt ∷ [])
unfolding Follows FollowsUpTo IsWritten
inexact_line n Rule.Rounded s a b HasIt (Ok w) to from x = inr (λ h. rounded_strict h.0, answer_none w (Ok w) refl)
inexact_line n Rule.Rounded s a b HasIt (Err q) to from x = absurd x
inexact_line n Rule.Strict s a b HasIt (Ok w) to from x = inr (λ h. h.1 w (to w x), answer_none w (Ok w) refl)
inexact_line n Rule.Strict s a b HasIt (Err q) to from x = inl ((refl, λ w h. x.1 w (from w h)), record { q = q; is = refl; known = ap number_of x.0 })

pub write_short_follows : (n : ℕ) (rule : Rule) (negative : Bool) (m : ℕ) (k : ℤ) (a : Answer ℕ) → WritesShort n rule negative m k a → Follows Err a (short_lines n rule negative m k)
unfolding Follows FollowsUpTo short_lines WritesShort
write_short_follows n rule negative m k a x =
    let up = m * num (k +ℤ pos 307) in
    let down = den (k +ℤ pos 307) in
    follow Refusal.Width (width_tells n) x (λ e. inexact_line n rule negative up down (IsExact n negative up down) a (λ w y. y) (λ w y. y))

pub write_size_follows : (n : ℕ) (rule : Rule) (s : Size) (a : Answer ℕ) → WritesSize n rule s a → Follows Err a (short_lines n rule s.negative s.m (s.h -ℤ pos 63))
unfolding WritesSize
write_size_follows n rule s a x = write_short_follows n rule s.negative s.m (s.h -ℤ pos 63) a x

pub write_long_follows : (n : ℕ) (rule : Rule) (v : LongValue) (a : Answer ℕ) → WritesLong n rule v a → Follows Err a (width n ∷ no_word rule (IsExact n v.negative (long_numerator v) (long_denominator v)) ∷ [])
unfolding short_lines WritesLong significand long_numerator long_denominator
write_long_follows n rule v a x = write_short_follows n rule v.negative (significand v) v.k a x

pub write_follows : (n : ℕ) (rule : Rule) (v : Value) (a : Answer ℕ) → Writes n rule v a → Follows Err a (width n ∷ no_word rule (IsExact n v.negative (numerator v) (denominator v)) ∷ [])
unfolding Follows FollowsUpTo Writes numerator denominator
write_follows n rule v a x = follow Refusal.Width (width_tells n) x (λ e. inexact_line n rule v.negative (numerator v) (denominator v) (IsExact n v.negative (numerator v) (denominator v)) a (λ w y. y) (λ w y. y))

pub write_whole_follows : (n : ℕ) (rule : Rule) (x : ℤ) (a : Answer ℕ) → WritesWhole n rule x a → Follows Err a (width n ∷ no_word rule (IsWhole n x) ∷ [])
unfolding Follows FollowsUpTo WritesWhole IsWhole
write_whole_follows n rule x a y = follow Refusal.Width (width_tells n) y (λ e. inexact_line n rule (is_negative x) (nat_abs x * 2 ^ 307) 1 (IsWhole n x) a
    (λ w z. subst (λ (k : ℕ). HasValue n (is_negative x) k w) (sym (mul-one z.z) ∙ z.same) z.is)
    (λ w z. record { z = nat_abs x * 2 ^ 307; is = z; same = mul-one (nat_abs x * 2 ^ 307) }))

pub write_binary64_follows : (n : ℕ) (rule : Rule) (x : Float) (a : Answer ℕ) → WritesBinary64 n rule x a → Follows Err a (width n ∷ no_word rule (IsBinary64 n x) ∷ [])
unfolding Follows FollowsUpTo WritesBinary64 IsWrittenBinary64 IsBinary64 nar_word
write_binary64_follows n rule x a y = follow Refusal.Width (width_tells n) y (λ e. by x (width_through n e).0 (width_through n e).1)
  where
    not_real : (x : Float) → 2 ≤ n → n ≤ 64 → ((w : ℕ) → IsWord n w × (takum n w ≡ NaR) → IsBinary64 n x w) → a ≡ Ok (nar_word n) → Follows Err a (no_word rule (IsBinary64 n x) ∷ [])
    not_real x lo hi is q = inr (λ h. h.1 (nar_word n) (is (nar_word n) (record { least = lo; most = hi; fits = omega (arith, twice n lo, pow_pos (n - 1)) }, takum_NaR n (nar_word n) lo hi refl)), answer_none (nar_word n) a q)

    by : (x : Float) → 2 ≤ n → n ≤ 64 → IsWrittenBinary64 n rule x a → Follows Err a (no_word rule (IsBinary64 n x) ∷ [])
    by nan lo hi q = not_real nan lo hi (λ w h. h) q
    by (inf s) lo hi q = not_real (inf s) lo hi (λ w h. h) q
    by (fin s m e) lo hi z = inexact_line n rule s (m * up e * 2 ^ 307) (down e) (IsBinary64 n (fin s m e)) a (λ w h. h) (λ w h. h) z

-- ---- moves
-- a refusal of what a word means is INEXACT, by the strict rule
pub refused_meaning : (n : ℕ) (rule : Rule) (t : Takum) (q : Refusal) → IsMoved n rule t (Err q) → (rule ≡ Rule.Strict) × (q ≡ Refusal.Inexact)
unfolding IsMoved IsWritten
refused_meaning n Rule.Rounded (real z) q x = absurd x
refused_meaning n Rule.Strict (real z) q x = (refl, x.0)
refused_meaning n rule NaR q x = absurd (answer_none (nar_word n) (Err q) x q refl)

pub move_follows : (n n' : ℕ) (rule : Rule) (w : ℕ) (a : Answer ℕ) → Moves n n' rule w a → Follows Err a (width n ∷ width n' ∷ move_lines n n' rule w)
unfolding Follows FollowsUpTo Moves move_lines
move_follows n n' rule w a x =
    follow Refusal.Width (width_tells n) (parts (parts x)) (λ e y. follow Refusal.Width (width_tells n') y (λ e' z. follow Refusal.Stray (stray_tells n w) z (λ s m. by rule a (word_through n w (rw e s)) m x)))
  where
    by : (rule : Rule) (a : Answer ℕ) → IsWord n w → IsMoved n' rule (takum n w) a → Moves n n' rule w a → Follows Err a (no_word rule (λ w'. IsWord n' w' × (takum n' w' ≡ takum n w)) ∷ [])
    by Rule.Rounded (Ok w') i y m = inr (λ h. rounded_strict h.0, answer_none w' (Ok w') refl)
    by Rule.Strict (Ok w') i y m = let k = strict_keeps n n' w w' m in inr (λ h. h.1 w' (k.to, k.same), answer_none w' (Ok w') refl)
    by rule (Err q) i y m =
        let t = refused_meaning n' rule (takum n w) q y in
        inl ((t.0, λ w' h. answer_none w' (Err q) (moved_to_the_same n n' w w' rule (Err q) i h.0 h.1 m) q refl), record { q = q; is = refl; known = ap number_of t.1 })

-- ---- one call after another
-- the lines of the first call, and then what is so of the next
pub after_the_first : {A : Type 0} (First : Answer ℕ → Type 0) (Next : ℕ → Answer A → Type 0) (lines : List Line) (P : Type 0) (r : Answer A) → ((x : Answer ℕ) → First x → Follows Err x lines) → ((w : ℕ) → First (Ok w) → Next w r → P) → AndThen First Next r → FollowsUpTo Err r lines P
after_the_first First Next lines P r first next (goes_on w x y) = none_hold Err Err (Ok w) r lines P (next w x y) (answer_none w (Ok w) refl) (first (Ok w) x)
after_the_first {A = A} First Next lines P r first next (stops q x e) = subst (λ (r : Answer A). FollowsUpTo Err r lines P) (sym e) (handed_on Err q lines P (first (Err q) x))

-- a chain of strict moves is its first move and then the rest
pub chain_step : (home n' : ℕ) (ns : List ℕ) (n w : ℕ) (a : Answer ℕ) → Goes home n w (n' ∷ ns) a → AndThen (Moves n n' Rule.Strict w) (λ v r. Goes home n' v ns r) a
unfolding Goes
chain_step home n' ns n w a (inl (v, m, x)) = goes_on v m x
chain_step home n' ns n w a (inr (q, m, e)) = stops q m e

pub goes_follows : (home : ℕ) (ns : List ℕ) (n w : ℕ) (a : Answer ℕ) → Goes home n w ns a → ChainFollows home n w ns a
unfolding Goes ChainFollows
goes_follows home [] n w a x = move_follows n home Rule.Strict w a x
goes_follows home (n' ∷ ns) n w a x = after_the_first _ _ _ _ a (move_follows n n' Rule.Strict w) (λ v m y. (v, m, goes_follows home ns n' v a y)) (chain_step home n' ns n w a x)

-- ---- a whole number out
outside_tells : (x : ℤ) → Tells (over_test x) Refusal.Over (OutsideSigned64 x)
unfolding over_test OutsideSigned64
outside_tells (pos i) = by (dec_lt i (2 ^ 63))
  where
    by : Dec (i < 2 ^ 63) → Tells (cond (ltb i (2 ^ 63)) passed (Err Refusal.Over)) Refusal.Over (2 ^ 63 ≤ i)
    by (yes l) = fails (rw (lt-ltb i (2 ^ 63) l)) (λ h. omega (arith, h, l))
    by (no f) = holds (rw (le-ltb i (2 ^ 63) (not_more f))) (not_more f)
outside_tells (negsuc i) = by (dec_lt i (2 ^ 63))
  where
    by : Dec (i < 2 ^ 63) → Tells (cond (leb (suc i) (2 ^ 63)) passed (Err Refusal.Over)) Refusal.Over (2 ^ 63 ≤ i)
    by (yes l) = fails (rw (le-leb (suc i) (2 ^ 63) l)) (λ h. omega (arith, h, l))
    by (no f) = holds (rw (lt-leb (suc i) (2 ^ 63) (omega (arith, not_more f)))) (not_more f)

module _ (n w : ℕ) (i : IsWord n w) (z x : ℤ) (means : takum n w ≡ real z) (near : IsNearestWhole z x) where
  over_tells : Tells (over_test x) Refusal.Over ((z x : ℤ) × (takum n w ≡ real z) × IsNearestWhole z x × OutsideSigned64 x)
  over_tells = retold (λ h. (z, x, means, near, h)) (λ (z', x', means', near', h). subst OutsideSigned64 (one_nearest_whole z x' x (subst (λ (y : ℤ). IsNearestWhole y x') (real_inj (sym means' ∙ means)) near') near) h) (outside_tells x)

  -- the value is a whole number's exactly where it is that of the nearest one
  whole_value : (y : ℤ) → IsWhole n y w → nat_abs x * 2 ^ 307 ≡ nat_abs z
  unfolding IsWhole value_of
  whole_value y h = whole_size z x y near (real_inj (sym means ∙ h.means))

  its_nearest : nat_abs x * 2 ^ 307 ≡ nat_abs z → IsWhole n x w
  unfolding IsWhole value_of
  its_nearest q = record { word = i; means = means ∙ ap real (exact_value z x near q) }

  inexact_tells : (rule : Taking) → Tells (inexact_test rule z x) Refusal.Inexact ((rule ≡ Taking.Strict) × ((y : ℤ) → IsWhole n y w → ⊥))
  unfolding inexact_test
  inexact_tells Taking.Nearest = fails refl (λ h. let q = h.0 in cc)
  inexact_tells Taking.Strict = by (eqb (nat_abs x * 2 ^ 307) (nat_abs z)) refl
    where
      by : (b : Bool) → eqb (nat_abs x * 2 ^ 307) (nat_abs z) ≡ b → Tells (cond b passed (Err Refusal.Inexact)) Refusal.Inexact ((Taking.Strict ≡ Taking.Strict) × ((y : ℤ) → IsWhole n y w → ⊥))
      by true e = fails refl (λ h. h.1 x (its_nearest (eqb-true _ _ e)))
      by false e = holds refl (refl, λ y h. eqb-false _ _ e (whole_value y h))

pub take_whole_follows : (n : ℕ) (rule : Taking) (w : ℕ) (a : Answer ℤ) → TakesWhole n rule w a → Follows Err a (width n ∷ stray n w ∷ nar n w ∷ over n w ∷ no_whole rule n w ∷ [])
unfolding Follows FollowsUpTo TakesWhole IsTakenWhole
take_whole_follows n rule w a x = follow Refusal.Width (width_tells n) (parts x) (λ e y. follow Refusal.Stray (stray_tells n w) y (λ s. by (takum n w) refl (word_through n w (rw e s))))
  where
    by : (t : Takum) → takum n w ≡ t → IsWord n w → IsTakenWhole rule t a → Follows Err a (nar n w ∷ over n w ∷ no_whole rule n w ∷ [])
    by NaR q i y = inl (q, record { q = Refusal.Nar; is = y; known = refl })
    by (real z) q i (x, near, d) = inr (
      λ h. not_NaR z (sym q ∙ h),
      follow Refusal.Over (over_tells n w i z x q near) (parts d) (λ e y. follow Refusal.Inexact (inexact_tells n w i z x q near rule) y (λ e' h p k. cc)),
    )

-- the shortest width has one line, which is the contract's own
pub shortest_follows : (x : ℤ) (a : Answer Width) → GivesShortest x a → Follows Err a (no_width x ∷ [])
unfolding Follows FollowsUpTo GivesShortest HasWord IsWhole
shortest_follows x (Ok n) y = inr ((λ none. none n.bits y.has.0 y.least y.most y.has.1), λ q e. cc)
shortest_follows x (Err q) y = inl ((λ n w lo hi v. y.1 n lo hi (w, v)), record { q = Refusal.Inexact; is = ap Err y.0; known = refl })
