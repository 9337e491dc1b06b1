-- The promises that specs/Wholes.antt states, from the laws of whole numbers. Assumes nothing.
use Rattle.std.specs.Prelude.{Ok, Err}
use mathlib.Core.Path.{◌≡◌, refl, sym, ap, ◌∙◌, subst}
use mathlib.Core.Bool.{Bool}
use mathlib.Core.Logic.{◌⊎◌, inl, inr}
use Prim.Native.Nat.{ℕ, zero, suc, ◌+◌, ◌*◌, ◌%◌, ◌^◌, ◌≤◌, ◌<◌, zero-le, suc-le-suc}
use native.Mathlib.Nat.{le_of_lt, le-suc, le_trans, le_of_suc-le-suc, zero-mul, suc-mul, mul-le-mul_right, le_of_mul-le-mul_right, lt_of_mul-lt-mul_right, lt_of_not-le}
use native.Mathlib.Decide.{dec_le}
use native.Mathlib.Omega.{arith}
use lib.Dec.{lit≤}
use lib.IntN.{ℤ, pos, negsuc, neg_ℤ, nat_abs, pos-ne-negsuc}
use lib.ListN.{length}
use lib.Pow.{pow_pos}
use Rattle.bounds.specs.declared.refusal.Refusal.{Refusal}
use Rattle.bounds.specs.Refusals.{IsWord, through}
use Rattle.bounds.specs.Widths.{GivesLimit}
use Rattle.bounds.proofs.Verdicts.{width_fits}
use Rattle.word.specs.Takum.{real, takum}
use Rattle.word.specs.Reads.{signed_size}
use Rattle.word.specs.Orders.{negated}
use Rattle.word.proofs.Values.{real_inj}
use Rattle.nearest.specs.Nearest.{HasValue, distance}
use Rattle.write.specs.Writes.{is_negative}
use Rattle.write.proofs.Moves.{rejoined}
use Rattle.whole.specs.Wholes.{off_by, IsNearestWhole}
use Rattle.whole.proofs.InAndOut.{strictly_taken, written_comes_back}
use Rattle.whole.proofs.LimitEvens.{even_from_the_limit}
use Rattle.whole.proofs.LimitLarge.{large_is_even}
use Rattle.whole.specs.Parts.{NearestSize}
use Rattle.whole.proofs.Negation.{negated_taken, negated_over}
use Rattle.whole.proofs.NearestWholes.{itself, one_size, one_nearest_whole, a_nearest_whole, its_sign, its_size, off_by_a_half}
use Rattle.whole.proofs.OneOutcome.{takes_whole_one}
use Rattle.whole.proofs.Sums.{off_by_sum}
use Rattle.whole.proofs.TakenOut.{TakenOut, taken_out}
use Rattle.whole.proofs.WholeValues.{value_of, signed_value}
use Rattle.promises.specs.Wholes as promise
use Rattle.promises.specs.Wholes.{empty, joint, total, ValueOutsideSigned64}
use Rattle.promises.specs.Numbers.{IsWhole}
use Rattle.promises.specs.Refusals.{OutsideSigned64}
use Rattle.promises.proofs.Narrow.{even_past_one, limit_up_to_4}
use Rattle.promises.proofs.Numbers.{Known, known}
use Rattle.promises.proofs.OneOutcome.{gives_limit_one}

-- ---- the nearest
pub the_whole_number_out_is_the_nearest : promise.TheWholeNumberOutIsTheNearest
unfolding promise.TheWholeNumberOutIsTheNearest
the_whole_number_out_is_the_nearest n w rule x y = let k = taken_out n rule w x y in (k.z, k.means, k.near)

pub every_value_has_a_nearest_whole_number : promise.EveryValueHasANearestWholeNumber
unfolding promise.EveryValueHasANearestWholeNumber
every_value_has_a_nearest_whole_number = a_nearest_whole

pub one_whole_number_is_the_nearest : promise.OneWholeNumberIsTheNearest
unfolding promise.OneWholeNumberIsTheNearest
one_whole_number_is_the_nearest = one_nearest_whole

pub a_whole_value_goes_out_as_itself : promise.AWholeValueGoesOutAsItself
unfolding promise.AWholeValueGoesOutAsItself IsWhole value_of
a_whole_value_goes_out_as_itself n w x rule a is inside y = written_comes_back n x w rule a inside (record { word = is.word; means = is.means }) y

pub strictly_the_number_out_is_the_value : promise.StrictlyTheNumberOutIsTheValue
unfolding promise.StrictlyTheNumberOutIsTheValue IsWhole value_of
strictly_the_number_out_is_the_value n w x y = let k = strictly_taken n w x y in record { word = k.word; means = k.means }

-- ---- what the trade can quote
pub the_whole_number_out_is_off_by_at_most_a_half : promise.TheWholeNumberOutIsOffByAtMostAHalf
unfolding promise.TheWholeNumberOutIsOffByAtMostAHalf
the_whole_number_out_is_off_by_at_most_a_half n w rule z x means y =
    let k = taken_out n rule w x y in
    off_by_a_half z x (subst (λ (t : ℤ). IsNearestWhole t x) (real_inj (sym k.means ∙ means)) k.near)

pub a_rack_is_off_by_at_most_a_half_for_each_joint : promise.ARackIsOffByAtMostAHalfForEachJoint
unfolding promise.ARackIsOffByAtMostAHalfForEachJoint promise.TheWholeNumberOutIsOffByAtMostAHalf total off_by
a_rack_is_off_by_at_most_a_half_for_each_joint rule words values numbers empty = zero-le
a_rack_is_off_by_at_most_a_half_for_each_joint rule words values numbers (joint {words = ws} {values = zs} {numbers = xs} n w z x means y rest) =
    together (2 ^ 307) (length ws) (off_by z x) (off_by (total zs) (total xs)) (off_by_sum z (total zs) x (total xs)) (the_whole_number_out_is_off_by_at_most_a_half n w rule z x means y) (a_rack_is_off_by_at_most_a_half_for_each_joint rule ws zs xs rest)
  where
    together : (u k b c : ℕ) {a : ℕ} → a ≤ b + c → 2 * b ≤ u → 2 * c ≤ k * u → 2 * a ≤ suc k * u
    together u k b c h p q = omega (arith, h, p, q, suc-mul k u)

-- ---- negation
pub the_negated_word_goes_out_as_the_negated_number : promise.TheNegatedWordGoesOutAsTheNegatedNumber
unfolding promise.TheNegatedWordGoesOutAsTheNegatedNumber
the_negated_word_goes_out_as_the_negated_number n w rule x a small y z = takes_whole_one n rule (negated n w) a (Ok (neg_ℤ x)) z (negated_taken n w rule x y small)

pub the_negated_word_of_the_least_number_is_over : promise.TheNegatedWordOfTheLeastNumberIsOver
unfolding promise.TheNegatedWordOfTheLeastNumberIsOver
the_negated_word_of_the_least_number_is_over n w rule a y z = record { q = Refusal.Over; is = takes_whole_one n rule (negated n w) a (Err Refusal.Over) z (negated_over n w rule (neg_ℤ (pos (2 ^ 63))) y refl); known = refl }

-- ---- a value and the number nearest to it, in sizes
module _ (n w : ℕ) (z x : ℤ) (i : IsWord n w) (means : takum n w ≡ real z) (near : IsNearestWhole z x) where
  abbrev s : Bool
  s = is_negative z

  has : HasValue n s (nat_abs z) w
  has = record { word = i; means = means ∙ ap real (sym (rejoined z)) }

  size : NearestSize (2 ^ 307) (nat_abs z) (nat_abs x)
  size = its_size z x near

  -- a number past l is that of a size past l
  past : (l : ℕ) → l < nat_abs x → l * 2 ^ 307 < nat_abs z
  past l h = by (2 ^ 307) (pow_pos 307) size
    where
      by : (u : ℕ) → 0 < u → NearestSize u (nat_abs z) (nat_abs x) → l * u < nat_abs z
      by u some y = omega (arith, some, y.from, suc-mul l u, mul-le-mul_right {m = suc l} {n = nat_abs x} u h)

  -- and where the size is a whole number, it is the number's
  number_is : (j : ℕ) → nat_abs z ≡ j * 2 ^ 307 → nat_abs x ≡ j
  number_is j q = one_size (2 ^ 307) (pow_pos 307) (nat_abs z) (nat_abs x) j size (subst (λ (a : ℕ). NearestSize (2 ^ 307) a j) (sym q) (itself (2 ^ 307) (pow_pos 307) j))

  even_number : (j : ℕ) × (nat_abs z ≡ 2 * j * 2 ^ 307) → nat_abs x % 2 ≡ 0
  even_number (j, q) = let e = number_is (2 * j) q in omega (arith, e)

  -- from 2^55 on it is
  exact_where_large : 2 ^ 55 * 2 ^ 307 ≤ nat_abs z → nat_abs z ≡ nat_abs x * 2 ^ 307
  exact_where_large h = let t = large_is_even n w s (nat_abs z) has h in t.1 ∙ ap (λ (j : ℕ). j * 2 ^ 307) (sym (number_is (2 * t.0) t.1))

  -- which is so wherever the number or the value is outside signed 64 bits
  by_the_number : 2 ^ 63 ≤ nat_abs x → nat_abs z ≡ nat_abs x * 2 ^ 307
  by_the_number h = exact_where_large (le_of_lt (past (2 ^ 55) (omega (arith, h))))

  by_the_value : 2 ^ 63 * 2 ^ 307 ≤ nat_abs z → nat_abs z ≡ nat_abs x * 2 ^ 307
  by_the_value h = exact_where_large (le_trans (mul-le-mul_right {m = 2 ^ 55} {n = 2 ^ 63} (2 ^ 307) (lit≤ tt)) h)

-- ---- the line in the ledger
pub no_word_past_the_limit_goes_out_odd : promise.NoWordPastTheLimitGoesOutOdd
unfolding promise.NoWordPastTheLimitGoesOutOdd GivesLimit
no_word_past_the_limit_goes_out_odd n l w rule z x g means large y = even_number n w z x o.word means near (by (dec_le 5 n))
  where
    o : TakenOut n rule w x
    o = taken_out n rule w x y

    k : Known n l
    k = known n l g

    near : IsNearestWhole z x
    near = subst (λ (t : ℤ). IsNearestWhole t x) (real_inj (sym o.means ∙ means)) o.near

    value : HasValue n (is_negative z) (nat_abs z) w
    value = has n w z x o.word means near

    by : Dec (5 ≤ n) → (j : ℕ) × (nat_abs z ≡ 2 * j * 2 ^ 307)
    by (yes five) = even_from_the_limit n l five k.hi k.limit (is_negative z) (nat_abs z) w value (le_of_lt large)
    by (no f) = up_to_4 (le_of_suc-le-suc (lt_of_not-le f))
      where
        up_to_4 : n ≤ 4 → (j : ℕ) × (nat_abs z ≡ 2 * j * 2 ^ 307)
        up_to_4 short =
            let same = gives_limit_one n (Ok l) (Ok 1) g (through (width_fits n k.lo k.hi) (1, refl, limit_up_to_4 n short)) in
            let one : l ≡ 1 = cc in
            even_past_one n k.lo short (is_negative z) (nat_abs z) w value (subst (λ (l : ℕ). l * 2 ^ 307 < nat_abs z) one large)

pub no_odd_number_past_the_limit_goes_out : promise.NoOddNumberPastTheLimitGoesOut
unfolding promise.NoOddNumberPastTheLimitGoesOut promise.NoWordPastTheLimitGoesOutOdd
no_odd_number_past_the_limit_goes_out n l w rule x g h y =
    let o = taken_out n rule w x y in
    no_word_past_the_limit_goes_out_odd n l w rule o.z x g o.means (past n w o.z x o.word o.means o.near l h) y

-- ---- OVER
pub every_value_of_at_least_2_to_55_is_whole : promise.EveryValueOfAtLeast2To55IsWhole
unfolding promise.EveryValueOfAtLeast2To55IsWhole IsWhole value_of
every_value_of_at_least_2_to_55_is_whole n w z i means large =
    let s = is_negative z in
    let t = large_is_even n w s (nat_abs z) (record { word = i; means = means ∙ ap real (sym (rejoined z)) }) large in
    (signed_size s (2 * t.0), record { word = i; means = means ∙ ap real (sym (rejoined z) ∙ ap (signed_size s) t.1 ∙ sym (signed_value s (2 * t.0))) })

-- where both are counted by the same whole number of ones
outside_sizes : (u a i : ℕ) → 0 < u → a ≡ i * u → (2 ^ 63 ≤ i → 2 ^ 63 * u ≤ a) × (2 ^ 63 * u ≤ a → 2 ^ 63 ≤ i)
outside_sizes u a i some q = (λ h. subst (λ (b : ℕ). 2 ^ 63 * u ≤ b) (sym q) (mul-le-mul_right u h), λ h. le_of_mul-le-mul_right (subst (λ (b : ℕ). 2 ^ 63 * u ≤ b) q h) some)

-- below zero both are one less
outside_below : (u a i : ℕ) → 0 < u → suc a ≡ suc i * u → (2 ^ 63 ≤ i → 2 ^ 63 * u ≤ a) × (2 ^ 63 * u ≤ a → 2 ^ 63 ≤ i)
outside_below u a i some q = (λ h. omega (arith, q, some, suc-mul i u, mul-le-mul_right u h), λ h. le_of_suc-le-suc (lt_of_mul-lt-mul_right u (subst (λ (b : ℕ). 2 ^ 63 * u < b) q (suc-le-suc h))))

-- ---- beside the ends, in sizes
beside_above : (u a j : ℕ) → NearestSize u a j → 2 ^ 63 ≤ j → a < 2 ^ 63 * u → 2 * distance a (2 ^ 63 * u) ≤ u
unfolding distance
beside_above u a j x h g = omega (arith, x.from, g, mul-le-mul_right {m = 2 ^ 63} {n = j} u h)

beside_below : (u a j : ℕ) → NearestSize u a j → j ≤ 2 ^ 63 → 2 ^ 63 * u ≤ a → 2 * distance a (2 ^ 63 * u) ≤ u
unfolding distance
beside_below u a j x h g = omega (arith, x.up_to, g, mul-le-mul_right {m = j} {n = 2 ^ 63} u h)

pub rounding_could_decide_over_only_beside_the_ends : promise.RoundingCouldDecideOverOnlyBesideTheEnds
unfolding promise.RoundingCouldDecideOverOnlyBesideTheEnds OutsideSigned64 ValueOutsideSigned64 is_negative signed_size
rounding_could_decide_over_only_beside_the_ends z x near = by z x (its_size z x near) (its_sign z x near)
  where
    by : (z x : ℤ) → NearestSize (2 ^ 307) (nat_abs z) (nat_abs x) → x ≡ signed_size (is_negative z) (nat_abs x) → (OutsideSigned64 x × (ValueOutsideSigned64 z → ⊥)) ⊎ (ValueOutsideSigned64 z × (OutsideSigned64 x → ⊥)) → 2 * distance (nat_abs z) (2 ^ 63 * 2 ^ 307) ≤ 2 ^ 307
    by (pos a) (pos j) y sign (inl (h, f)) = beside_above (2 ^ 307) a j y h (lt_of_not-le f)
    by (pos a) (pos j) y sign (inr (h, f)) = beside_below (2 ^ 307) a j y (le_of_lt (lt_of_not-le f)) h
    by (negsuc a) (negsuc j) y sign (inl (h, f)) = absurd (never (2 ^ 307) (pow_pos 307) y h (lt_of_not-le f))
      where
        never : (u : ℕ) → 0 < u → NearestSize u (suc a) (suc j) → 2 ^ 63 ≤ j → a < 2 ^ 63 * u → ⊥
        never u some x h g = omega (arith, some, x.from, g, suc-mul j u, mul-le-mul_right {m = 2 ^ 63} {n = j} u h)
    by (negsuc a) (negsuc j) y sign (inr (h, f)) = beside_below (2 ^ 307) (suc a) (suc j) y (lt_of_not-le f) (le_trans h (le-suc a))
    by (pos a) (negsuc j) y sign d = absurd (pos-ne-negsuc (suc j) j (sym sign))
    by (negsuc a) (pos (suc j)) y sign d = absurd (pos-ne-negsuc (suc j) j sign)
    by (negsuc a) (pos zero) y sign (inl (h, f)) = absurd (omega (arith, h))
    by (negsuc a) (pos zero) y sign (inr (h, f)) = beside_below (2 ^ 307) (suc a) 0 y zero-le (le_trans h (le-suc a))

pub the_whole_number_is_over_exactly_where_the_value_is : promise.TheWholeNumberIsOverExactlyWhereTheValueIs
unfolding promise.TheWholeNumberIsOverExactlyWhereTheValueIs OutsideSigned64 ValueOutsideSigned64 is_negative signed_size
the_whole_number_is_over_exactly_where_the_value_is n w z x i means near = by z x means near (its_sign z x near)
  where
    one : 0 < 2 ^ 307
    one = pow_pos 307

    by : (z x : ℤ) → takum n w ≡ real z → IsNearestWhole z x → x ≡ signed_size (is_negative z) (nat_abs x) → (OutsideSigned64 x → ValueOutsideSigned64 z) × (ValueOutsideSigned64 z → OutsideSigned64 x)
    by (pos a) (pos j) m k sign =
        (λ h. (outside_sizes (2 ^ 307) a j one (by_the_number n w (pos a) (pos j) i m k h)).0 h, λ h. (outside_sizes (2 ^ 307) a j one (by_the_value n w (pos a) (pos j) i m k h)).1 h)
    by (negsuc a) (negsuc j) m k sign =
        (λ h. (outside_below (2 ^ 307) a j one (by_the_number n w (negsuc a) (negsuc j) i m k (omega (arith, h)))).0 h, λ h. (outside_below (2 ^ 307) a j one (by_the_value n w (negsuc a) (negsuc j) i m k (le_trans h (le-suc a)))).1 h)
    by (pos a) (negsuc j) m k sign = absurd (pos-ne-negsuc (suc j) j (sym sign))
    by (negsuc a) (pos (suc j)) m k sign = absurd (pos-ne-negsuc (suc j) j sign)
    by (negsuc a) (pos zero) m k sign = (λ h. absurd (omega (arith, h)), λ h. absurd (nothing (2 ^ 307) (by_the_value n w (negsuc a) (pos zero) i m k (le_trans h (le-suc a)))))
      where
        nothing : (u : ℕ) → suc a ≡ 0 * u → ⊥
        nothing u q = omega (arith, q, zero-mul u)
