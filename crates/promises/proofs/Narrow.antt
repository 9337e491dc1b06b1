-- At widths 2 to 4 no word has a value between 1 and 8, so 3 is rounded to 1, and every size above 1 is an even whole number. Assumes nothing.
use mathlib.Core.Path.{◌≡◌, refl, sym, subst}
use mathlib.Core.Bool.{Bool, false}
use Prim.Native.Nat.{ℕ, ◌-◌, ◌*◌, ◌^◌, ◌≤◌, ◌<◌, zero-le}
use native.Mathlib.Decide.{dec_le}
use native.Mathlib.Nat.{lt_of_le_of_lt, mul-pos, le_trans, le_of_eq, lt_of_not-le, le_antisymm}
use native.Mathlib.Omega.{arith}
use lib.Dec.{T, lit<, lit≤}
use lib.Pow.{pow_pos}
use Rattle.bounds.specs.Widths.{IsLimit}
use Rattle.bounds.proofs.Limits.{none_within, no_more}
use Rattle.word.specs.Takum.{power, regime_of, characteristic_of, S, D, R, r, p, C, F, c, e, value, meaning, N, padded, takum}
use Rattle.word.proofs.Values.{grown}
use Rattle.nearest.specs.Nearest.{HasValue, distance}
use Rattle.round.specs.Writes.{IsRounded, zero, other}
use Rattle.nearest.proofs.Nearest.{distance_below, distance_above}
use Rattle.nearest.proofs.Places.{Place, place_of, value_is, not_decreasing}
use Rattle.whole.specs.Limits.{EveryWholeNumberUpToTheLimitHasAWord}
use Rattle.whole.proofs.LimitEvens.{even_from_the_limit}
use Rattle.whole.proofs.LimitLarge.{wider}
use Rattle.whole.proofs.LimitWords.{every_whole_number_up_to_the_limit_has_a_word}
use Rattle.promises.proofs.Tests.{same, is_word, has, has_is}

pub limit_up_to_4 : (n : ℕ) → n ≤ 4 → IsLimit n 1
limit_up_to_4 n short = record { v = 0; is = none_within n (omega (arith, short)); limit = refl }

-- ---- width 4: the word after that of 1 is 8
four : (v z : ℕ) → T (has 4 z v) → 0 < v → v < 8 → z ≡ grown 4 v
four v z t h b = value_is 4 (lit≤ tt) (lit≤ tt) z v h b (has_is 4 z v t)

at_one : 1 * 2 ^ 307 ≡ grown 4 4
unfolding same is_word has power regime_of characteristic_of S D R r p C F c e value meaning N padded takum
at_one = four 4 (1 * 2 ^ 307) tt (lit< tt) (lit< tt)

at_eight : 8 * 2 ^ 307 ≡ grown 4 5
unfolding same is_word has power regime_of characteristic_of S D R r p C F c e value meaning N padded takum
at_eight = four 5 (8 * 2 ^ 307) tt (lit< tt) (lit< tt)

-- a size up to 5 is at most 1
none_between : (s : Bool) (z w : ℕ) → 0 < z → HasValue 4 s z w → z ≤ 5 * 2 ^ 307 → z ≤ 1 * 2 ^ 307
none_between s z w some x h = by (dec_le t.v 4)
  where
    t : Place 4 (lit≤ tt) (lit≤ tt) s z w
    t = place_of 4 (lit≤ tt) (lit≤ tt) s z w some x

    too_large : (E : ℕ) → 0 < E → 8 * E ≤ z → z ≤ 5 * E → ⊥
    too_large E p q r = omega (arith, p, q, r)

    by : Dec (t.v ≤ 4) → z ≤ 1 * 2 ^ 307
    by (yes l) = le_trans (le_of_eq t.size_is) (le_trans (not_decreasing 4 (lit≤ tt) (lit≤ tt) t.v 4 t.first l (lit< tt)) (le_of_eq (sym at_one)))
    by (no f) = absurd (too_large (2 ^ 307) (pow_pos 307) (le_trans (le_of_eq at_eight) (le_trans (not_decreasing 4 (lit≤ tt) (lit≤ tt) 5 t.v (lit< tt) (lt_of_not-le f) t.last) (le_of_eq (sym t.size_is)))) h)

-- what is as near to 3 as 1 is lies from 1 to 5
as_near : (E z : ℕ) → distance (3 * E) (z * 1) ≤ distance (3 * E) (1 * E * 1) → (1 * E ≤ z) × (z ≤ 5 * E)
as_near E z h = by (dec_le z (3 * E))
  where
    two : distance (3 * E) (1 * E * 1) ≡ 3 * E - 1 * E * 1
    two = distance_below (3 * E) (1 * E * 1) (omega arith)

    by : Dec (z ≤ 3 * E) → (1 * E ≤ z) × (z ≤ 5 * E)
    by (yes l) = (omega (arith, h, l, two, distance_below (3 * E) (z * 1) (omega (arith, l))), omega (arith, l))
    by (no f) = (omega (arith, lt_of_not-le f), omega (arith, h, lt_of_not-le f, two, distance_above (3 * E) (z * 1) (omega (arith, lt_of_not-le f))))

-- ---- a word of 2 to 4 bits is one of 4 bits, with zeros appended
module _ (n : ℕ) (lo : 2 ≤ n) (short : n ≤ 4) where
  hi : n ≤ 64
  hi = omega (arith, short)

  -- a size above 1 is an even whole number: it is above 5, and so it is one at width 5, where 2 is the limit
  pub even_past_one : (s : Bool) (z w : ℕ) → HasValue n s z w → 1 * 2 ^ 307 < z → (j : ℕ) × (z ≡ 2 * j * 2 ^ 307)
  even_past_one s z w x large = even_from_the_limit 5 2 (lit≤ tt) (lit≤ tt) limit_of_5 s z (w * 2 ^ (5 - n)) (wider n 5 s z w (omega (arith, short)) (lit≤ tt) x) (by (2 ^ 307) (dec_le z (5 * 2 ^ 307)) (λ h. none_between s z (w * 2 ^ (4 - n)) (lt_of_le_of_lt zero-le large) (wider n 4 s z w short (lit≤ tt) x) h) large)
    where
      limit_of_5 : IsLimit 5 2
      limit_of_5 = record { v = 1; is = no_more 5 0 (omega arith) (omega arith) (omega arith) (omega arith); limit = refl }

      by : (E : ℕ) → Dec (z ≤ 5 * E) → (z ≤ 5 * E → z ≤ 1 * E) → 1 * E < z → 2 * E ≤ z
      by E (yes h) f large = absurd (omega (arith, f h, large))
      by E (no g) f large = omega (arith, lt_of_not-le g)

  pub three_is_rounded_to_one : (w : ℕ) → IsRounded n false (3 * 2 ^ 307) 1 w → HasValue n false (1 * 2 ^ 307) w
  unfolding EveryWholeNumberUpToTheLimitHasAWord
  three_is_rounded_to_one w (zero q e) = absurd (three (2 ^ 307) (pow_pos 307) q)
    where
      three : (E : ℕ) → 0 < E → 3 * E ≡ 0 → ⊥
      three E p q = omega (arith, p, q)
  three_is_rounded_to_one w (other h x) =
      let t = every_whole_number_up_to_the_limit_has_a_word n 1 lo hi (limit_up_to_4 n short) 1 (lit≤ tt) false in
      let near = as_near (2 ^ 307) x.z (x.nearest (1 * 2 ^ 307) t.0 (mul-pos {m = 1} {n = 2 ^ 307} (lit< tt) (pow_pos 307)) t.1) in
      subst (λ (z : ℕ). HasValue n false z w) (le_antisymm (none_between false x.z (w * 2 ^ (4 - n)) x.some (wider n 4 false x.z w short (lit≤ tt) x.is) near.1) near.0) x.is
