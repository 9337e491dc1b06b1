-- From width 5 up, a whole number that is at least the exact-count limit is rounded to an even whole number. Assumes nothing.
use mathlib.Core.Path.{◌≡◌, sym, ap, ◌∙◌, subst}
use mathlib.Core.Bool.{Bool}
use Prim.Native.Nat.{ℕ, ◌*◌, ◌%◌, ◌^◌, ◌≤◌, ◌<◌}
use native.Mathlib.Nat.{mul-pos, mul-le-mul_right, le_refl, lt_of_lt_of_le, le_of_mul-le-mul_right}
use native.Mathlib.Omega.{arith}
use lib.IntN.{ℤ, nat_abs}
use lib.Pow.{pow_pos}
use Rattle.bounds.specs.Widths.{IsLimit}
use Rattle.bounds.proofs.Powers.{not_more}
use Rattle.word.specs.Takum.{real}
use Rattle.word.specs.Reads.{signed_size}
use Rattle.word.proofs.Values.{absolute}
use Rattle.nearest.specs.Nearest.{distance, Nearest}
use Rattle.round.specs.Writes.{IsRounded, zero, other}
use Rattle.nearest.proofs.Nearest.{distance_below}
use Rattle.whole.specs.Limits as promise
use Rattle.whole.proofs.InAndOut.{Written}
use Rattle.whole.proofs.LimitEvens.{even_from_the_limit}
use Rattle.whole.proofs.LimitWords.{every_whole_number_up_to_the_limit_has_a_word}
use Rattle.whole.proofs.WholeValues.{signed_value}

-- below a size that is at most a, and is a word's, no word is the nearest to a
not_nearer : (a x z : ℕ) → x ≤ a → distance a (z * 1) ≤ distance a (x * 1) → x ≤ z
not_nearer a x z h l = not_more (λ (g : z < x). farther g)
  where
    farther : z < x → ⊥
    farther g = omega (arith, h, g, l, distance_below a (z * 1) (omega (arith, h, g)), distance_below a (x * 1) (omega (arith, h)))

module _ (n l : ℕ) (five : 5 ≤ n) (hi : n ≤ 64) (limit : IsLimit n l) where
  some : 0 < l * 2 ^ 307
  some = mul-pos (subst (λ (y : ℕ). 0 < y) (sym limit.limit) (pow_pos limit.v)) (pow_pos 307)

  -- the limit has a word, so the nearest one has at least its size
  at_least_the_limit : (s : Bool) (i w : ℕ) → l ≤ i → (x : Nearest n s (i * 2 ^ 307) 1 w) → l * 2 ^ 307 ≤ x.z
  unfolding promise.EveryWholeNumberUpToTheLimitHasAWord
  at_least_the_limit s i w h x =
      let t = every_whole_number_up_to_the_limit_has_a_word n l (omega (arith, five)) hi limit l (le_refl l) s in
      not_nearer (i * 2 ^ 307) (l * 2 ^ 307) x.z (mul-le-mul_right (2 ^ 307) h) (x.nearest (l * 2 ^ 307) t.0 some t.1)

  -- the word has the value of the even whole number y
  pub rounded_to_even : (s : Bool) (i w : ℕ) → l ≤ i → IsRounded n s (i * 2 ^ 307) 1 w → (y : ℤ) × Written n y w × (nat_abs y % 2 ≡ 0) × (l ≤ nat_abs y)
  rounded_to_even s i w h (zero q e) = absurd (none (i * 2 ^ 307) (lt_of_lt_of_le some (mul-le-mul_right (2 ^ 307) h)) q)
    where
      none : (a : ℕ) → 0 < a → a ≡ 0 → ⊥
      none a p q = omega (arith, p, q)
  rounded_to_even s i w h (other p x) =
      let large = at_least_the_limit s i w h x in
      let t = even_from_the_limit n l five hi limit s x.z w x.is large in
      let size : nat_abs (signed_size s (2 * t.0)) ≡ 2 * t.0 = absolute s (2 * t.0) in (
        signed_size s (2 * t.0),
        record { word = x.is.word; means = x.is.means ∙ ap (λ (z : ℕ). real (signed_size s z)) t.1 ∙ ap real (sym (signed_value s (2 * t.0))) },
        omega (arith, size),
        subst (λ (y : ℕ). l ≤ y) (sym size) (le_of_mul-le-mul_right (subst (λ (z : ℕ). l * 2 ^ 307 ≤ z) t.1 large) (pow_pos 307)),
      )
