-- With the other sign, the word of the same place: nearest and exact go over. A word with exactly the value is the nearest. Assumes nothing.
use mathlib.Core.Path.{◌≡◌, refl, sym, ap, ◌∙◌, subst}
use mathlib.Core.Bool.{Bool, true, false, cond}
use mathlib.Core.Logic.{inl, ⊎_elim}
use Prim.Native.Nat.{ℕ, zero, suc, ◌+◌, ◌-◌, ◌*◌, ◌^◌, ◌≤◌, ◌<◌, zero-le}
use native.Mathlib.Nat.{le_of_eq, le_trans, sub_self, eq_of_mul-eq-mul_right, eq-or-lt_of_le, zero-mul}
use native.Mathlib.Omega.{arith}
use borrow.Author.Tests.{lt-ltb, le-ltb, ltb-true, ltb-false}
use lib.Dec.{ltb}
use Rattle.word.specs.Takum.{takum, real}
use Rattle.bounds.specs.Refusals.{IsWord}
use Rattle.word.specs.Reads.{signed_size}
use Rattle.sizes.specs.Sizes.{without_sign}
use lib.Pow.{pow_pos}
use Rattle.bounds.proofs.Powers.{twice}
use Rattle.word.proofs.Values.{words_differ}
use Rattle.nearest.specs.Nearest.{HasValue, distance, Nearest}
use Rattle.round.specs.Writes.{IsExact}
use Rattle.nearest.proofs.Nearest.{distance_below, distance_above, either_side}
use Rattle.nearest.proofs.Places.{word_of, has_value, value_is, from_word}

-- the distance is nothing only from the number itself
no_distance : (a x : ℕ) → distance a x ≡ 0 → x ≡ a
no_distance a x q = ⊎_elim (λ (h : x ≤ a). omega (arith, h, sym (distance_below a x h) ∙ q)) (λ (h : a ≤ x). omega (arith, h, sym (distance_above a x h) ∙ q)) (either_side a x)

same_distance : (a : ℕ) → distance a a ≡ 0
same_distance a = distance_below a a (le_of_eq refl) ∙ sub_self a

module _ (n : ℕ) (lo : 2 ≤ n) (hi : n ≤ 64) where
  -- the word without its sign is a positive one
  pub unsigned_word : (w : ℕ) → IsWord n w → zero < w → (w ≡ 2 ^ (n - 1) → ⊥) → IsWord n (without_sign (2 ^ (n - 1)) w) × (zero < without_sign (2 ^ (n - 1)) w) × (without_sign (2 ^ (n - 1)) w < 2 ^ (n - 1))
  unfolding without_sign
  unsigned_word w i h f = by (ltb w (2 ^ (n - 1))) refl
    where
      positive : (x : ℕ) → zero < x → x < 2 ^ (n - 1) → IsWord n x × (zero < x) × (x < 2 ^ (n - 1))
      positive x some less = (record { least = lo; most = hi; fits = omega (arith, less, twice n lo) }, some, less)

      by : (b : Bool) → ltb w (2 ^ (n - 1)) ≡ b → IsWord n (cond b w (2 ^ (n - 1) + 2 ^ (n - 1) - w)) × (zero < cond b w (2 ^ (n - 1) + 2 ^ (n - 1) - w)) × (cond b w (2 ^ (n - 1) + 2 ^ (n - 1) - w) < 2 ^ (n - 1))
      by true q = positive w h (ltb-true w (2 ^ (n - 1)) q)
      by false q =
          positive (2 ^ (n - 1) + 2 ^ (n - 1) - w) (omega (arith, i.fits, twice n lo))
          (⊎_elim (λ (e : 2 ^ (n - 1) ≡ w). absurd (f (sym e))) (λ (e : 2 ^ (n - 1) < w). omega (arith, e, pow_pos (n - 1))) (eq-or-lt_of_le (ltb-false w (2 ^ (n - 1)) q)))

  -- a word has the size of the word without its sign
  pub unsigned_value : (w v : ℕ) → IsWord n w → zero < w → (w ≡ 2 ^ (n - 1) → ⊥) → HasValue n false v (without_sign (2 ^ (n - 1)) w) → takum n w ≡ real (signed_size (ltb (2 ^ (n - 1)) w) v)
  unfolding without_sign word_of
  unsigned_value w v i h f x = by (ltb w (2 ^ (n - 1))) refl x
    where
      by : (b : Bool) → ltb w (2 ^ (n - 1)) ≡ b → HasValue n false v (cond b w (2 ^ (n - 1) + 2 ^ (n - 1) - w)) → takum n w ≡ real (signed_size (ltb (2 ^ (n - 1)) w) v)
      by true q y = rw (le-ltb (2 ^ (n - 1)) w (omega (arith, ltb-true w (2 ^ (n - 1)) q))) y.means
      by false q y =
          let over : 2 ^ (n - 1) < w = above (ltb-false w (2 ^ (n - 1)) q) in
          let u = 2 ^ (n - 1) + 2 ^ (n - 1) - w in
          let first : zero < u = omega (arith, i.fits, twice n lo) in
          let last : u < 2 ^ (n - 1) = omega (arith, over) in
          rw (lt-ltb (2 ^ (n - 1)) w over) (ap (takum n) (back over) ∙ (has_value n lo hi true u first last).means ∙ ap (λ (z : ℕ). real (signed_size true z)) (sym (value_is n lo hi v u first last y)))
        where
          above : 2 ^ (n - 1) ≤ w → 2 ^ (n - 1) < w
          above l = ⊎_elim (λ (e : 2 ^ (n - 1) ≡ w). absurd (f (sym e))) (λ (e : 2 ^ (n - 1) < w). e) (eq-or-lt_of_le l)

          back : 2 ^ (n - 1) < w → w ≡ 2 ^ n - (2 ^ (n - 1) + 2 ^ (n - 1) - w)
          back l = omega (arith, l, i.fits, twice n lo)

  pub nearest_positive : (a b w : ℕ) → Nearest n false a b w → (zero < w) × (w < 2 ^ (n - 1))
  unfolding word_of
  nearest_positive a b w x =
      let t = from_word n lo hi false a b w x in
      (subst (λ (y : ℕ). zero < y) (sym t.2) t.1.first, subst (λ (y : ℕ). y < 2 ^ (n - 1)) (sym t.2) t.1.last)

  -- ---- exactly the value, which is not zero
  module _ (a b : ℕ) (nonzero : zero < a) (some : zero < b) where
    pub exact_some : (z : ℕ) → z * b ≡ a → zero < z
    exact_some zero q = absurd (omega (arith, nonzero, q, zero-mul b))
    exact_some (suc i) q = omega arith

    -- two words with one value are the same word
    pub one_word : (s : Bool) (z w w' : ℕ) → HasValue n s z w → HasValue n s z w' → w ≡ w'
    one_word s z w w' x y = words_differ n w w' x.word y.word (x.means ∙ sym y.means)

    pub exact_nearest : (s : Bool) (w : ℕ) → IsExact n s a b w → Nearest n s a b w
    exact_nearest s w x =
        record {
          z = x.z;
          some = exact_some x.z x.same;
          is = x.is;
          nearest = λ z' w' h y. le_trans (le_of_eq none) zero-le;
          even = λ z' w' h y q. inl (one_word s x.z w' w (subst (λ (z : ℕ). HasValue n s z w') (same_size z' (sym q ∙ none)) y) x.is);
        }
      where
        none : distance a (x.z * b) ≡ 0
        none = ap (distance a) x.same ∙ same_distance a

        same_size : (z' : ℕ) → distance a (z' * b) ≡ 0 → z' ≡ x.z
        same_size z' q = eq_of_mul-eq-mul_right b some z' x.z (no_distance a (z' * b) q ∙ sym x.same)
