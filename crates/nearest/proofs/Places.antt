-- The nonzero words of one sign are the places 1 to 2^(n - 1) - 1: a word of that sign and its place have the same size and the same lowest bit.
-- Assumes nothing.
use mathlib.Core.Path.{◌≡◌, refl, sym, ap, ◌∙◌, subst}
use mathlib.Core.Bool.{Bool, true, false}
use mathlib.Core.Logic.{inl, inr, ⊎_elim}
use Prim.Native.Nat.{ℕ, zero, ◌-◌, ◌*◌, ◌%◌, ◌^◌, ◌≤◌, ◌<◌, zero-le}
use native.Mathlib.Nat.{lt_irrefl, lt_of_le_of_lt, le_of_eq, le_of_lt, eq-or-lt_of_le}
use native.Mathlib.Omega.{arith}
use lib.IntN.{pos, neg_ℤ, nat_abs}
use lib.Pow.{pow_pos, pow_mono}
use Rattle.word.specs.Takum.{takum, real}
use Rattle.word.specs.Reads.{signed_size}
use Rattle.bounds.proofs.Powers.{twice}
use Rattle.word.proofs.Sizes.{size}
use Rattle.word.proofs.Words.{Lies, at_zero, above, at_NaR, under, lies, takum_zero, takum_positive, takum_NaR, takum_negative}
use Rattle.word.proofs.Values.{real_inj, not_NaR, grown, grown_suc, grown_lt}
use Rattle.word.proofs.Binades.{signed_one}
use Rattle.nearest.specs.Nearest.{HasValue, distance, Nearest}
use Rattle.nearest.proofs.Nearest.{NearestPlace, place_one, place_exists}

-- the word of a sign at a place
unfoldable pub word_of : ℕ → Bool → ℕ → ℕ
word_of n false v = v
word_of n true v = 2 ^ n - v

module _ (n : ℕ) (lo : 2 ≤ n) (hi : n ≤ 64) where
  pub two : 2 ≤ 2 ^ (n - 1)
  two = pow_mono {i = 1} {j = n - 1} (omega arith)

  pub has_value : (s : Bool) (v : ℕ) → zero < v → v < 2 ^ (n - 1) → HasValue n s (grown n v) (word_of n s v)
  unfolding word_of signed_size
  has_value false v h b =
      record {
        word = record { least = lo; most = hi; fits = omega (arith, b, twice n lo) };
        means = takum_positive n v lo hi h b ∙ ap (λ (x : ℕ). real (pos x)) (sym (grown_suc n v h));
      }
  has_value true v h b =
      record {
        word = record { least = lo; most = hi; fits = omega (arith, h, pow_pos n) };
        means =
            takum_negative n (2 ^ n - v) lo hi (omega (arith, b, twice n lo)) (omega (arith, h, pow_pos n))
            ∙ ap (λ (x : ℕ). real (neg_ℤ (pos x))) (ap (λ (y : ℕ). size (y * 2 ^ (64 - n))) back ∙ sym (grown_suc n v h));
      }
    where
      back : 2 ^ n - (2 ^ n - v) ≡ v
      back = omega (arith, b, twice n lo)

  pub record Place (s : Bool) (z w : ℕ) : Type 0 where
    pub v : ℕ
    pub first : zero < v
    pub last : v < 2 ^ (n - 1)
    pub size_is : z ≡ grown n v
    pub word_is : w ≡ word_of n s v

  pub place_of : (s : Bool) (z w : ℕ) → zero < z → HasValue n s z w → Place s z w
  unfolding word_of signed_size
  place_of s z w h x = by (lies n w)
    where
      by : Lies n w → Place s z w
      by (at_zero q) = absurd (lt_irrefl 0 (subst (λ (y : ℕ). zero < y) (signed_one s false z 0 h (real_inj (sym x.means ∙ ap (takum n) q ∙ takum_zero n))).1 h))
      by (above p b) =
          let t = signed_one s false z (size (w * 2 ^ (64 - n))) h (real_inj (sym x.means ∙ takum_positive n w lo hi p b)) in
          record { v = w; first = p; last = b; size_is = t.1 ∙ sym (grown_suc n w p); word_is = subst (λ (s : Bool). w ≡ word_of n s w) (sym t.0) refl }
      by (at_NaR q) = absurd (not_NaR (signed_size s z) (sym x.means ∙ takum_NaR n w lo hi q))
      by (under b) =
          let t = signed_one s true z (size ((2 ^ n - w) * 2 ^ (64 - n))) h (real_inj (sym x.means ∙ takum_negative n w lo hi b x.word.fits)) in
          record {
            v = 2 ^ n - w;
            first = omega (arith, x.word.fits);
            last = omega (arith, b, twice n lo);
            size_is = t.1 ∙ sym (grown_suc n (2 ^ n - w) (omega (arith, x.word.fits)));
            word_is = subst (λ (s : Bool). w ≡ word_of n s (2 ^ n - w)) (sym t.0) (omega (arith, x.word.fits));
          }

  -- a positive word has the size of its place
  pub value_is : (z v : ℕ) → zero < v → v < 2 ^ (n - 1) → HasValue n false z v → z ≡ grown n v
  unfolding word_of signed_size
  value_is z v h b x = ap nat_abs (real_inj (sym x.means ∙ (has_value false v h b).means))

  pub size_some : (v : ℕ) → zero < v → v < 2 ^ (n - 1) → zero < grown n v
  size_some v h b = lt_of_le_of_lt zero-le (grown_lt n 0 v lo hi h b)

  word_inj : (s : Bool) (u v : ℕ) → u < 2 ^ (n - 1) → v < 2 ^ (n - 1) → word_of n s u ≡ word_of n s v → u ≡ v
  unfolding word_of
  word_inj false u v hu hv q = q
  word_inj true u v hu hv q = omega (arith, q, hu, hv, twice n lo)

  parity : (s : Bool) (v : ℕ) → v < 2 ^ (n - 1) → word_of n s v % 2 ≡ v % 2
  unfolding word_of
  parity false v b = refl
  parity true v b = omega (arith, twice n lo, b)

  -- the nearest word is the word of the nearest place
  pub to_word : (s : Bool) (a b v : ℕ) → NearestPlace (grown n) (2 ^ (n - 1)) a b v → Nearest n s a b (word_of n s v)
  to_word s a b v x =
      record {
        z = grown n v;
        some = size_some v x.first x.last;
        is = has_value s v x.first x.last;
        nearest = λ z' w' h y. let t = place_of s z' w' h y in subst (λ (u : ℕ). distance a (grown n v * b) ≤ distance a (u * b)) (sym t.size_is) (x.nearest t.v t.first t.last);
        even = λ z' w' h y q.
            let t = place_of s z' w' h y in
            ⊎_elim (λ (e : t.v ≡ v). inl (t.word_is ∙ ap (word_of n s) e)) (λ (e : v % 2 ≡ 0). inr (parity s v x.last ∙ e)) (x.even t.v t.first t.last (q ∙ ap (λ (u : ℕ). distance a (u * b)) t.size_is));
      }

  pub from_word : (s : Bool) (a b w : ℕ) → Nearest n s a b w → (v : ℕ) × NearestPlace (grown n) (2 ^ (n - 1)) a b v × (w ≡ word_of n s v)
  from_word s a b w x =
      let t = place_of s x.z w x.some x.is in (
        t.v,
        record {
          first = t.first;
          last = t.last;
          nearest = λ u h l. subst (λ (y : ℕ). distance a (y * b) ≤ distance a (grown n u * b)) t.size_is (x.nearest (grown n u) (word_of n s u) (size_some u h l) (has_value s u h l));
          even = λ u h l q.
              ⊎_elim (λ (e : word_of n s u ≡ w). inl (word_inj s u t.v l t.last (e ∙ t.word_is))) (λ (e : w % 2 ≡ 0). inr (sym (parity s t.v t.last) ∙ ap (λ (y : ℕ). y % 2) (sym t.word_is) ∙ e))
              (x.even (grown n u) (word_of n s u) (size_some u h l) (has_value s u h l) (ap (λ (y : ℕ). distance a (y * b)) t.size_is ∙ q));
        },
        t.word_is,
      )

  pub increasing : (v u : ℕ) → zero < v → v < u → u < 2 ^ (n - 1) → grown n v < grown n u
  increasing v u h l r = grown_lt n v u lo hi l r

  pub not_decreasing : (v u : ℕ) → zero < v → v ≤ u → u < 2 ^ (n - 1) → grown n v ≤ grown n u
  not_decreasing v u h l r = ⊎_elim (λ (q : v ≡ u). le_of_eq (ap (grown n) q)) (λ (q : v < u). le_of_lt (increasing v u h q r)) (eq-or-lt_of_le l)

  -- ---- there is exactly one rounded word
  pub nearest_exists : (s : Bool) (a b : ℕ) → zero < b → (w : ℕ) × Nearest n s a b w
  nearest_exists s a b h = let t = place_exists (grown n) (2 ^ (n - 1)) a b increasing h two in (word_of n s t.0, to_word s a b t.0 t.1)

  pub nearest_one : (s : Bool) (a b w w' : ℕ) → zero < b → Nearest n s a b w → Nearest n s a b w' → w ≡ w'
  nearest_one s a b w w' h x y =
      let t = from_word s a b w x in
      let u = from_word s a b w' y in
      t.2 ∙ ap (word_of n s) (place_one (grown n) (2 ^ (n - 1)) a b increasing h t.0 u.0 t.1 u.1) ∙ sym u.2
