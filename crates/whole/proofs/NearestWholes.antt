-- A value has a nearest whole number and only one, and what that is in sizes: at most a half off, and at a half even. Assumes nothing.
use mathlib.Core.Path.{◌≡◌, refl, sym, ap, ◌∙◌, subst, subst₂}
use mathlib.Core.Bool.{Bool, true, false, not}
use mathlib.Core.Logic.{◌⊎◌, inl, inr, ⊎_elim}
use Prim.Native.Nat.{ℕ, zero, suc, ◌+◌, ◌*◌, ◌/◌, ◌%◌, ◌^◌, ◌≤◌, ◌<◌}
use native.Mathlib.Nat.{suc-mul, zero-mul, mul-pos, zero-lt-suc, mul-le-mul_right, le_refl, le_antisymm, le_of_eq, eq_of_mul-eq-mul_right, div-add-mod', mul-mod_left, mod-lt}
use native.Mathlib.Omega.{arith}
use borrow.Author.Tests.{eq-eqb, ne_eqb, eqb-true, eqb-false}
use lib.Dec.{eqb}
use lib.IntN.{ℤ, pos, negsuc, neg_ℤ, nat_abs, ◌-ℤ◌, ◌*ℤ◌, neg_ℤ-neg_ℤ}
use lib.Pow.{pow_pos}
use Rattle.bounds.proofs.Powers.{not_more}
use Rattle.word.specs.Reads.{signed_size}
use Rattle.word.proofs.Integers.{neg_mul}
use Rattle.word.proofs.Values.{absolute, no_sign}
use Rattle.nearest.specs.Nearest.{distance}
use Rattle.nearest.proofs.Nearest.{Beside, before, at, after, beside, half_up, half_down, midway_same}
use Rattle.write.specs.Writes.{is_negative}
use Rattle.nearest.proofs.Gaps.{gap, difference_size}
use Rattle.write.proofs.Moves.{rejoined}
use Rattle.whole.specs.Parts.{NearestSize}
use Rattle.whole.specs.Wholes.{off_by, IsNearestWhole}

-- how far a value is off, in sizes
scaled : (t : Bool) (j u : ℕ) → signed_size t j *ℤ pos u ≡ signed_size t (j * u)
unfolding signed_size
scaled false j u = refl
scaled true j u = neg_mul j u

pub off_by_lem : (s : Bool) (a : ℕ) (t : Bool) (j : ℕ) → off_by (signed_size s a) (signed_size t j) ≡ gap s a t (j * 2 ^ 307)
unfolding off_by
off_by_lem s a t j = ap (λ (z : ℤ). nat_abs (signed_size s a -ℤ z)) (scaled t j (2 ^ 307)) ∙ difference_size s a t (j * 2 ^ 307)

pub gap_same : (s : Bool) (x y : ℕ) → gap s x s y ≡ distance x y
unfolding gap
gap_same false x y = refl
gap_same true x y = refl

-- ---- sizes, u being one
-- of all sizes of whole numbers none is nearer to a than i, and where another is as near i is even
abbrev Near : ℕ → ℕ → ℕ → Type 0
Near u a i = (j : ℕ) → distance a (i * u) ≤ distance a (j * u)

abbrev Even : ℕ → ℕ → ℕ → Type 0
Even u a i = (j : ℕ) → distance a (i * u) ≡ distance a (j * u) → (j ≡ i) ⊎ (i % 2 ≡ 0)

module _ (u : ℕ) (some : 0 < u) where
  -- the next one
  next : (i : ℕ) → i * u < suc i * u
  next i = omega (arith, suc-mul i u)

  -- one that comes after is at least the next one
  beyond : (i j : ℕ) → i < j → i * u + u ≤ j * u
  beyond i j h = omega (arith, suc-mul i u, mul-le-mul_right {m = suc i} {n = j} u h)

  module _ (a i : ℕ) where
    pub by_halves : Near u a i → Even u a i → NearestSize u a i
    by_halves near even = record { up_to = up_to; from = from i near; tie_above = above; tie_below = below i even }
      where
        up_to : 2 * a ≤ 2 * (i * u) + u
        up_to = omega (arith, half_down a (i * u) (suc i * u) (next i) (near (suc i)), suc-mul i u)

        from : (i : ℕ) → Near u a i → 2 * (i * u) ≤ 2 * a + u
        from zero near = omega (arith, zero-mul u)
        from (suc i) near = omega (arith, half_up a (i * u) (suc i * u) (next i) (near i), suc-mul i u)

        above : 2 * a ≡ 2 * (i * u) + u → i % 2 ≡ 0
        above q = ⊎_elim (λ (e : suc i ≡ i). absurd (omega (arith, e))) (λ e. e) (even (suc i) (midway_same a (i * u) (suc i * u) (next i) (omega (arith, q, suc-mul i u))))

        below : (i : ℕ) → Even u a i → 2 * (i * u) ≡ 2 * a + u → i % 2 ≡ 0
        below zero even q = refl
        below (suc i) even q = ⊎_elim (λ (e : i ≡ suc i). absurd (omega (arith, e))) (λ e. e) (even i (sym (midway_same a (i * u) (suc i * u) (next i) (omega (arith, q, suc-mul i u)))))

    module _ (x : NearestSize u a i) where
      pub at_most_half : 2 * distance a (i * u) ≤ u
      unfolding distance
      at_most_half = omega (arith, x.up_to, x.from)

      pub none_nearer : Near u a i
      unfolding distance
      none_nearer j = by (beside i j)
        where
          by : Beside i j → distance a (i * u) ≤ distance a (j * u)
          by (before h) = omega (arith, x.up_to, x.from, beyond j i h)
          by (at q) = le_of_eq (ap (λ (k : ℕ). distance a (k * u)) (sym q))
          by (after h) = omega (arith, x.up_to, x.from, beyond i j h)

      pub tie_even : Even u a i
      unfolding distance
      tie_even j q = by (beside i j)
        where
          by : Beside i j → (j ≡ i) ⊎ (i % 2 ≡ 0)
          by (before h) = inr (x.tie_below (omega (arith, q, x.up_to, x.from, beyond j i h)))
          by (at e) = inl e
          by (after h) = inr (x.tie_above (omega (arith, q, x.up_to, x.from, beyond i j h)))

  -- a size that is not smaller has a nearest whole number that is not smaller
  pub sizes_in_order : (a a' i i' : ℕ) → a ≤ a' → NearestSize u a i → NearestSize u a' i' → i ≤ i'
  sizes_in_order a a' i i' h x y = not_more back
    where
      back : i' < i → ⊥
      back g = omega (arith, both_even, one_more)
        where
          step : i' * u + u ≤ i * u
          step = beyond i' i g

          both_even : (i % 2 ≡ 0) × (i' % 2 ≡ 0)
          both_even = (x.tie_below (omega (arith, h, step, x.from, y.up_to)), y.tie_above (omega (arith, h, step, x.from, y.up_to)))

          one_more : i ≡ suc i'
          one_more = eq_of_mul-eq-mul_right u some i (suc i') (omega (arith, h, step, x.from, y.up_to, suc-mul i' u))

  pub one_size : (a i i' : ℕ) → NearestSize u a i → NearestSize u a i' → i ≡ i'
  one_size a i i' x y = le_antisymm (sizes_in_order a a i i' (le_refl a) x y) (sizes_in_order a a i' i (le_refl a) y x)

  -- a whole number of ones is its own
  pub itself : (i : ℕ) → NearestSize u (i * u) i
  itself i = record { up_to = omega arith; from = omega arith; tie_above = λ q. absurd (omega (arith, q, some)); tie_below = λ q. absurd (omega (arith, q, some)) }

  -- and there is one: the whole number below the size, or the next
  pub a_nearest : (a : ℕ) → (i : ℕ) × NearestSize u a i
  a_nearest a = by (beside u (2 * (a % u)))
    where
      w : ℕ
      w = a / u

      parts : w * u + a % u ≡ a
      parts = div-add-mod' a u

      rest : a % u < u
      rest = mod-lt a some

      by : Beside u (2 * (a % u)) → (i : ℕ) × NearestSize u a i
      by (before h) = (w, record { up_to = omega (arith, parts, h); from = omega (arith, parts); tie_above = λ q. absurd (omega (arith, parts, h, q)); tie_below = λ q. absurd (omega (arith, parts, some, q)) })
      by (at h) = tie (w % 2) refl
        where
          tie : (r : ℕ) → w % 2 ≡ r → (i : ℕ) × NearestSize u a i
          tie zero e = (w, record { up_to = omega (arith, parts, h); from = omega (arith, parts); tie_above = λ q. e; tie_below = λ q. e })
          tie (suc r) e =
              let even : suc w % 2 ≡ 0 = omega (arith, e) in
              (suc w, record { up_to = omega (arith, parts, h, suc-mul w u); from = omega (arith, parts, h, suc-mul w u); tie_above = λ q. even; tie_below = λ q. even })
      by (after h) = (suc w, record { up_to = omega (arith, parts, h, rest, suc-mul w u); from = omega (arith, parts, h, suc-mul w u); tie_above = λ q. absurd (omega (arith, parts, rest, suc-mul w u, q)); tie_below = λ q. absurd (omega (arith, parts, h, suc-mul w u, q)) })

  -- counted in parts of which there are g times as many
  pub finer : (a i g : ℕ) → 0 < g → NearestSize u a i → NearestSize (u * g) (a * g) i
  finer a i g parts x =
      record {
        up_to = omega (arith, together, mul-le-mul_right g x.up_to);
        from = omega (arith, together, mul-le-mul_right g x.from);
        tie_above = λ q. x.tie_above (eq_of_mul-eq-mul_right g parts (2 * a) (2 * (i * u) + u) (omega (arith, together, q)));
        tie_below = λ q. x.tie_below (eq_of_mul-eq-mul_right g parts (2 * (i * u)) (2 * a + u) (omega (arith, together, q)));
      }
    where
      together : i * (u * g) ≡ i * u * g
      together = omega arith

  -- nothing is left beside it exactly where nothing is left below one
  pub nothing_left : (a i : ℕ) → NearestSize u a i → eqb (a % u) 0 ≡ eqb (i * u) a
  nothing_left a i x = by (eqb (a % u) 0) refl
    where
      by : (b : Bool) → eqb (a % u) 0 ≡ b → b ≡ eqb (i * u) a
      by true q =
          let all : a / u * u ≡ a = omega (arith, div-add-mod' a u, eqb-true (a % u) 0 q) in
          sym (eq-eqb (i * u) a (ap (λ (k : ℕ). k * u) (one_size a i (a / u) x (subst (λ (b : ℕ). NearestSize u b (a / u)) all (itself (a / u)))) ∙ all))
      by false q = sym (ne_eqb (i * u) a (λ e. eqb-false (a % u) 0 q (ap (λ (b : ℕ). b % u) (sym e) ∙ mul-mod_left i u)))

  -- of all whole numbers, those with the other sign too
  module _ (a i : ℕ) (x : NearestSize u a i) (s t : Bool) (j : ℕ) where
    from_zero : distance a (0 * u) ≡ a
    unfolding distance
    from_zero = omega (arith, zero-mul u)

    pub gap_near : gap s a s (i * u) ≤ gap s a t (j * u)
    unfolding gap
    gap_near = by s t
      where
        across : distance a (i * u) ≤ a + j * u
        across = omega (arith, none_nearer a i x 0, from_zero)

        by : (s t : Bool) → gap s a s (i * u) ≤ gap s a t (j * u)
        by false false = none_nearer a i x j
        by false true = across
        by true false = across
        by true true = none_nearer a i x j

    pub gap_even : gap s a s (i * u) ≡ gap s a t (j * u) → (signed_size t j ≡ signed_size s i) ⊎ (i % 2 ≡ 0)
    unfolding gap
    gap_even = by s t
      where
        same : (s : Bool) → distance a (i * u) ≡ distance a (j * u) → (signed_size s j ≡ signed_size s i) ⊎ (i % 2 ≡ 0)
        same s q = ⊎_elim (λ (e : j ≡ i). inl (ap (signed_size s) e)) inr (tie_even a i x j q)

        nothing : (j : ℕ) → distance a (i * u) ≡ a + j * u → j ≡ 0
        nothing zero q = refl
        nothing (suc j) q = absurd (omega (arith, q, none_nearer a i x 0, from_zero, mul-pos (zero-lt-suc j) some))

        across : (s t : Bool) → distance a (i * u) ≡ a + j * u → (signed_size t j ≡ signed_size s i) ⊎ (i % 2 ≡ 0)
        across s t q =
            let none = nothing j q in
            let tie : distance a (i * u) ≡ distance a (0 * u) = q ∙ ap (λ (k : ℕ). a + k * u) none ∙ omega (arith, from_zero, zero-mul u) in
            ⊎_elim (λ (e : 0 ≡ i). inl (ap (signed_size t) none ∙ no_sign t ∙ sym (no_sign s) ∙ ap (signed_size s) e)) inr (tie_even a i x 0 tie)

        by : (s t : Bool) → gap s a s (i * u) ≡ gap s a t (j * u) → (signed_size t j ≡ signed_size s i) ⊎ (i % 2 ≡ 0)
        by false false q = same false q
        by false true q = across false true q
        by true false q = across true false q
        by true true q = same true q

-- ---- values
one : 0 < 2 ^ 307
one = pow_pos 307

-- from sizes to values
pub nearest_whole : (s : Bool) (a i : ℕ) → NearestSize (2 ^ 307) a i → IsNearestWhole (signed_size s a) (signed_size s i)
nearest_whole s a i x =
    record {
      nearest = λ y. subst₂ (λ (c d : ℕ). c ≤ d) (sym (off_by_lem s a s i)) (sym (off y)) (gap_near (2 ^ 307) one a i x s (is_negative y) (nat_abs y));
      even = λ y q. ⊎_elim (λ (e : signed_size (is_negative y) (nat_abs y) ≡ signed_size s i). inl (sym (rejoined y) ∙ e)) (λ e. inr (ap (λ (k : ℕ). k % 2) (absolute s i) ∙ e)) (gap_even (2 ^ 307) one a i x s (is_negative y) (nat_abs y) (sym (off_by_lem s a s i) ∙ q ∙ off y));
    }
  where
    off : (y : ℤ) → off_by (signed_size s a) y ≡ gap s a (is_negative y) (nat_abs y * 2 ^ 307)
    off y = ap (off_by (signed_size s a)) (sym (rejoined y)) ∙ off_by_lem s a (is_negative y) (nat_abs y)

-- zero is nearer than what has the other sign
farther : (u a j : ℕ) → 0 < u → a + suc j * u ≤ distance a (0 * u) → ⊥
unfolding distance
farther u a j some h = omega (arith, h, zero-mul u, mul-pos (zero-lt-suc j) some)

-- and back
module _ (z x : ℤ) (is : IsNearestWhole z x) where
  abbrev s : Bool
  s = is_negative z

  pub its_sign : x ≡ signed_size s (nat_abs x)
  unfolding is_negative signed_size gap
  its_sign = by z x (is.nearest (pos 0))
    where
      by : (z x : ℤ) → off_by z x ≤ off_by z (pos 0) → x ≡ signed_size (is_negative z) (nat_abs x)
      by (pos a) (pos j) h = refl
      by (pos a) (negsuc j) h = absurd (farther (2 ^ 307) a j one (subst₂ (λ (c d : ℕ). c ≤ d) (off_by_lem false a true (suc j)) (off_by_lem false a false 0) h))
      by (negsuc a) (pos zero) h = refl
      by (negsuc a) (pos (suc j)) h = absurd (farther (2 ^ 307) (suc a) j one (subst₂ (λ (c d : ℕ). c ≤ d) (off_by_lem true (suc a) false (suc j)) (off_by_lem true (suc a) true 0) h))
      by (negsuc a) (negsuc j) h = refl

  off : (j : ℕ) → off_by z (signed_size s j) ≡ distance (nat_abs z) (j * 2 ^ 307)
  off j = ap (λ (y : ℤ). off_by y (signed_size s j)) (sym (rejoined z)) ∙ off_by_lem s (nat_abs z) s j ∙ gap_same s (nat_abs z) (j * 2 ^ 307)

  own : off_by z x ≡ distance (nat_abs z) (nat_abs x * 2 ^ 307)
  own = ap (off_by z) its_sign ∙ off (nat_abs x)

  pub its_size : NearestSize (2 ^ 307) (nat_abs z) (nat_abs x)
  its_size =
      by_halves (2 ^ 307) one (nat_abs z) (nat_abs x) (λ j. subst₂ (λ (c d : ℕ). c ≤ d) own (off j) (is.nearest (signed_size s j)))
      (λ j q. ⊎_elim (λ (e : signed_size s j ≡ x). inl (sym (absolute s j) ∙ ap nat_abs e)) inr (is.even (signed_size s j) (own ∙ q ∙ sym (off j))))

  -- the number is off by at most a half
  pub off_by_a_half : 2 * off_by z x ≤ 2 ^ 307
  off_by_a_half = subst (λ (d : ℕ). 2 * d ≤ 2 ^ 307) (sym own) (at_most_half (2 ^ 307) one (nat_abs z) (nat_abs x) its_size)

pub one_nearest_whole : (z x y : ℤ) → IsNearestWhole z x → IsNearestWhole z y → x ≡ y
one_nearest_whole z x y a b = its_sign z x a ∙ ap (signed_size (is_negative z)) (one_size (2 ^ 307) one (nat_abs z) (nat_abs x) (nat_abs y) (its_size z x a) (its_size z y b)) ∙ sym (its_sign z y b)

pub a_nearest_whole : (z : ℤ) → (x : ℤ) × IsNearestWhole z x
a_nearest_whole z =
    let t = a_nearest (2 ^ 307) one (nat_abs z) in
    (signed_size (is_negative z) t.0, subst (λ (y : ℤ). IsNearestWhole y (signed_size (is_negative z) t.0)) (rejoined z) (nearest_whole (is_negative z) (nat_abs z) t.0 t.1))

-- the opposite value has the opposite number
pub opposite_nearest : (z x : ℤ) → IsNearestWhole z x → IsNearestWhole (neg_ℤ z) (neg_ℤ x)
unfolding signed_size
opposite_nearest z x is =
    subst₂ IsNearestWhole (sym (other z) ∙ ap neg_ℤ (rejoined z)) (sym (turned_sign (is_negative z) (nat_abs x)) ∙ ap neg_ℤ (sym (its_sign z x is)))
    (nearest_whole (not (is_negative z)) (nat_abs z) (nat_abs x) (its_size z x is))
  where
    turned_sign : (s : Bool) (a : ℕ) → neg_ℤ (signed_size s a) ≡ signed_size (not s) a
    turned_sign false a = refl
    turned_sign true a = neg_ℤ-neg_ℤ (pos a)

    other : (z : ℤ) → neg_ℤ (signed_size (is_negative z) (nat_abs z)) ≡ signed_size (not (is_negative z)) (nat_abs z)
    other z = turned_sign (is_negative z) (nat_abs z)
