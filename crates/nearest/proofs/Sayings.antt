-- What is said of a word beside a value: one of the four always holds and only one, both negated exchange below and above, and strings tell it.
-- Assumes nothing.
use mathlib.Core.Path.{◌≡◌, refl, sym, ap, ap₂, ◌∙◌, subst}
use mathlib.Core.Bool.{Bool, true, false, not, cond}
use Prim.Native.Nat.{ℕ, zero, suc, ◌+◌, ◌-◌, ◌*◌, ◌/◌, ◌%◌, ◌^◌, ◌≤◌, ◌<◌}
use native.Mathlib.Nat.{le_of_lt, le_of_eq, le_trans, lt_of_lt_of_le, lt_of_le_of_lt, lt_irrefl, mul-le-mul_right, mul-lt-mul_of_pos_right, mul-pos, zero-lt-suc, le_antisymm, div-mul-le_self, pos_of_ne-zero, eq_of_mul-eq-mul_right, zero-mul}
use native.Mathlib.Decide.{dec_lt}
use native.Mathlib.Omega.{arith}
use mathlib.Core.Logic.{◌⊎◌, inl, inr}
use borrow.Author.Tests.{lt-ltb, le-ltb, eqb-true, eqb-false}
use lib.Dec.{eqb}
use lib.IntN.{ℤ, pos, negsuc, neg_ℤ, nat_abs, ◌*ℤ◌, ◌-ℤ◌, neg_ℤ-neg_ℤ, pos-ne-negsuc}
use lib.Signed.{mag}
use lib.Pow.{pow_pos}
use Rattle.bounds.specs.declared.saying.Saying.{Saying}
use Rattle.bounds.specs.declared.saying.Saying.TheVariants.{Exact, Below, Above, PastTheEnd}
use Rattle.bounds.specs.Refusals.{IsWord}
use Rattle.bounds.specs.Sayings.{opposite_saying}
use Rattle.bounds.specs.Widths.{largest, smallest}
use Rattle.bounds.proofs.Powers.{shl_out, not_more}
use Rattle.word.specs.Takum.{real, takum}
use Rattle.word.specs.Orders.{order, negated, opposite}
use Rattle.word.specs.Reads.{signed_size}
use Rattle.word.proofs.Integers.{neg_mul}
use Rattle.word.proofs.Signed.{order_below, order_above}
use Rattle.word.proofs.Sizes.{size, size_lt}
use Rattle.word.proofs.Values.{grown, grown_suc, real_inj, absolute, order_same, order_zero, order_negated, negation_negates}
use Rattle.nearest.specs.declared.size.Rest.{Rest}
use Rattle.nearest.specs.declared.start.Start.{Start}
use Rattle.nearest.specs.Nearest.{HasValue, distance, Nearest}
use Rattle.nearest.specs.Offers.{IsOffered, IsNearest}
use Rattle.nearest.specs.Parts.{Begins, first_bits, IsRaised, TellsEnd, TellsNothing, beside}
use Rattle.nearest.specs.Sayings.{Against, IsPastTheEnd, beyond, short, Says, SaysOffered}
use Rattle.nearest.proofs.Floors.{floor_string, floor_lt, floor_size_low, floor_low, floor_exact, floor_finer, word_low, word_high, fine_exact, fine_finer}
use Rattle.nearest.proofs.Hub.{past_all, before_all}
use Rattle.nearest.proofs.Nearest.{distance_below, distance_above}
use Rattle.nearest.proofs.Classes.{some_size}
use Rattle.nearest.proofs.Places.{two, word_of, has_value, place_of, value_is, size_some, increasing, not_decreasing}
use Rattle.nearest.proofs.Sides.{floor_is}
use Rattle.nearest.proofs.Strings.{Binade, binade_of}

-- ---- numbers with a sign, times a whole number
pub negated_times : (x : ℤ) (b : ℕ) → neg_ℤ x *ℤ pos b ≡ neg_ℤ (x *ℤ pos b)
negated_times (pos i) b = neg_mul i b
negated_times (negsuc i) b = sym (ap neg_ℤ (neg_mul (suc i) b) ∙ neg_ℤ-neg_ℤ (pos (suc i * b)))

pub size_times : (x : ℤ) (b : ℕ) → nat_abs (x *ℤ pos b) ≡ nat_abs x * b
unfolding signed_size
size_times (pos i) b = refl
size_times (negsuc i) b = ap nat_abs (neg_mul (suc i) b) ∙ absolute true (suc i * b)

pub signed_times : (s : Bool) (z b : ℕ) → signed_size s z *ℤ pos b ≡ signed_size s (z * b)
unfolding signed_size
signed_times false z b = refl
signed_times true z b = neg_mul z b

other_sign : (s : Bool) (a : ℕ) → signed_size (not s) a ≡ neg_ℤ (signed_size s a)
unfolding signed_size
other_sign false a = refl
other_sign true a = sym (neg_ℤ-neg_ℤ (pos a))

-- ---- both negated
pub against_negated : (n : ℕ) (s : Bool) (a b w : ℕ) (way : ℤ) → IsWord n w → Against n s a b w way → Against n (not s) a b (negated n w) (neg_ℤ way)
unfolding opposite
against_negated n s a b w way i x =
    record {
      x = neg_ℤ x.x;
      means = negation_negates n w i ∙ ap opposite x.means;
      is = ap₂ order (negated_times x.x b) (other_sign s a) ∙ order_negated (x.x *ℤ pos b) (signed_size s a) ∙ ap neg_ℤ x.is;
    }

pub says_negated : (n : ℕ) (s : Bool) (a b w : ℕ) (q : Saying) → IsWord n w → Says n s a b w q → Says n (not s) a b (negated n w) (opposite_saying q)
unfolding Says
says_negated n s a b w Exact i x = against_negated n s a b w (pos 0) i x
says_negated n s a b w Below i x = (x.0, against_negated n s a b w (negsuc 0) i x.1)
says_negated n s a b w Above i x = (x.0, against_negated n s a b w (pos 1) i x.1)
says_negated n s a b w PastTheEnd i x = x

-- ---- one way
one_way : (n : ℕ) (s : Bool) (a b w : ℕ) (way way' : ℤ) → Against n s a b w way → Against n s a b w way' → way ≡ way'
one_way n s a b w way way' x y = sym x.is ∙ ap (λ (z : ℤ). order (z *ℤ pos b) (signed_size s a)) (real_inj (sym x.means ∙ y.means)) ∙ y.is

two_ways : (n : ℕ) (s : Bool) (a b w i : ℕ) → Against n s a b w (pos i) → Against n s a b w (negsuc 0) → ⊥
two_ways n s a b w i x y = pos-ne-negsuc i 0 (one_way n s a b w (pos i) (negsuc 0) x y)

three_ways : (n : ℕ) (s : Bool) (a b w : ℕ) → Against n s a b w (pos 0) → Against n s a b w (pos 1) → ⊥
three_ways n s a b w x y = omega (arith, ap nat_abs (one_way n s a b w (pos 0) (pos 1) x y))

module _ (n : ℕ) (lo : 2 ≤ n) (hi : n ≤ 64) where
  last_lt : 2 ^ (n - 1) - 1 < 2 ^ (n - 1)
  last_lt = omega (arith, two n lo hi)

  last_some : zero < 2 ^ (n - 1) - 1
  last_some = omega (arith, two n lo hi)

  first_lt : 1 < 2 ^ (n - 1)
  first_lt = omega (arith, two n lo hi)

  -- the size of no positive word is past the end
  module _ (a b v : ℕ) (first : zero < v) (last : v < 2 ^ (n - 1)) where
    pub not_beyond : a ≤ grown n v * b → (z : ℕ) → HasValue n false z (largest n) → z * b < a → ⊥
    unfolding largest
    not_beyond h z is l =
        lt_irrefl a (lt_of_le_of_lt (le_trans h (mul-le-mul_right b (not_decreasing n lo hi v (2 ^ (n - 1) - 1) first (omega (arith, last)) last_lt))) (subst (λ (y : ℕ). y * b < a) (value_is n lo hi z (2 ^ (n - 1) - 1) last_some last_lt is) l))

    pub not_short : grown n v * b ≤ a → (z : ℕ) → HasValue n false z (smallest n) → a < z * b → ⊥
    unfolding smallest
    not_short h z is l = lt_irrefl a (lt_of_lt_of_le (subst (λ (y : ℕ). a < y * b) (value_is n lo hi z 1 (zero-lt-suc 0) first_lt is) l) (le_trans (mul-le-mul_right b (not_decreasing n lo hi 1 v (zero-lt-suc 0) first last)) h))

    pub not_past : grown n v * b ≡ a → IsPastTheEnd n a b → ⊥
    not_past q (beyond z is l) = not_beyond (le_of_eq (sym q)) z is l
    not_past q (short z is some l) = not_short (le_of_eq q) z is l

  exact_inside : (s : Bool) (a b w : ℕ) → IsWord n w → Against n s a b w (pos 0) → IsPastTheEnd n a b → ⊥
  unfolding signed_size
  exact_inside s a b w i x past = by x.x x.means refl
    where
      sizes : nat_abs x.x * b ≡ a
      sizes = sym (size_times x.x b) ∙ ap nat_abs (order_zero (x.x *ℤ pos b) (signed_size s a) x.is) ∙ absolute s a

      at : (t : Bool) (z : ℕ) → takum n w ≡ real (signed_size t z) → zero < z → z * b ≡ a → ⊥
      at t z means some q =
          let p = place_of n lo hi t z w some (record { word = i; means = means }) in
          not_past a b p.v p.first p.last (ap (λ (y : ℕ). y * b) (sym p.size_is) ∙ q) past

      nothing : a ≡ 0 → IsPastTheEnd n a b → ⊥
      nothing q (beyond z is l) = omega (arith, q, l)
      nothing q (short z is some l) = omega (arith, q, some)

      by : (y : ℤ) → takum n w ≡ real y → x.x ≡ y → ⊥
      by (pos zero) means q = nothing (sym sizes ∙ ap (λ (y : ℤ). nat_abs y * b) q ∙ omega arith) past
      by (pos (suc j)) means q = at false (suc j) means (zero-lt-suc j) (ap (λ (y : ℤ). nat_abs y * b) (sym q) ∙ sizes)
      by (negsuc j) means q = at true (suc j) means (zero-lt-suc j) (ap (λ (y : ℤ). nat_abs y * b) (sym q) ∙ sizes)

  -- a word of the value's own sign is exactly the value where its size is
  pub exact_size : (s : Bool) (z a b w : ℕ) → HasValue n s z w → Says n s a b w Exact → z * b ≡ a
  unfolding Says
  exact_size s z a b w is x =
      ap (λ (y : ℕ). y * b) (sym (absolute s z) ∙ ap nat_abs (real_inj (sym is.means ∙ x.means))) ∙ sym (size_times x.x b) ∙ ap nat_abs (order_zero (x.x *ℤ pos b) (signed_size s a) x.is) ∙ absolute s a

  pub size_exact : (s : Bool) (z a b w : ℕ) → HasValue n s z w → z * b ≡ a → Says n s a b w Exact
  unfolding Says
  size_exact s z a b w is q = record { x = signed_size s z; means = is.means; is = ap (λ (y : ℤ). order y (signed_size s a)) (signed_times s z b ∙ ap (signed_size s) q) ∙ order_same (signed_size s a) }

  -- only one of the four is said
  pub says_one : (s : Bool) (a b w : ℕ) (q q' : Saying) → IsWord n w → Says n s a b w q → Says n s a b w q' → q ≡ q'
  unfolding Says
  says_one s a b w Exact Exact i x y = refl
  says_one s a b w Exact Below i x y = absurd (two_ways n s a b w 0 x y.1)
  says_one s a b w Exact Above i x y = absurd (three_ways n s a b w x y.1)
  says_one s a b w Exact PastTheEnd i x y = absurd (exact_inside s a b w i x y)
  says_one s a b w Below Exact i x y = absurd (two_ways n s a b w 0 y x.1)
  says_one s a b w Below Below i x y = refl
  says_one s a b w Below Above i x y = absurd (two_ways n s a b w 1 y.1 x.1)
  says_one s a b w Below PastTheEnd i x y = absurd (x.0 y)
  says_one s a b w Above Exact i x y = absurd (three_ways n s a b w y x.1)
  says_one s a b w Above Below i x y = absurd (two_ways n s a b w 1 x.1 y.1)
  says_one s a b w Above Above i x y = refl
  says_one s a b w Above PastTheEnd i x y = absurd (x.0 y)
  says_one s a b w PastTheEnd Exact i x y = absurd (exact_inside s a b w i y x)
  says_one s a b w PastTheEnd Below i x y = absurd (y.0 x)
  says_one s a b w PastTheEnd Above i x y = absurd (y.0 x)
  says_one s a b w PastTheEnd PastTheEnd i x y = refl

  -- ---- a positive word beside a size, by its own size
  module _ (a b v : ℕ) (first : zero < v) (last : v < 2 ^ (n - 1)) where
    means_size : takum n v ≡ real (pos (grown n v))
    unfolding word_of signed_size
    means_size = (has_value n lo hi false v first last).means

    pub exactly : grown n v * b ≡ a → Says n false a b v Exact
    unfolding Says signed_size
    exactly q = record { x = pos (grown n v); means = means_size; is = ap (λ (y : ℕ). order (pos y) (pos a)) q ∙ order_same (pos a) }

    pub lies_above : a < grown n v * b → Against n false a b v (pos 1)
    unfolding signed_size
    lies_above h = record { x = pos (grown n v); means = means_size; is = order_above (pos (grown n v * b)) (pos a) (le-ltb (grown n v * b) a (le_of_lt h)) (lt-ltb a (grown n v * b) h) }

    pub lies_below : grown n v * b < a → Against n false a b v (negsuc 0)
    unfolding signed_size
    lies_below h = record { x = pos (grown n v); means = means_size; is = order_below (pos (grown n v * b)) (pos a) (lt-ltb (grown n v * b) a h) }

    -- which is the nearest to the size
    module _ (some : zero < b) (near : Nearest n false a b v) where
      size_is : near.z ≡ grown n v
      unfolding word_of
      size_is = value_is n lo hi near.z v first last near.is

      -- a place that lies between the size and this one would be nearer
      nearer : (u : ℕ) → zero < u → u < 2 ^ (n - 1) → distance a (grown n v * b) ≤ distance a (grown n u * b)
      unfolding word_of
      nearer u p l = subst (λ (y : ℕ). distance a (y * b) ≤ distance a (grown n u * b)) size_is (near.nearest (grown n u) u (size_some n lo hi u p l) (has_value n lo hi false u p l))

      pub above_inside : a < grown n v * b → (v ≡ 1 → ⊥) → Says n false a b v Above
      unfolding Says smallest
      above_inside h f = (inside, lies_above h)
        where
          inside : IsPastTheEnd n a b → ⊥
          inside (beyond z is l) = not_beyond a b v first last (le_of_lt h) z is l
          inside (short z is p l) =
              let g = grown n 1 * b in
              let under : a < g = subst (λ (y : ℕ). a < y * b) (value_is n lo hi z 1 (zero-lt-suc 0) first_lt is) l in
              let more : g < grown n v * b = mul-lt-mul_of_pos_right (increasing n lo hi 1 v (zero-lt-suc 0) (omega (arith, first, f)) last) some in
              omega (arith, nearer 1 (zero-lt-suc 0) first_lt, distance_above a (grown n v * b) (le_of_lt h), distance_above a g (le_of_lt under), under, more)

      pub below_inside : grown n v * b < a → (v ≡ 2 ^ (n - 1) - 1 → ⊥) → Says n false a b v Below
      unfolding Says largest
      below_inside h f = (inside, lies_below h)
        where
          inside : IsPastTheEnd n a b → ⊥
          inside (short z is p l) = not_short a b v first last (le_of_lt h) z is l
          inside (beyond z is l) =
              let g = grown n (2 ^ (n - 1) - 1) * b in
              let over : g < a = subst (λ (y : ℕ). y * b < a) (value_is n lo hi z (2 ^ (n - 1) - 1) last_some last_lt is) l in
              let more : grown n v * b < g = mul-lt-mul_of_pos_right (increasing n lo hi v (2 ^ (n - 1) - 1) first (omega (arith, last, f)) last_lt) some in
              omega (arith, nearer (2 ^ (n - 1) - 1) last_some last_lt, distance_below a (grown n v * b) (le_of_lt h), distance_below a g (le_of_lt over), over, more)

  pub short_said : (a b v : ℕ) → v ≡ 1 → zero < a → a < grown n v * b → Says n false a b v PastTheEnd
  unfolding Says smallest word_of
  short_said a b v q some h = short (grown n 1) (has_value n lo hi false 1 (zero-lt-suc 0) first_lt) some (subst (λ (y : ℕ). a < grown n y * b) q h)

  pub beyond_said : (a b v : ℕ) → v ≡ 2 ^ (n - 1) - 1 → grown n v * b < a → Says n false a b v PastTheEnd
  unfolding Says largest word_of
  beyond_said a b v q h = beyond (grown n (2 ^ (n - 1) - 1)) (has_value n lo hi false (2 ^ (n - 1) - 1) last_some last_lt) (subst (λ (y : ℕ). grown n y * b < a) q h)

  -- ---- past every characteristic lies no word
  pub outside_said : (h : ℤ) (m : ℕ) (rest : Rest) (v : ℕ) → 254 < mag h → 2 ^ 63 ≤ m → m < 2 ^ 64 → SaysOffered n false h m rest v PastTheEnd
  unfolding SaysOffered Says largest smallest word_of
  outside_said (pos i) m rest v far full top a b some offered = beyond (grown n (2 ^ (n - 1) - 1)) (has_value n lo hi false (2 ^ (n - 1) - 1) last_some last_lt) (past_all n lo hi i m rest far full a b some offered)
  outside_said (negsuc i) m rest v far full top a b some offered = let x = before_all n lo hi i m rest far full top a b some offered in
      short (grown n 1) (has_value n lo hi false 1 (zero-lt-suc 0) first_lt) x.0 x.1

  -- the word that is nearest to a class of sizes is a positive one
  pub is_positive : (h : ℤ) (m : ℕ) (rest : Rest) (v : ℕ) → IsNearest n h m rest v → (zero < v) × (v < 2 ^ (n - 1))
  unfolding IsNearest word_of
  is_positive h m rest v near =
      let t = some_size m rest (h -ℤ pos 63) in
      let x = near t.0 t.1 t.2 t.3 in
      let p = place_of n lo hi false x.z v x.some x.is in
      (subst (λ (y : ℕ). zero < y) (sym p.word_is) p.first, subst (λ (y : ℕ). y < 2 ^ (n - 1)) (sym p.word_is) p.last)

  -- ---- inside: low is the last word at or below the size, by the first bits of its string
  module _ (h : ℤ) (e m : ℕ) (rest : Rest) (start : Start) (is : IsRaised h e) (begins : Begins h start.bits start.r) (full : 2 ^ 63 ≤ m) (top : m < 2 ^ 64) (low : ℕ) (low_is : low ≡ first_bits start m / 2 ^ (64 - n)) where
    F : ℕ
    F = floor_string start.bits (59 - start.r) m

    floor : first_bits start m ≡ F
    unfolding F
    floor = floor_is start m begins.regime

    low_floor : low ≡ F / 2 ^ (64 - n)
    low_floor = low_is ∙ ap (λ (y : ℕ). y / 2 ^ (64 - n)) floor

    cut : 63 - (59 - start.r) ≡ 4 + start.r
    cut = omega (arith, begins.regime)

    module _ (a b : ℕ) (some : zero < b) (offered : IsOffered m rest (h -ℤ pos 63) a b) where
      nonzero : zero < a
      unfolding F
      nonzero =
          let K = binade_of h e start.bits start.r is begins in
          lt_of_lt_of_le (mul-pos (lt_of_lt_of_le (pow_pos (e + 52)) (floor_size_low h e start.bits (59 - start.r) K.0 K.1 m full top)) some) (floor_low h e start.bits (59 - start.r) K.0 K.1 m full top rest a b some offered)

      -- the next word is above the size
      next_above : suc low < 2 ^ (n - 1) → a < grown n (suc low) * b
      unfolding F
      next_above room =
          let K = binade_of h e start.bits start.r is begins in
          subst (λ (x : ℕ). a < grown n (suc x) * b) (sym low_floor) (word_high h e start.bits (59 - start.r) K.0 K.1 m full top rest a b some offered n lo hi (subst (λ (x : ℕ). suc x < 2 ^ (n - 1)) low_floor room))

      -- and low is the size where it ends there, and else below it
      module _ (first : zero < low) where
        size_at : size (low * 2 ^ (64 - n)) ≡ grown n low
        size_at = sym (grown_suc n low first)

        ends : TellsEnd n low (first_bits start m) start.r m rest true → grown n low * b ≡ a
        unfolding F TellsEnd
        ends t =
            let K = binade_of h e start.bits start.r is begins in
            ap (λ (y : ℕ). y * b) (sym size_at ∙ ap size (sym t.0 ∙ floor)) ∙ floor_exact h e start.bits (59 - start.r) K.0 K.1 m full top rest a b some offered (subst (λ (j : ℕ). m % 2 ^ j ≡ 0) (sym cut) t.1) t.2

        goes_on : TellsEnd n low (first_bits start m) start.r m rest false → grown n low * b < a
        unfolding F TellsEnd
        goes_on t = by (dec_lt (low * 2 ^ (64 - n)) F) t
          where
            K : (K : ℕ) × Binade h e start.bits (59 - start.r) K
            K = binade_of h e start.bits start.r is begins

            under : low * 2 ^ (64 - n) ≤ F
            under = subst (λ (x : ℕ). x * 2 ^ (64 - n) ≤ F) (sym low_floor) (div-mul-le_self F (2 ^ (64 - n)))

            finer : low * 2 ^ (64 - n) ≡ F → (zero < m % 2 ^ (4 + start.r)) ⊎ (rest ≡ Rest.Nothing → ⊥) → grown n low * b < a
            finer q u =
                lt_of_le_of_lt (le_of_eq (ap (λ (y : ℕ). y * b) (sym size_at ∙ ap size q)))
                (floor_finer h e start.bits (59 - start.r) K.0 K.1 m full top rest a b some offered (subst (λ (j : ℕ). (zero < m % 2 ^ j) ⊎ (rest ≡ Rest.Nothing → ⊥)) (sym cut) u))

            by : Dec (low * 2 ^ (64 - n) < F) → (first_bits start m ≡ low * 2 ^ (64 - n) → ⊥) ⊎ ((zero < m % 2 ^ (4 + start.r)) ⊎ (rest ≡ Rest.Nothing → ⊥)) → grown n low * b < a
            by (yes p) t =
                lt_of_lt_of_le (mul-lt-mul_of_pos_right (lt_of_le_of_lt (le_of_eq (sym size_at)) (size_lt (low * 2 ^ (64 - n)) F p (floor_lt h e start.bits (59 - start.r) K.0 K.1 m full top))) some)
                (floor_low h e start.bits (59 - start.r) K.0 K.1 m full top rest a b some offered)
            by (no f) (inl g) = absurd (g (floor ∙ le_antisymm (not_more f) under))
            by (no f) (inr u) = finer (le_antisymm under (not_more f)) u

    -- low is the size, or below it
    unfoldable pub LowTells : Bool → Type 0
    LowTells true = (a b : ℕ) → zero < b → IsOffered m rest (h -ℤ pos 63) a b → grown n low * b ≡ a
    LowTells false = (a b : ℕ) → zero < b → IsOffered m rest (h -ℤ pos 63) a b → grown n low * b < a

    -- as its string tells, wherever the cut falls
    pub by_end : zero < low → (exact : Bool) → TellsEnd n low (first_bits start m) start.r m rest exact → LowTells exact
    unfolding LowTells
    by_end first true t = λ a b some offered. ends a b some offered first t
    by_end first false t = λ a b some offered. goes_on a b some offered first t

    -- and where it falls in the fraction, as the bits tell that are cut off
    pub by_nothing : zero < low → suc low < 2 ^ (n - 1) → 5 + start.r ≤ n → (exact : Bool) → TellsNothing (m * 2 ^ (n - start.r - 4) % 2 ^ 64) rest exact → LowTells exact
    unfolding LowTells TellsNothing F
    by_nothing first room fine exact t = by exact t
      where
        k : ℕ
        k = n - start.r - 4

        inside : 64 - n ≤ 59 - start.r
        inside = omega (arith, fine)

        behind : 63 - (59 - start.r) + (64 - n) ≡ 64 - k
        behind = omega (arith, fine, hi, begins.regime)

        shifted : m * 2 ^ k % 2 ^ 64 ≡ m % 2 ^ (63 - (59 - start.r) + (64 - n)) * 2 ^ k
        shifted = shl_out m k (omega (arith, hi)) ∙ ap (λ (j : ℕ). m % 2 ^ j * 2 ^ k) (sym behind)

        first_floor : zero < F / 2 ^ (64 - n)
        first_floor = subst (λ (x : ℕ). zero < x) low_floor first

        room_floor : suc (F / 2 ^ (64 - n)) < 2 ^ (n - 1)
        room_floor = subst (λ (x : ℕ). suc x < 2 ^ (n - 1)) low_floor room

        K : (K : ℕ) × Binade h e start.bits (59 - start.r) K
        K = binade_of h e start.bits start.r is begins

        some_bits : (zero < m * 2 ^ k % 2 ^ 64) ⊎ (rest ≡ Rest.Nothing → ⊥) → (zero < m % 2 ^ (63 - (59 - start.r) + (64 - n))) ⊎ (rest ≡ Rest.Nothing → ⊥)
        some_bits (inl h) = inl (pos_of_ne-zero (λ (q : m % 2 ^ (63 - (59 - start.r) + (64 - n)) ≡ 0). lt_irrefl 0 (subst (λ (x : ℕ). zero < x) (shifted ∙ ap (λ (x : ℕ). x * 2 ^ k) q ∙ zero-mul (2 ^ k)) h)))
        some_bits (inr f) = inr f

        by : (exact : Bool) → TellsNothing (m * 2 ^ k % 2 ^ 64) rest exact → LowTells exact
        by true t = λ a b some offered.
            subst (λ (x : ℕ). grown n x * b ≡ a) (sym low_floor)
            (fine_exact h e start.bits (59 - start.r) K.0 K.1 m full top rest a b some offered n lo hi inside room_floor first_floor (eq_of_mul-eq-mul_right (2 ^ k) (pow_pos k) _ 0 (sym shifted ∙ t.0 ∙ sym (zero-mul (2 ^ k)))) t.1)
        by false t = λ a b some offered. subst (λ (x : ℕ). grown n x * b < a) (sym low_floor) (fine_finer h e start.bits (59 - start.r) K.0 K.1 m full top rest a b some offered n lo hi inside room_floor first_floor (some_bits t))

    -- ---- what is said
    pub said_short : low ≡ 0 → SaysOffered n false h m rest 1 PastTheEnd
    unfolding SaysOffered
    said_short q a b some offered = short_said a b 1 refl (nonzero a b some offered) (subst (λ (x : ℕ). a < grown n (suc x) * b) q (next_above a b some offered (omega (arith, q, two n lo hi))))

    pub said_beyond : low ≡ 2 ^ (n - 1) - 1 → LowTells false → SaysOffered n false h m rest low PastTheEnd
    unfolding SaysOffered LowTells
    said_beyond q t a b some offered = beyond_said a b low q (t a b some offered)

    pub said_largest : low ≡ 2 ^ (n - 1) - 1 → LowTells true → SaysOffered n false h m rest low Exact
    unfolding SaysOffered LowTells
    said_largest q t a b some offered = exactly a b low (omega (arith, q, two n lo hi)) (omega (arith, q, two n lo hi)) (t a b some offered)

    -- of the nearest word, low or the next
    module _ (first : zero < low) (room : suc low < 2 ^ (n - 1)) (v : ℕ) (near : IsNearest n h m rest v) where
      last : v < 2 ^ (n - 1)
      last = (is_positive h m rest v near).1

      -- any other than low lies above the size
      module _ (a b : ℕ) (some : zero < b) (offered : IsOffered m rest (h -ℤ pos 63) a b) (other : v ≡ low → ⊥) where
        nearest : Nearest n false a b v
        unfolding IsNearest
        nearest = near a b some offered

        low_under : grown n low * b ≤ a
        unfolding F
        low_under =
            let K = binade_of h e start.bits start.r is begins in
            subst (λ (x : ℕ). grown n x * b ≤ a) (sym low_floor) (word_low h e start.bits (59 - start.r) K.0 K.1 m full top rest a b some offered n lo hi (subst (λ (x : ℕ). zero < x) low_floor first))

        after : suc low ≤ v
        after = by (dec_lt v low)
          where
            by : Dec (v < low) → suc low ≤ v
            by (yes p) =
                let less : grown n v * b < grown n low * b = mul-lt-mul_of_pos_right (increasing n lo hi v low (is_positive h m rest v near).0 p (omega (arith, room))) some in
                absurd (omega (arith, nearer a b v (is_positive h m rest v near).0 last some nearest low first (omega (arith, room)), distance_below a (grown n v * b) (omega (arith, less, low_under)), distance_below a (grown n low * b) low_under, less, low_under))
            by (no f) = omega (arith, not_more f, other)

        over : a < grown n v * b
        over = lt_of_lt_of_le (next_above a b some offered room) (mul-le-mul_right b (not_decreasing n lo hi (suc low) v (zero-lt-suc low) after last))

        above : Says n false a b v Above
        above = above_inside a b v (is_positive h m rest v near).0 last some nearest over (λ q. omega (arith, q, after, first))

        -- so the size isn't exactly low
        not_low : grown n low * b ≡ a → ⊥
        not_low q =
            omega (arith, nearer a b v (is_positive h m rest v near).0 last some nearest low first (omega (arith, room)), distance_above a (grown n v * b) (le_of_lt over), distance_below a (grown n low * b) low_under, over, q)

      pub said_beside : (exact : Bool) → LowTells exact → SaysOffered n false h m rest v (beside low v exact).saying
      unfolding SaysOffered IsNearest LowTells
      said_beside exact t a b some offered = by (eqb v low) refl exact t
        where
          by : (same : Bool) → eqb v low ≡ same → (exact : Bool) → LowTells exact → Says n false a b v (cond exact Exact (cond same Below Above))
          by true q true t = exactly a b v (is_positive h m rest v near).0 last (subst (λ (x : ℕ). grown n x * b ≡ a) (sym (eqb-true v low q)) (t a b some offered))
          by true q false t =
              let same = eqb-true v low q in
              below_inside a b v (is_positive h m rest v near).0 last some (near a b some offered) (subst (λ (x : ℕ). grown n x * b < a) (sym same) (t a b some offered)) (λ r. omega (arith, r, same, room))
          by false q true t = absurd (not_low a b some offered (eqb-false v low q) (t a b some offered))
          by false q false t = above a b some offered (eqb-false v low q)
