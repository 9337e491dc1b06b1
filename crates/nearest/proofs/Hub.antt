-- One normal size, the nearest positive word: past either end, and inside by its first bits and the side of the midpoint. Assumes nothing.
use mathlib.Core.Path.{◌≡◌, refl, sym, ap, ◌∙◌, subst}
use mathlib.Core.Bool.{false}
use Prim.Native.Nat.{ℕ, zero, suc, ◌+◌, ◌-◌, ◌*◌, ◌/◌, ◌%◌, ◌^◌, ◌≤◌, ◌<◌}
use native.Mathlib.Nat.{mul-one, add-mul, mul-le-mul_right, mul-le-mul, mul-lt-mul_of_pos_right, zero-mul, le_trans, le_of_eq, le_of_lt, lt_of_lt_of_le, lt_of_le_of_lt, lt_of_mul-lt-mul_right, zero-lt-suc, mul_assoc, mul_right_comm, mul-pos, one-mul}
use native.Mathlib.Numerals.{add-one}
use native.Mathlib.Omega.{arith}
use lib.IntN.{ℤ, pos, negsuc, ◌-ℤ◌}
use lib.Pow.{pow_pos, pow_mono, shr_lt, mod-mod-pow}
use Rattle.word.specs.Takum.{c}
use Rattle.word.specs.Reads.{num, den}
use Rattle.bounds.proofs.Powers.{pow_sum, shl_below, shl_out}
use Rattle.word.proofs.Sizes.{size_above, size_below}
use Rattle.word.proofs.Values.{grown, grown_suc}
use Rattle.nearest.specs.declared.size.Rest.{Rest}
use Rattle.std.specs.declared.cmp.Ordering.{Ordering}
use Rattle.nearest.specs.declared.start.Start.{Start}
use Rattle.nearest.specs.Nearest.{HasValue, Nearest}
use Rattle.nearest.specs.Offers.{Amounts, IsOffered, IsNearest}
use Rattle.nearest.specs.Parts.{Begins, first_bits, IsRaised, TellsSide, TellsPowers, chosen_of, ChoosesByCut}
use Rattle.nearest.proofs.Exponents.{offset_up, offset_down, raised_same}
use Rattle.nearest.proofs.Halves.{within}
use Rattle.nearest.proofs.Nearest.{NearestPlace, at_first, at_last, nearer_below, nearer_above, midway}
use Rattle.nearest.proofs.Strings.{binade_of}
use Rattle.nearest.proofs.Floors.{floor_string, floor_lt, word_low, word_high}
use Rattle.nearest.proofs.Sides.{TellsMidpoint, floor_is, Given, fine_cut, coarse_tells}
use Rattle.nearest.proofs.Places.{increasing, two, word_of, has_value, to_word}

-- a start leaves room for its sign
-- a shift by one and one by k drop what one shift by both drops
pub two_shifts : (m k j : ℕ) → k ≤ 64 → j ≡ 1 + k → m * 2 ^ 1 % 2 ^ 64 * 2 ^ k % 2 ^ 64 ≡ m * 2 ^ j % 2 ^ 64
two_shifts m k j h q =
    shl_out (m * 2 ^ 1 % 2 ^ 64) k h ∙ ap (λ (x : ℕ). x * 2 ^ k) kept ∙ sym (shl_out (m * 2 ^ 1) k h)
    ∙ ap (λ (x : ℕ). x % 2 ^ 64) (mul_assoc m (2 ^ 1) (2 ^ k) ∙ ap (λ (x : ℕ). m * x) (pow_sum 1 k j (sym q)))
  where
    kept : m * 2 ^ 1 % 2 ^ 64 % 2 ^ (64 - k) ≡ m * 2 ^ 1 % 2 ^ (64 - k)
    kept = ap (λ (i : ℕ). m * 2 ^ 1 % 2 ^ i % 2 ^ (64 - k)) whole ∙ mod-mod-pow (m * 2 ^ 1) k (64 - k)
      where
        whole : 64 ≡ k + (64 - k)
        whole = omega (arith, h)

module _ (n : ℕ) (lo : 2 ≤ n) (hi : n ≤ 64) where
  last : ℕ
  last = 2 ^ (n - 1) - 1

  place : (a b v : ℕ) → NearestPlace (grown n) (2 ^ (n - 1)) a b v → Nearest n false a b v
  unfolding word_of
  place a b v x = to_word n lo hi false a b v x

  top_lt : (v : ℕ) → v < 2 ^ (n - 1) → v * 2 ^ (64 - n) < 2 ^ 63
  top_lt v h = shl_below (n - 1) (64 - n) 63 h (omega arith)

  -- ---- past the ends
  -- from 2^255 on every size is beyond that of the largest word
  pub past_all : (i m : ℕ) (rest : Rest) → 254 < i → 2 ^ 63 ≤ m → (a b : ℕ) → zero < b → IsOffered m rest (pos i -ℤ pos 63) a b → grown n (2 ^ (n - 1) - 1) * b < a
  unfolding IsOffered num den
  past_all i m rest far full a b some offered = large (subst (λ (x : ℤ). Amounts m rest (a * den x) (num x * b)) (offset_up i) offered)
    where
      power : 2 ^ (255 + 307) ≤ m * 2 ^ (i + 244)
      power = le_trans (le_of_eq (sym (pow_sum 63 499 (255 + 307) refl))) (mul-le-mul full (pow_mono {i = 499} {j = i + 244} (omega (arith, far))))

      large : Amounts m rest (a * 1) (2 ^ (i + 244) * b) → grown n (2 ^ (n - 1) - 1) * b < a
      large x =
          lt_of_lt_of_le (mul-lt-mul_of_pos_right (lt_of_lt_of_le (lt_of_le_of_lt (le_of_eq (grown_suc n (2 ^ (n - 1) - 1) (omega (arith, two n lo hi)))) (size_below ((2 ^ (n - 1) - 1) * 2 ^ (64 - n)) (top_lt (2 ^ (n - 1) - 1) (omega (arith, two n lo hi))))) power) some)
          (le_trans (le_of_eq (mul_assoc m (2 ^ (i + 244)) b)) (le_trans (within m rest (2 ^ (i + 244) * b) (a * 1) (mul-pos (pow_pos (i + 244)) some) x).low (le_of_eq (mul-one a))))

  pub past_last : (i m : ℕ) (rest : Rest) → 254 < i → 2 ^ 63 ≤ m → IsNearest n (pos i) m rest (2 ^ (n - 1) - 1)
  unfolding IsNearest
  past_last i m rest far full = λ a b some offered.
      place a b (2 ^ (n - 1) - 1) (at_last (grown n) (2 ^ (n - 1)) a b (increasing n lo hi) some (2 ^ (n - 1) - 1) (omega (arith, two n lo hi)) (omega (arith, two n lo hi)) (le_of_lt (past_all i m rest far full a b some offered)))

  -- below 2^-255 every size is short of that of the smallest word, and none is zero
  pub before_all : (i m : ℕ) (rest : Rest) → 254 < i → 2 ^ 63 ≤ m → m < 2 ^ 64 → (a b : ℕ) → zero < b → IsOffered m rest (negsuc i -ℤ pos 63) a b → (zero < a) × (a < grown n 1 * b)
  unfolding IsOffered num den
  before_all i m rest far full top a b some offered = let x = subst (λ (x : ℤ). Amounts m rest (a * den x) (num x * b)) (offset_down i (omega (arith, far))) offered in
      (not_none a (lt_of_lt_of_le (mul-pos (lt_of_lt_of_le (pow_pos 63) full) (mul-pos (zero-lt-suc 0) some)) (within m rest (1 * b) (a * 2 ^ suc (i - 244)) (mul-pos (zero-lt-suc 0) some) x).low), small x)
    where
      not_none : (a : ℕ) → zero < a * 2 ^ suc (i - 244) → zero < a
      not_none zero h = absurd (omega (arith, h, zero-mul (2 ^ suc (i - 244))))
      not_none (suc a) h = zero-lt-suc a

      power : 2 ^ 64 ≤ grown n 1 * 2 ^ suc (i - 244)
      power = mul-le-mul {n₁ = 2 ^ 52} {m₁ = 2 ^ 12} (le_trans (size_above (1 * 2 ^ (64 - n)) (top_lt 1 (omega (arith, two n lo hi)))) (le_of_eq (sym (grown_suc n 1 (zero-lt-suc 0))))) (pow_mono {i = 12} {j = suc (i - 244)} (omega (arith, far)))

      small : Amounts m rest (a * 2 ^ suc (i - 244)) (1 * b) → a < grown n 1 * b
      small x =
          lt_of_mul-lt-mul_right (2 ^ suc (i - 244))
          (lt_of_lt_of_le (within m rest (1 * b) (a * 2 ^ suc (i - 244)) (mul-pos (zero-lt-suc 0) some) x).high
          (le_trans (le_trans (le_of_eq (ap (λ (y : ℕ). (m + 1) * y) (one-mul b))) (mul-le-mul_right b (le_trans (omega (arith, top)) power))) (le_of_eq (mul_right_comm (grown n 1) (2 ^ suc (i - 244)) b))))

  pub before_first : (i m : ℕ) (rest : Rest) → 254 < i → 2 ^ 63 ≤ m → m < 2 ^ 64 → IsNearest n (negsuc i) m rest 1
  unfolding IsNearest
  before_first i m rest far full top = λ a b some offered.
      place a b 1 (at_first (grown n) (2 ^ (n - 1)) a b (increasing n lo hi) some (omega (arith, two n lo hi)) (le_of_lt (before_all i m rest far full top a b some offered).1))

  -- ---- inside the range
  module _ (h : ℤ) (e m : ℕ) (rest : Rest) (start : Start) (is : IsRaised h e) (begins : Begins h start.bits start.r) (full : 2 ^ 63 ≤ m) (top : m < 2 ^ 64) (v : ℕ) (v_is : v ≡ first_bits start m / 2 ^ (64 - n)) where
    word : v ≡ floor_string start.bits (59 - start.r) m / 2 ^ (64 - n)
    word = v_is ∙ ap (λ (x : ℕ). x / 2 ^ (64 - n)) (floor_is start m begins.regime)

    module _ (a b : ℕ) (some : zero < b) (offered : IsOffered m rest (h -ℤ pos 63) a b) where
      low : zero < v → grown n v * b ≤ a
      low p =
          let K = binade_of h e start.bits start.r is begins in
          subst (λ (x : ℕ). grown n x * b ≤ a) (sym word) (word_low h e start.bits (59 - start.r) K.0 K.1 m full top rest a b some offered n lo hi (subst (λ (x : ℕ). zero < x) word p))

      high : suc v < 2 ^ (n - 1) → a ≤ grown n (suc v) * b
      high p =
          let K = binade_of h e start.bits start.r is begins in
          subst (λ (x : ℕ). a ≤ grown n (suc x) * b) (sym word) (le_of_lt (word_high h e start.bits (59 - start.r) K.0 K.1 m full top rest a b some offered n lo hi (subst (λ (x : ℕ). suc x < 2 ^ (n - 1)) word p)))

    pub below_end : v < 2 ^ (n - 1)
    below_end =
        let K = binade_of h e start.bits start.r is begins in
        subst (λ (x : ℕ). x < 2 ^ (n - 1)) (sym word) (shr_lt (n - 1) (64 - n) (subst (λ (x : ℕ). floor_string start.bits (59 - start.r) m < 2 ^ x) length (floor_lt h e start.bits (59 - start.r) K.0 K.1 m full top)))
      where
        length : 63 ≡ n - 1 + (64 - n)
        length = omega arith

    pub at_zero : v ≡ 0 → IsNearest n h m rest 1
    unfolding IsNearest
    at_zero q = λ a b some offered.
        place a b 1 (at_first (grown n) (2 ^ (n - 1)) a b (increasing n lo hi) some (omega (arith, two n lo hi)) (subst (λ (x : ℕ). a ≤ grown n (suc x) * b) q (high a b some offered (omega (arith, q, two n lo hi)))))

    pub at_end : v ≡ 2 ^ (n - 1) - 1 → IsNearest n h m rest v
    unfolding IsNearest
    at_end q = λ a b some offered. place a b v (at_last (grown n) (2 ^ (n - 1)) a b (increasing n lo hi) some v (omega (arith, q, two n lo hi)) (omega (arith, q, two n lo hi)) (low a b some offered (omega (arith, q, two n lo hi))))

    module _ (first : zero < v) (room : suc v < 2 ^ (n - 1)) where
      tells : (side : Ordering) → TellsMidpoint n v e m rest side → (a b : ℕ) → zero < b → IsOffered m rest (h -ℤ pos 63) a b → TellsSide side (2 * a) (grown n v * b + grown n (suc v) * b)
      unfolding TellsMidpoint word_of
      tells side t a b some offered =
          subst (TellsSide side (2 * a)) (add-mul (grown n v) (grown n (suc v)) b)
          (t h a b (grown n v) (grown n (suc v)) is some offered (has_value n lo hi false v first (omega (arith, room))) (subst (HasValue n false (grown n (suc v))) (sym (add-one v)) (has_value n lo hi false (suc v) (zero-lt-suc v) room)))

      side_under : TellsMidpoint n v e m rest Ordering.Less → IsNearest n h m rest v
      unfolding IsNearest TellsSide
      side_under t = λ a b some offered.
          place a b v (nearer_below (grown n) (2 ^ (n - 1)) a b (increasing n lo hi) some v first room (low a b some offered first) (high a b some offered room) (tells Ordering.Less t a b some offered))

      side_midway : TellsMidpoint n v e m rest Ordering.Equal → IsNearest n h m rest (v + v % 2)
      unfolding IsNearest TellsSide
      side_midway t = λ a b some offered.
          place a b (v + v % 2) (midway (grown n) (2 ^ (n - 1)) a b (increasing n lo hi) some v first room (low a b some offered first) (high a b some offered room) (tells Ordering.Equal t a b some offered))

      side_over : TellsMidpoint n v e m rest Ordering.Greater → IsNearest n h m rest (v + 1)
      unfolding IsNearest TellsSide
      side_over t = λ a b some offered.
          subst (Nearest n false a b) (sym (add-one v))
          (place a b (suc v) (nearer_above (grown n) (2 ^ (n - 1)) a b (increasing n lo hi) some v first room (low a b some offered first) (high a b some offered room) (tells Ordering.Greater t a b some offered)))

      -- the word that the side chooses
      pub by_side : (w : ℕ) (side : Ordering) → TellsMidpoint n v e m rest side → w ≡ chosen_of v side → IsNearest n h m rest w
      by_side w Ordering.Less t q = subst (IsNearest n h m rest) (sym q) (side_under t)
      by_side w Ordering.Equal t q = subst (IsNearest n h m rest) (sym q) (side_midway t)
      by_side w Ordering.Greater t q = subst (IsNearest n h m rest) (sym q) (side_over t)

      -- the word with what the side is told by
      pub given : Given n v e m start
      given =
          record {
            lo = lo;
            hi = hi;
            first = first;
            room = omega (arith, room);
            full = full;
            top = top;
            is = v_is;
            begins = λ h' q. subst (λ (z : ℤ). Begins z start.bits start.r) (raised_same h h' e is q) begins;
          }

      -- where the cut falls before the fraction
      pub by_powers : (i j : ℕ) → n < 5 + start.r → IsRaised (c 64 (v * 2 ^ (64 - n))) i → IsRaised (c 64 ((v + 1) * 2 ^ (64 - n))) j → (w : ℕ) (side : Ordering) → TellsPowers i j e m rest side → w ≡ chosen_of v side → IsNearest n h m rest w
      by_powers i j short i_is j_is w side t q = by_side w side (coarse_tells n v e m start given short i j i_is j_is rest side t) q

      -- and where it falls in the fraction
      pub by_cut : 5 + start.r ≤ n → (w : ℕ) → ChoosesByCut v (m * 2 ^ (n - start.r - 4) % 2 ^ 64) rest w → IsNearest n h m rest w
      by_cut fine w t = let x = fine_cut n v e m start given rest w fine t in by_side w x.0 x.1 x.2
