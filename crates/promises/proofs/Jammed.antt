-- No word lies between two neighbouring multiples of a unit, the lower one taking 64 bits or more: so of every size there the same is said. Assumes
-- nothing.
use mathlib.Core.Path.{◌≡◌, sym, ap, ◌∙◌}
use mathlib.Core.Bool.{Bool, true, false, cond}
use Prim.Native.Nat.{ℕ, ◌+◌, ◌*◌, ◌^◌, ◌≤◌, ◌<◌}
use native.Mathlib.Nat.{le_of_eq, le_of_lt, mul-le-mul_right, lt_of_mul-lt-mul_right, mul-one, zero-lt-suc}
use native.Mathlib.Decide.{dec_lt}
use native.Mathlib.Omega.{arith}
use borrow.Author.Tests.{lt-ltb, le-ltb}
use lib.IntN.{ℤ, pos, negsuc, neg_ℤ, ◌*ℤ◌, ◌+ℤ◌}
use Rattle.bounds.specs.declared.saying.Saying.{Saying}
use Rattle.bounds.specs.declared.saying.Saying.TheVariants.{Exact, Below, Above, PastTheEnd}
use Rattle.bounds.proofs.Powers.{not_more}
use Rattle.word.specs.Orders.{order}
use Rattle.word.specs.Reads.{num, den, signed_size}
use Rattle.word.proofs.Signed.{order_below, order_above}
use Rattle.word.proofs.Values.{real_inj, order_negated}
use Rattle.nearest.specs.Nearest.{HasValue}
use Rattle.nearest.specs.Sayings.{Against, IsPastTheEnd, beyond, short, Says}
use Rattle.nearest.proofs.Sayings.{signed_times}
use Rattle.round.specs.Jamming.{Between}
use Rattle.round.proofs.Finer.{no_word_between}
use Rattle.round.proofs.Jamming.{nonzero}

-- ---- the order of two sizes of one sign
less : (s : Bool) (p q : ℕ) → p < q → order (signed_size s p) (signed_size s q) ≡ cond s (pos 1) (negsuc 0)
unfolding signed_size
less false p q h = order_below (pos p) (pos q) (lt-ltb p q h)
less true p q h = order_negated (pos p) (pos q) ∙ ap neg_ℤ (order_below (pos p) (pos q) (lt-ltb p q h))

more : (s : Bool) (p q : ℕ) → q < p → order (signed_size s p) (signed_size s q) ≡ cond s (negsuc 0) (pos 1)
unfolding signed_size
more false p q h = order_above (pos p) (pos q) (le-ltb p q (le_of_lt h)) (lt-ltb q p h)
more true p q h = order_negated (pos p) (pos q) ∙ ap neg_ℤ (order_above (pos p) (pos q) (le-ltb p q (le_of_lt h)) (lt-ltb q p h))

-- ---- no word lies between y units and y + 1
module _ (n : ℕ) (lo : 2 ≤ n) (hi : n ≤ 64) (y : ℕ) (k : ℤ) (large : 2 ^ 63 ≤ y) where
  N : ℕ
  N = num (k +ℤ pos 307)

  D : ℕ
  D = den (k +ℤ pos 307)

  none_there : (s : Bool) (z w : ℕ) → HasValue n s z w → y * N < z * D → z * D < (y + 1) * N → ⊥
  unfolding N D
  none_there s z w is l u =
      let between : Between y k z 1 = record { low = omega (arith, l); high = omega (arith, u) } in
      no_word_between n lo hi s y k z 1 large (nonzero y k z 1 between) (zero-lt-suc 0) between w (record { z = z; is = is; same = mul-one z })

  -- what isn't below a size there is above y units, and what isn't above it is below y + 1
  over : (a b z : ℕ) → Between y k a b → a ≤ z * b → y * N < z * D
  unfolding N D
  over a b z x h = lt_of_mul-lt-mul_right b (omega (arith, x.low, mul-le-mul_right (den (k +ℤ pos 307)) h))

  under : (a b z : ℕ) → Between y k a b → z * b ≤ a → z * D < (y + 1) * N
  unfolding N D
  under a b z x h = lt_of_mul-lt-mul_right b (omega (arith, x.high, mul-le-mul_right (den (k +ℤ pos 307)) h))

  -- so a word is on the same side of any two
  module _ (a b a' b' : ℕ) (x : Between y k a b) (x' : Between y k a' b') where
    still_below : (s : Bool) (z w : ℕ) → HasValue n s z w → z * b < a → z * b' < a'
    still_below s z w is h = by (dec_lt (z * b') a')
      where
        by : Dec (z * b' < a') → z * b' < a'
        by (yes l) = l
        by (no f) = absurd (none_there s z w is (over a' b' z x' (not_more f)) (under a b z x (le_of_lt h)))

    still_above : (s : Bool) (z w : ℕ) → HasValue n s z w → a < z * b → a' < z * b'
    still_above s z w is h = by (dec_lt a' (z * b'))
      where
        by : Dec (a' < z * b') → a' < z * b'
        by (yes l) = l
        by (no f) = absurd (none_there s z w is (over a b z x (le_of_lt h)) (under a' b' z x' (not_more f)))

    not_there : (s : Bool) (z w : ℕ) → HasValue n s z w → z * b ≡ a → ⊥
    not_there s z w is q = none_there s z w is (over a b z x (le_of_eq (sym q))) (under a b z x (le_of_eq q))

    still_past : IsPastTheEnd n a b → IsPastTheEnd n a' b'
    still_past (beyond z is l) = beyond z is (still_below false z _ is l)
    still_past (short z is h l) = short z is (nonzero y k a' b' x') (still_above false z _ is l)

    same_order : (s : Bool) (z w : ℕ) → HasValue n s z w → order (signed_size s (z * b)) (signed_size s a) ≡ order (signed_size s (z * b')) (signed_size s a')
    same_order s z w is = by (dec_lt (z * b) a) (dec_lt a (z * b))
      where
        by : Dec (z * b < a) → Dec (a < z * b) → order (signed_size s (z * b)) (signed_size s a) ≡ order (signed_size s (z * b')) (signed_size s a')
        by (yes l) d = less s (z * b) a l ∙ sym (less s (z * b') a' (still_below s z w is l))
        by (no f) (yes l) = more s (z * b) a l ∙ sym (more s (z * b') a' (still_above s z w is l))
        by (no f) (no g) = absurd (not_there s z w is (omega (arith, not_more f, not_more g)))

    still_against : (s : Bool) (z w : ℕ) (way : ℤ) → HasValue n s z w → Against n s a b w way → Against n s a' b' w way
    still_against s z w way is h =
        let at_b : order (signed_size s (z * b)) (signed_size s a) ≡ order (h.x *ℤ pos b) (signed_size s a) = ap (λ (i : ℤ). order i (signed_size s a)) (sym (signed_times s z b) ∙ ap (λ (i : ℤ). i *ℤ pos b) (real_inj (sym is.means ∙ h.means))) in
        record { x = signed_size s z; means = is.means; is = ap (λ (i : ℤ). order i (signed_size s a')) (signed_times s z b') ∙ sym (same_order s z w is) ∙ at_b ∙ h.is }

-- ---- of two sizes there, the same is said
pub same_said : (n : ℕ) → 2 ≤ n → n ≤ 64 → (y : ℕ) (k : ℤ) → 2 ^ 63 ≤ y → (a b a' b' : ℕ) → Between y k a b → Between y k a' b' → (s : Bool) (z w : ℕ) (q : Saying) → HasValue n s z w → Says n s a b w q → Says n s a' b' w q
unfolding Says
same_said n lo hi y k large a b a' b' x x' s z w Exact is h = still_against n lo hi y k large a b a' b' x x' s z w (pos 0) is h
same_said n lo hi y k large a b a' b' x x' s z w Below is h = (λ p. h.0 (still_past n lo hi y k large a' b' a b x' x p), still_against n lo hi y k large a b a' b' x x' s z w (negsuc 0) is h.1)
same_said n lo hi y k large a b a' b' x x' s z w Above is h = (λ p. h.0 (still_past n lo hi y k large a' b' a b x' x p), still_against n lo hi y k large a b a' b' x x' s z w (pos 1) is h.1)
same_said n lo hi y k large a b a' b' x x' s z w PastTheEnd is h = still_past n lo hi y k large a b a' b' x x' h
