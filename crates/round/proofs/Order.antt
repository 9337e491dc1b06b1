-- Rounding keeps the order of values: a value that is not greater has a word that is not greater. Assumes nothing.
use mathlib.Core.Path.{◌≡◌, refl, sym, ap, ap₂, ◌∙◌}
use mathlib.Core.Bool.{Bool, true, false, true≢false, cond}
use Prim.Native.Nat.{ℕ, zero, suc, ◌+◌, ◌-◌, ◌*◌, ◌^◌, ◌≤◌, ◌<◌, zero-le, suc-le-suc}
use native.Mathlib.Nat.{zero-mul, mul-pos, lt_of_not-le, le_of_eq, le_of_lt, le_trans, eq_of_mul-eq-mul_right, mul-lt-mul_of_pos_right}
use native.Mathlib.Decide.{dec_le}
use native.Mathlib.Omega.{arith}
use borrow.Author.Tests.{lt-ltb, le-ltb, ltb-true}
use lib.IntN.{ℤ, pos, negsuc, nat_abs, pos-ne-negsuc}
use lib.Pow.{pow_pos}
use lib.Signed.{lt_z}
use Rattle.bounds.proofs.Powers.{not_more, twice}
use Rattle.word.specs.Orders.{signed, order}
use Rattle.word.specs.Reads.{signed_size}
use Rattle.word.proofs.Signed.{signed_low, signed_high, order_above}
use Rattle.word.proofs.Values.{grown, grown_lt, no_sign, order_kept}
use Rattle.round.specs.Writes.{IsRounded, zero, other}
use Rattle.nearest.proofs.Nearest.{NearestPlace, place_order}
use Rattle.nearest.proofs.Places.{word_of, from_word}

-- ---- the order of signed sizes
greater : (x y : ℤ) → order x y ≡ pos 1 → lt_z y x ≡ true
unfolding order
greater x y = by (lt_z x y) (lt_z y x)
  where
    by : (c d : Bool) → cond c (negsuc 0) (cond d (pos 1) (pos 0)) ≡ pos 1 → d ≡ true
    by true d q = absurd (pos-ne-negsuc 1 0 (sym q))
    by false true q = refl
    by false false q = absurd (omega (arith, ap nat_abs q))

pub both_positive : (v v' : ℕ) → v ≤ v' → order (pos v) (pos v') ≡ pos 1 → ⊥
both_positive v v' h q = omega (arith, h, ltb-true v' v (greater (pos v) (pos v') q))

pub both_negative : (v v' : ℕ) → v' ≤ v → order (signed_size true v) (signed_size true v') ≡ pos 1 → ⊥
unfolding signed_size
both_negative zero v' h q = omega (arith, ltb_true_at v' h q)
  where
    ltb_true_at : (v' : ℕ) → v' ≤ 0 → order (pos 0) (signed_size true v') ≡ pos 1 → 1 ≤ 0
    ltb_true_at zero h q = ltb-true 0 0 (greater (pos 0) (pos 0) q)
    ltb_true_at (suc i) h q = absurd (omega (arith, h))
both_negative (suc i) zero h q = absurd (true≢false (sym (greater (negsuc i) (pos 0) q)))
both_negative (suc i) (suc j) h q = omega (arith, h, ltb-true i j (greater (negsuc i) (negsuc j) q))

pub apart : (v v' : ℕ) → order (signed_size true v) (pos v') ≡ pos 1 → ⊥
unfolding signed_size
apart zero v' q = omega (arith, ltb-true v' 0 (greater (pos 0) (pos v') q))
apart (suc i) v' q = absurd (true≢false (sym (greater (negsuc i) (pos v') q)))

-- and what it tells of the sizes
abbrev pub NotGreater : ℤ → ℤ → Type 0
NotGreater x y = order x y ≡ pos 1 → ⊥

pub positive_sizes : (v v' : ℕ) → NotGreater (pos v) (pos v') → v ≤ v'
positive_sizes v v' f = not_more (λ (h : v' < v). f (order_above (pos v) (pos v') (le-ltb v v' (le_of_lt h)) (lt-ltb v' v h)))

pub negative_sizes : (v v' : ℕ) → NotGreater (signed_size true v) (signed_size true v') → v' ≤ v
unfolding signed_size
negative_sizes v zero f = zero-le
negative_sizes zero (suc j) f = absurd (f (order_above (pos 0) (negsuc j) refl refl))
negative_sizes (suc i) (suc j) f = suc-le-suc (not_more (λ (h : i < j). f (order_above (negsuc i) (negsuc j) (le-ltb j i (le_of_lt h)) (lt-ltb i j h))))

pub nothing_left : (v v' : ℕ) → NotGreater (pos v) (signed_size true v') → (v ≡ 0) × (v' ≡ 0)
unfolding signed_size
nothing_left v zero f = (omega (arith, positive_sizes v 0 f), refl)
nothing_left v (suc j) f = absurd (f (order_above (pos v) (negsuc j) refl refl))

module _ (n : ℕ) (lo : 2 ≤ n) (hi : n ≤ 64) where
  -- the place of a rounded word, nothing for zero
  record At (s : Bool) (a b w : ℕ) : Type 0 where
    v : ℕ
    word : signed n w ≡ signed_size s v
    place : (0 < a) → NearestPlace (grown n) (2 ^ (n - 1)) a b v
    none : a ≡ 0 → v ≡ 0

  signed_word : (s : Bool) (v : ℕ) → 0 < v → v < 2 ^ (n - 1) → signed n (word_of n s v) ≡ signed_size s v
  unfolding word_of signed_size
  signed_word false v f l = signed_low n v l
  signed_word true (suc i) f l = signed_high n (2 ^ n - suc i) (omega (arith, l, twice n lo)) (omega (arith, l, twice n lo)) ∙ ap negsuc (omega (arith, l, twice n lo))
  signed_word true zero f l = absurd (omega (arith, f))

  at : (s : Bool) (a b w : ℕ) → IsRounded n s a b w → At s a b w
  unfolding signed_size
  at s a b w (zero q e) = record { v = 0; word = ap (signed n) e ∙ signed_low n 0 (pow_pos (n - 1)) ∙ sym (no_sign s); place = λ h. absurd (omega (arith, h, q)); none = λ _. refl }
  at s a b w (other h x) =
      let t = from_word n lo hi s a b w x in
      record { v = t.0; word = ap (signed n) t.2 ∙ signed_word s t.0 t.1.first t.1.last; place = λ _. t.1; none = λ q. absurd (omega (arith, q, h)) }

  -- the places are in the order of the sizes
  places : (s s' : Bool) (a b a' b' w w' : ℕ) → 0 < b → 0 < b' → a * b' ≤ a' * b → (x : At s a b w) (y : At s' a' b' w') → x.v ≤ y.v
  places s s' a b a' b' w w' some some' h x y = by (dec_le a 0) (dec_le a' 0)
    where
      by : Dec (a ≤ 0) → Dec (a' ≤ 0) → x.v ≤ y.v
      by (yes p) d = le_trans (le_of_eq (x.none (omega (arith, p)))) zero-le
      by (no f) (yes q) = absurd (omega (arith, h, mul-pos (lt_of_not-le f) some', none_left q))
        where
          none_left : a' ≤ 0 → a' * b ≡ 0
          none_left q = let none : a' ≡ 0 = omega (arith, q) in ap (λ (y : ℕ). y * b) none ∙ zero-mul b
      by (no f) (no e) = place_order (grown n) (2 ^ (n - 1)) a b a' b' (λ v u p l r. grown_lt n v u lo hi l r) some some' h x.v y.v (x.place (lt_of_not-le f)) (y.place (lt_of_not-le e))

  no_factor : (a b : ℕ) → 0 < b → a * b ≡ 0 → a ≡ 0
  no_factor a b some q = eq_of_mul-eq-mul_right b some a 0 (q ∙ sym (zero-mul b))

  pub rounding_keeps_order : (s s' : Bool) (a b a' b' w w' : ℕ) → 0 < b → 0 < b' → IsRounded n s a b w → IsRounded n s' a' b' w' → NotGreater (signed_size s (a * b')) (signed_size s' (a' * b)) → NotGreater (signed n w) (signed n w')
  unfolding signed_size
  rounding_keeps_order s s' a b a' b' w w' some some' x y h q =
      by s s' h (at s a b w x) (at s' a' b' w' y) q
    where
      by : (s s' : Bool) → NotGreater (signed_size s (a * b')) (signed_size s' (a' * b)) → (x : At s a b w) (y : At s' a' b' w') → order (signed n w) (signed n w') ≡ pos 1 → ⊥
      by false false h x y q = both_positive x.v y.v (places false false a b a' b' w w' some some' (positive_sizes (a * b') (a' * b) h) x y) (sym (ap₂ order x.word y.word) ∙ q)
      by true true h x y q = both_negative x.v y.v (places true true a' b' a b w' w some' some (negative_sizes (a * b') (a' * b) h) y x) (sym (ap₂ order x.word y.word) ∙ q)
      by true false h x y q = apart x.v y.v (sym (ap₂ order x.word y.word) ∙ q)
      by false true h x y q =
          let t = nothing_left (a * b') (a' * b) h in
          both_positive 0 0 (le_of_eq refl) (sym (ap₂ order (x.word ∙ ap pos (x.none (no_factor a b' some' t.0))) (y.word ∙ ap (signed_size true) (y.none (no_factor a' b some t.1)))) ∙ q)

-- both sizes times a number, and the order is the same
pub order_times : (s s' : Bool) (v v' k : ℕ) → 0 < k → order (signed_size s v) (signed_size s' v') ≡ order (signed_size s (v * k)) (signed_size s' (v' * k))
order_times s s' v v' k some = order_kept (λ (x : ℕ). x * k) (suc (v + v')) (zero-mul k) (λ a b h l. mul-lt-mul_of_pos_right h some) s s' v v' (omega arith) (omega arith)
