-- The laws of one rounded and one strict word: there is exactly one, a word's own value gives it back, and the ends. Assumes nothing.
use Rattle.std.specs.Prelude.{Ok, Err}
use Rattle.bounds.specs.Refusals.{Answer}
use mathlib.Core.Path.{◌≡◌, refl, sym, ap, ap₂, ◌∙◌, subst, subst₂}
use mathlib.Core.Bool.{Bool, true, false, not}
use Prim.Native.Nat.{ℕ, zero, suc, ◌+◌, ◌-◌, ◌*◌, ◌%◌, ◌^◌, ◌≤◌, ◌<◌}
use native.Mathlib.Nat.{zero-mul, lt_of_not-le, eq_of_mul-eq-mul_right, add-mul, mul-le-mul_right, le_of_lt, le_of_eq, le_trans}
use native.Mathlib.Decide.{dec_le}
use native.Mathlib.Omega.{arith}
use Rattle.word.specs.Orders.{negated}
use Rattle.bounds.proofs.Powers.{twice}
use Rattle.word.proofs.Signed.{negated_zero, negated_other}
use Rattle.word.proofs.Values.{grown, words_differ}
use Rattle.word.specs.Takum.{real}
use Rattle.word.specs.Reads.{signed_size}
use Rattle.round.specs.declared.value.Rule.{Rule}
use Rattle.nearest.specs.Nearest.{HasValue, Nearest}
use Rattle.round.specs.Writes.{IsRounded, zero, other, IsExact, IsWritten}
use Rattle.nearest.proofs.Nearest.{at_first, at_last, nearer_above, midway}
use Rattle.nearest.proofs.Places.{increasing, not_decreasing, two, word_of, Place, place_of, value_is, to_word, from_word, nearest_exists, nearest_one}
use Rattle.round.proofs.Rules.{zero_value}
use Rattle.round.proofs.Signs.{exact_nearest}

module _ (n : ℕ) (lo : 2 ≤ n) (hi : n ≤ 64) where
  -- ---- exactly one rounded word
  pub rounded_exists : (s : Bool) (a b : ℕ) → 0 < b → (w : ℕ) × IsRounded n s a b w
  rounded_exists s a b some = by (dec_le a 0)
    where
      by : Dec (a ≤ 0) → (w : ℕ) × IsRounded n s a b w
      by (yes h) = (0, zero (omega (arith, h)) refl)
      by (no f) = let t = nearest_exists n lo hi s a b some in (t.0, other (lt_of_not-le f) t.1)

  pub rounded_one : (s : Bool) (a b w w' : ℕ) → 0 < b → IsRounded n s a b w → IsRounded n s a b w' → w ≡ w'
  rounded_one s a b w w' some (zero q e) (zero q' e') = e ∙ sym e'
  rounded_one s a b w w' some (zero q e) (other h x) = absurd (omega (arith, q, h))
  rounded_one s a b w w' some (other h x) (zero q e) = absurd (omega (arith, q, h))
  rounded_one s a b w w' some (other h x) (other h' y) = nearest_one n lo hi s a b w w' some x y

  -- never zero, never NaR
  pub rounded_not_zero_nor_NaR : (s : Bool) (a b w : ℕ) → Nearest n s a b w → (w ≡ 0 → ⊥) × (w ≡ 2 ^ (n - 1) → ⊥)
  unfolding word_of
  rounded_not_zero_nor_NaR s a b w x = let t = from_word n lo hi s a b w x in by s t.0 t.1.first t.1.last t.2
    where
      by : (s : Bool) (v : ℕ) → 0 < v → v < 2 ^ (n - 1) → w ≡ word_of n s v → (w ≡ 0 → ⊥) × (w ≡ 2 ^ (n - 1) → ⊥)
      by false v f l q = (λ e. omega (arith, f, q, e), λ e. omega (arith, l, q, e))
      by true v f l q = (λ e. omega (arith, f, l, q, e, twice n lo), λ e. omega (arith, l, q, e, twice n lo))

  -- ---- past either end the end word
  pub past_the_largest : (s : Bool) (z a b w : ℕ) → 0 < b → HasValue n false z (2 ^ (n - 1) - 1) → z * b ≤ a → Nearest n s a b w → w ≡ word_of n s (2 ^ (n - 1) - 1)
  past_the_largest s z a b w some is h x =
      nearest_one n lo hi s a b w (word_of n s (2 ^ (n - 1) - 1)) some x
      (to_word n lo hi s a b (2 ^ (n - 1) - 1) (at_last (grown n) (2 ^ (n - 1)) a b (increasing n lo hi) some (2 ^ (n - 1) - 1) (omega (arith, two n lo hi)) (omega (arith, two n lo hi)) (subst (λ (y : ℕ). y * b ≤ a) (value_is n lo hi z (2 ^ (n - 1) - 1) (omega (arith, two n lo hi)) (omega (arith, two n lo hi)) is) h)))

  pub before_the_smallest : (s : Bool) (z a b w : ℕ) → 0 < b → HasValue n false z 1 → a ≤ z * b → Nearest n s a b w → w ≡ word_of n s 1
  before_the_smallest s z a b w some is h x =
      nearest_one n lo hi s a b w (word_of n s 1) some x
      (to_word n lo hi s a b 1 (at_first (grown n) (2 ^ (n - 1)) a b (increasing n lo hi) some (omega (arith, two n lo hi)) (subst (λ (y : ℕ). a ≤ y * b) (value_is n lo hi z 1 (omega arith) (omega (arith, two n lo hi)) is) h)))

  -- ---- between two neighbouring positive words
  module _ (v z z' a b : ℕ) (some : 0 < b) (first : 0 < v) (room : suc v < 2 ^ (n - 1)) (is : HasValue n false z v) (next : HasValue n false z' (suc v)) where
    low_is : z ≡ grown n v
    low_is = value_is n lo hi z v first (omega (arith, room)) is

    high_is : z' ≡ grown n (suc v)
    high_is = value_is n lo hi z' (suc v) (omega arith) room next

    rise : z * b ≤ z' * b
    rise = mul-le-mul_right b (le_of_lt (subst₂ (λ (x y : ℕ). x < y) (sym low_is) (sym high_is) ((increasing n lo hi) v (suc v) first (le_of_eq refl) room)))

    -- midway, the even one of them
    pub tie_nearest : 2 * a ≡ (z + z') * b → Nearest n false a b (v + v % 2)
    unfolding word_of
    tie_nearest q =
        let sum : 2 * a ≡ z * b + z' * b = q ∙ add-mul z z' b in
        to_word n lo hi false a b (v + v % 2)
        (midway (grown n) (2 ^ (n - 1)) a b (increasing n lo hi) some v first room (subst (λ (x : ℕ). x * b ≤ a) low_is (omega (arith, sum, rise))) (subst (λ (x : ℕ). a ≤ x * b) high_is (omega (arith, sum, rise)))
        (sum ∙ ap₂ (λ (x y : ℕ). x * b + y * b) low_is high_is))

    -- past midway, the upper one
    pub over_nearest : (z + z') * b < 2 * a → a ≤ z' * b → Nearest n false a b (suc v)
    unfolding word_of
    over_nearest l h =
        to_word n lo hi false a b (suc v)
        (nearer_above (grown n) (2 ^ (n - 1)) a b (increasing n lo hi) some v first room (subst (λ (x : ℕ). x * b ≤ a) low_is (omega (arith, l, rise))) (subst (λ (x : ℕ). a ≤ x * b) high_is h)
        (subst₂ (λ (x y : ℕ). x * b + y * b < 2 * a) low_is high_is (omega (arith, l))))

    -- no word has a value between theirs
    pub none_between : z * b < a → a < z' * b → (w : ℕ) → IsExact n false a b w → ⊥
    none_between l h w x = by (dec_le t.v v)
      where
        positive : (y : ℕ) → y * b ≡ a → 0 < y
        positive zero q = absurd (omega (arith, q, l, zero-mul b))
        positive (suc i) q = omega arith

        t : Place n lo hi false x.z w
        t = place_of n lo hi false x.z w (positive x.z x.same) x.is

        by : Dec (t.v ≤ v) → ⊥
        by (yes p) = omega (arith, l, x.same, mul-le-mul_right b (le_trans (le_of_eq t.size_is) (le_trans (not_decreasing n lo hi t.v v t.first p (omega (arith, room))) (le_of_eq (sym low_is)))))
        by (no f) = omega (arith, h, x.same, mul-le-mul_right b (le_trans (le_of_eq high_is) (le_trans (not_decreasing n lo hi (suc v) t.v (omega arith) (lt_of_not-le f) t.last) (le_of_eq (sym t.size_is)))))

  -- ---- with the other sign, the negated word
  pub nearest_negated : (s : Bool) (a b w : ℕ) → Nearest n s a b w → Nearest n (not s) a b (negated n w)
  unfolding word_of
  nearest_negated s a b w x =
      let t = from_word n lo hi s a b w x in
      subst (Nearest n (not s) a b) (sym (ap (negated n) t.2 ∙ by s t.0 t.1.first t.1.last)) (to_word n lo hi (not s) a b t.0 t.1)
    where
      by : (s : Bool) (v : ℕ) → 0 < v → v < 2 ^ (n - 1) → negated n (word_of n s v) ≡ word_of n (not s) v
      by false v f l = negated_other n v f (omega (arith, l, twice n lo))
      by true v f l = negated_other n (2 ^ n - v) (omega (arith, l, twice n lo)) (omega (arith, f, l, twice n lo)) ∙ omega (arith, l, twice n lo)

  pub rounded_negated : (s : Bool) (a b w : ℕ) → IsRounded n s a b w → IsRounded n (not s) a b (negated n w)
  rounded_negated s a b w (zero q e) = zero q (ap (negated n) e ∙ negated_zero n)
  rounded_negated s a b w (other h x) = other h (nearest_negated s a b w x)

  -- ---- a value that has a word
  pub exact_rounded : (s : Bool) (a b w : ℕ) → 0 < b → IsExact n s a b w → IsRounded n s a b w
  exact_rounded s a b w some x = by (dec_le a 0)
    where
      none : (z : ℕ) → z * b ≡ 0 → z ≡ 0
      none z q = eq_of_mul-eq-mul_right b some z 0 (q ∙ sym (zero-mul b))

      by : Dec (a ≤ 0) → IsRounded n s a b w
      by (yes h) =
          let a_zero : a ≡ 0 = omega (arith, h) in
          zero a_zero (words_differ n w 0 x.is.word (zero_value n lo hi s).word (x.is.means ∙ ap (λ (z : ℕ). real (signed_size s z)) (none x.z (x.same ∙ a_zero)) ∙ sym (zero_value n lo hi s).means))
      by (no f) = other (lt_of_not-le f) (exact_nearest n lo hi a b (lt_of_not-le f) some s w x)

  -- whatever the rule, it is written as that word
  pub exact_written : (rule : Rule) (s : Bool) (a b w : ℕ) (r : Answer ℕ) → 0 < b → IsExact n s a b w → IsWritten n rule s a b r → r ≡ Ok w
  unfolding IsWritten
  exact_written Rule.Rounded s a b w (Ok v) some x y = ap Ok (rounded_one s a b v w some y (exact_rounded s a b w some x))
  exact_written Rule.Rounded s a b w (Err q) some x y = absurd y
  exact_written Rule.Strict s a b w (Ok v) some x y = ap Ok (rounded_one s a b v w some (exact_rounded s a b v some y) (exact_rounded s a b w some x))
  exact_written Rule.Strict s a b w (Err q) some x y = absurd (y.1 w x)

  -- two answers of a rule are the same
  pub written_one : (rule : Rule) (s : Bool) (a b : ℕ) (r r' : Answer ℕ) → 0 < b → IsWritten n rule s a b r → IsWritten n rule s a b r' → r ≡ r'
  unfolding IsWritten
  written_one Rule.Rounded s a b (Ok w) (Ok w') some x y = ap Ok (rounded_one s a b w w' some x y)
  written_one Rule.Rounded s a b (Ok w) (Err q) some x y = absurd y
  written_one Rule.Rounded s a b (Err q) r some x y = absurd x
  written_one Rule.Strict s a b (Ok w) r some x y = sym (exact_written Rule.Strict s a b w r some x y)
  written_one Rule.Strict s a b (Err q) (Ok w) some x y = absurd (x.1 w y)
  written_one Rule.Strict s a b (Err q) (Err q') some x y = ap Err (x.0 ∙ sym y.0)
