-- Every whole number up to the exact-count limit has a word, and the limit plus one has none, nor has any odd number past the limit. Assumes nothing.
use mathlib.Core.Path.{◌≡◌, refl, sym, ap, ◌∙◌, subst}
use mathlib.Core.Bool.{Bool}
use Prim.Native.Nat.{ℕ, zero, suc, ◌+◌, ◌-◌, ◌*◌, ◌%◌, ◌^◌, ◌≤◌, ◌<◌}
use native.Mathlib.Nat.{zero-lt-suc, le_trans, le_of_eq, le_of_lt, le_of_suc-le-suc, lt_of_le_of_lt, mul-pos, mul-one, mul-le-mul_left, mod-lt, two-pow-succ}
use native.Mathlib.Numerals.{add-one}
use native.Mathlib.Omega.{arith}
use lib.Count.{count_leading_zeros}
use lib.Dec.{lit<, lit≤, ltb}
use lib.IntN.{ℤ, pos, negsuc, ◌+ℤ◌, ◌-ℤ◌}
use lib.Pow.{pow_pos}
use Rattle.bounds.specs.Widths.{Within, Greatest, greatest, none, IsLimit}
use Rattle.bounds.proofs.Powers.{Log, leading_log, shl_below}
use Rattle.bounds.proofs.Limits.{below_power, exponent_lt, within, exponent_small}
use Rattle.sizes.specs.declared.size.Size.{Size}
use Rattle.word.specs.Reads.{num, den, IsSize}
use Rattle.sizes.specs.Sizes.{without_sign}
use Rattle.word.specs.Takum.{p, F, c}
use Rattle.nearest.specs.Nearest.{HasValue}
use Rattle.round.proofs.Rules.{zero_value}
use Rattle.round.proofs.Sized.{has_form}
use Rattle.whole.specs.Limits as promise
use Rattle.whole.proofs.LimitBinades.{beginning}
use Rattle.whole.proofs.LimitStrings.{whole_bits}
use Rattle.whole.proofs.LimitBeyond.{odd_at_most, ends_in_one, odd_ends_in_one}
use Rattle.whole.proofs.WordLengths.{wide_enough, width_needed}

-- every number but 0 has its logarithm
log_of : (a : ℕ) → zero < a → (L : ℕ) × Log L a
log_of a some = (a - 1 - count_leading_zeros a a, (leading_log a a some (below_power a)).1)

-- ---- the rule of the limit's exponent
pub at_most : (n : ℕ) {v : ℕ} → Greatest n v → (u : ℕ) → Within n u → u ≤ v
at_most n (greatest x f) u y = f u y
at_most n (none f) u y = absurd (f u y)

-- below the greatest every number but 0 is one of the rule
downward : (n : ℕ) {v : ℕ} → Greatest n v → (u : ℕ) → zero < u → u ≤ v → Within n u
downward n (greatest x f) u some le = within n u x.L some (subst (λ (k : ℕ). u < 2 ^ k) (add-one x.L) (omega (arith, le, x.log_high))) (omega (arith, le, x.bound))
downward n (none f) u some le = absurd (omega (arith, some, le))

-- all bits of a whole number from 2^h to 2^(h + 1), the last one of value 1, counted in 2^-307
unit : (h i : ℕ) → i * 2 ^ (h - h + 307) ≡ i * 2 ^ 307
unit h i = let none : h - h + 307 ≡ 307 = omega arith in ap (λ (x : ℕ). i * 2 ^ x) none

module _ (n : ℕ) (lo : 2 ≤ n) (hi : n ≤ 64) where
  -- ---- up to the limit
  -- 1 has a word at every width, also where no number is one of the rule: its bits end in three zeros
  one_has_a_word : (s : Bool) → (w : ℕ) × HasValue n s (1 * 2 ^ 307) w
  unfolding whole_bits beginning
  one_has_a_word s = wide_enough n lo hi 0 0 0 1 1 3 (record { low = lit≤ tt; high = lit< tt }) (lit< tt) (lit≤ tt) (lit≤ tt) (lit≤ tt) refl (lit≤ tt) (omega (arith, lo)) s

  module _ (v : ℕ) (g : Greatest n v) where
    -- from 2^h to 2^(h + 1), where h + 1 is a number of the rule
    has_a_word : (h i : ℕ) → Within n (suc h) → 2 ^ h ≤ i → i ≤ 2 ^ suc h → (s : Bool) → (w : ℕ) × HasValue n s (i * 2 ^ 307) w
    has_a_word h i x low high s =
        subst (λ (z : ℕ). (w : ℕ) × HasValue n s z w) (unit h i)
        (wide_enough n lo hi x.L h h i (whole_bits x.L h h i) 0 log (omega (arith, x.bound, hi)) (le_of_eq refl) low high (sym (mul-one (whole_bits x.L h h i))) (omega (arith, x.bound, hi)) (omega (arith, x.bound)) s)
      where
        log : Log x.L (suc h)
        log = record { low = x.log_low; high = subst (λ (k : ℕ). suc h < 2 ^ k) (add-one x.L) x.log_high }

    -- h is the logarithm of i - 1, so that the limit itself is the end of a binade
    up_to : (i : ℕ) → i ≤ 2 ^ v → (s : Bool) → (w : ℕ) × HasValue n s (i * 2 ^ 307) w
    up_to zero le s = (0, zero_value n lo hi s)
    up_to (suc zero) le s = one_has_a_word s
    up_to (suc (suc j)) le s =
        let t = log_of (suc j) (zero-lt-suc j) in
        has_a_word t.0 (suc (suc j)) (downward n g (suc t.0) (zero-lt-suc t.0) (exponent_lt t.0 v (omega (arith, t.1.low, le)))) (omega (arith, t.1.low)) t.1.high s

    -- ---- and beyond it: no whole number from 2^h to 2^(h + 1) whose bits end in 1, for h + 1 would be one of the rule
    none_beyond : (h i : ℕ) → v ≤ h → h < 64 → 2 ^ h ≤ i → i ≤ 2 ^ suc h → ((ρ : ℕ) → Log ρ (suc h) → whole_bits ρ h h i % 2 ≡ 1) → (s : Bool) (w : ℕ) → HasValue n s (i * 2 ^ 307) w → ⊥
    none_beyond h i past small low high ends s w x =
        let t = log_of (suc h) (zero-lt-suc h) in
        let needed : 5 + h + t.0 ≤ n + 0 = width_needed n lo hi t.0 h h i (whole_bits t.0 h h i) 0 t.1 small (le_of_eq refl) low high (sym (mul-one (whole_bits t.0 h h i))) (ends t.0 t.1) s w (subst (λ (z : ℕ). HasValue n s z w) (sym (unit h i)) x) in
        omega (arith, past, at_most n g (suc h) (within n (suc h) t.0 (zero-lt-suc h) t.1.high (omega (arith, needed))))

    beyond : (s : Bool) (w : ℕ) → HasValue n s ((2 ^ v + 1) * 2 ^ 307) w → ⊥
    beyond = none_beyond v (2 ^ v + 1) (le_of_eq refl) (exponent_small n hi g) (omega arith) (omega (arith, pow_pos v, two-pow-succ v)) (λ ρ log. ends_in_one ρ v log)

    odd_beyond : (i : ℕ) → i % 2 ≡ 1 → 2 ^ v < i → i < 2 ^ 64 → (s : Bool) (w : ℕ) → HasValue n s (i * 2 ^ 307) w → ⊥
    odd_beyond i odd past small = let t = log_of i (omega arith) in by t.0 t.1
      where
        by : (h : ℕ) → Log h i → (s : Bool) (w : ℕ) → HasValue n s (i * 2 ^ 307) w → ⊥
        by zero k = absurd (omega (arith, k.high, past, pow_pos v))
        by (suc h) k = none_beyond (suc h) i (le_of_suc-le-suc (exponent_lt v (suc (suc h)) (omega (arith, past, k.high)))) (exponent_lt (suc h) 64 (omega (arith, k.low, small))) k.low (le_of_lt k.high) (λ ρ l. odd_ends_in_one ρ (suc h) h i k.low odd)

pub every_whole_number_up_to_the_limit_has_a_word : promise.EveryWholeNumberUpToTheLimitHasAWord
unfolding promise.EveryWholeNumberUpToTheLimitHasAWord
every_whole_number_up_to_the_limit_has_a_word n l lo hi x i le = up_to n lo hi x.v x.is i (subst (λ (k : ℕ). i ≤ k) x.limit le)

pub the_limit_plus_one_has_no_word : promise.TheLimitPlusOneHasNoWord
unfolding promise.TheLimitPlusOneHasNoWord
the_limit_plus_one_has_no_word n l lo hi x s w y = beyond n lo hi x.v x.is s w (subst (λ (k : ℕ). HasValue n s ((k + 1) * 2 ^ 307) w) x.limit y)

-- ---- an odd whole number that a word has is below 2^64: the significand of the word's size is at least as large
module _ (n : ℕ) (lo : 2 ≤ n) (hi : n ≤ 64) (s : Bool) (i w : ℕ) (odd : i % 2 ≡ 1) (value : HasValue n s (i * 2 ^ 307) w) where
  string : ℕ
  string = without_sign (2 ^ 63) (w * 2 ^ (64 - n))

  significand : ℕ
  significand = 2 ^ 63 + F 64 string * 2 ^ (63 - p 64 string)

  significand_below : significand < 2 ^ 64
  unfolding significand F p
  significand_below = omega (arith, shl_below (p 64 string) (63 - p 64 string) 63 (mod-lt string (pow_pos (p 64 string))) (omega arith))

  at_most_significand : (e : ℤ) → significand * num e ≡ i * 2 ^ 307 * den e → i ≤ significand
  unfolding num den
  at_most_significand (pos k) q = odd_at_most significand i k 307 odd (q ∙ mul-one (i * 2 ^ 307))
  at_most_significand (negsuc k) q = le_trans (le_mul i (2 ^ 307) (pow_pos 307)) (le_trans (le_mul (i * 2 ^ 307) (2 ^ suc k) (pow_pos (suc k))) (le_of_eq (sym q ∙ mul-one significand)))
    where
      le_mul : (a b : ℕ) → zero < b → a ≤ a * b
      le_mul a b some = subst (λ (x : ℕ). x ≤ a * b) (mul-one a) (mul-le-mul_left a some)

  odd_below : i < 2 ^ 64
  unfolding IsSize string significand
  odd_below =
      let x : Size = record { negative = ltb (2 ^ 63) (w * 2 ^ (64 - n)); h = c 64 string; m = significand } in
      let t = has_form n lo hi s (i * 2 ^ 307) w (mul-pos {m = i} {n = 2 ^ 307} (omega (arith, odd)) (pow_pos 307)) value x (record { sign = refl; characteristic = refl; significand = refl }) in
      lt_of_le_of_lt (at_most_significand (c 64 string -ℤ pos 63 +ℤ pos 307) t.1) significand_below

pub no_odd_number_past_the_limit_has_a_word : (n l : ℕ) → 2 ≤ n → n ≤ 64 → IsLimit n l → (i : ℕ) → i % 2 ≡ 1 → l < i → (s : Bool) (w : ℕ) → HasValue n s (i * 2 ^ 307) w → ⊥
no_odd_number_past_the_limit_has_a_word n l lo hi x i odd past s w y = odd_beyond n lo hi x.v x.is i odd (subst (λ (k : ℕ). k < i) x.limit past) (odd_below n lo hi s i w odd y) s w y
