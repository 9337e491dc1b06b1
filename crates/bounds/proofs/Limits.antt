-- The exponent of the exact-count limit from one logarithm: with k = floor(log2 (n - 4)) it is n - 4 - k, or one more where that is below 2^k. Assumes nothing.
use mathlib.Core.Path.{sym, subst}
use Prim.Native.Nat.{ℕ, zero, suc, ◌+◌, ◌-◌, ◌^◌, ◌≤◌, ◌<◌}
use native.Mathlib.Nat.{le_of_suc-le-suc, lt_of_not-le, two-pow-succ}
use native.Mathlib.Numerals.{add-one}
use native.Mathlib.Omega.{arith}
use lib.Count.{leading_top}
use lib.Dec.{lit<}
use lib.Pow.{pow_pos, pow_mono}
use Rattle.bounds.specs.Widths.{Within, Greatest, greatest, none}
use Rattle.bounds.proofs.Powers.{not_more}

pub below_power : (k : ℕ) → k < 2 ^ k
below_power zero = lit< tt
below_power (suc k) = omega (arith, below_power k, two-pow-succ k)

-- every number but 0 has its logarithm
pub log : (a : ℕ) → zero < a → (L : ℕ) × (2 ^ L ≤ a) × (a < 2 ^ suc L)
log a h = let t = leading_top a a h (below_power a) in (t.0, t.2, t.3)

-- a smaller power has the smaller exponent
pub exponent_lt : (i j : ℕ) → 2 ^ i < 2 ^ j → i < j
exponent_lt i j h = lt_of_not-le (λ (g : j ≤ i). not_both (pow_mono g) h)
  where
    not_both : {a b : ℕ} → a ≤ b → b < a → ⊥
    not_both p q = omega arith

pub within : (n v bound : ℕ) → zero < v → v < 2 ^ suc bound → v + bound + 4 ≤ n → Within n v
within n v bound h b fits =
    let t = log v h in
    record {
      L = t.0;
      log_low = t.1;
      log_high = subst (λ (x : ℕ). v < 2 ^ x) (sym (add-one t.0)) t.2;
      bound = small t.0 (le_of_suc-le-suc (exponent_lt t.0 (suc bound) (omega (arith, t.1, b))));
    }
  where
    small : (L : ℕ) → L ≤ bound → v + L + 4 ≤ n
    small L q = omega (arith, q, fits)

pub none_within : (n : ℕ) → n < 5 → Greatest n 0
none_within n h = none (λ (u : ℕ) (w : Within n u). omega (arith, w.log_low, w.bound, h, pow_pos w.L))

-- a number of the rule that is at least 2^j leaves room for j
short : (n u j : ℕ) → Within n u → 2 ^ j ≤ u → u + j + 4 ≤ n
short n u j w h = omega (arith, w.bound, le_of_suc-le-suc (exponent_lt j (suc w.L) (subst (λ (x : ℕ). 2 ^ j < 2 ^ x) (add-one w.L) (omega (arith, h, w.log_high)))))

pub one_more : (n k : ℕ) → 5 ≤ n → 2 ^ k ≤ n - 4 → n - 4 - k + 1 < 2 ^ k → Greatest n (n - 4 - k + 1)
one_more n zero five low h = absurd (omega (arith, five, h))
one_more n (suc j) five low h =
    greatest (within n (n - 4 - suc j + 1) j (omega arith) h (omega (arith, five, low, below_power (suc j))))
    (λ (u : ℕ) (w : Within n u). not_more (λ (g : n - 4 - suc j + 1 < u). omega (arith, short n u j w (omega (arith, g, low, below_power j, two-pow-succ j)), g, five, low, below_power (suc j))))

pub no_more : (n k : ℕ) → 5 ≤ n → 2 ^ k ≤ n - 4 → n - 4 < 2 ^ suc k → 2 ^ k ≤ n - 4 - k + 1 → Greatest n (n - 4 - k)
no_more n k five low high h =
    greatest (within n (n - 4 - k) k (omega (arith, low, below_power k)) (omega (arith, high)) (omega (arith, five, low, below_power k)))
    (λ (u : ℕ) (w : Within n u). not_more (λ (g : n - 4 - k < u). omega (arith, short n u k w (omega (arith, g, h)), g, low, below_power k)))

-- the exponent is far below 64
pub exponent_small : (n : ℕ) {v : ℕ} → n ≤ 64 → Greatest n v → v < 64
exponent_small n h (greatest w f) = omega (arith, w.bound, h)
exponent_small n h (none f) = lit< tt
