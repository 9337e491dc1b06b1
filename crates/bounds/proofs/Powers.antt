-- Powers of two by the sum of their exponents, the exponents being known only by an equation, and one fact of order. Assumes nothing.
use mathlib.Core.Path.{◌≡◌, sym, ap, ap₂, ◌∙◌, subst}
use Prim.Native.Nat.{ℕ, zero, suc, ◌+◌, ◌-◌, ◌*◌, ◌/◌, ◌%◌, ◌^◌, ◌≤◌, ◌<◌}
use native.Mathlib.Nat.{div-lt_iff_lt-mul, lt_of_not-le, le_of_suc-le-suc, one-mul, mul-mod_left}
use native.Mathlib.Omega.{arith}
use lib.Count.{count_leading_zeros, leading_top}
use lib.Dec.{lit<}
use lib.Pow.{pow-add, pow_pos, shl_lt, shl_exact, shl-shr, high, ones_split, ones_lt, mod-pow-add}

-- not less, so at most
pub not_more : {a b : ℕ} → ¬ (a < b) → b ≤ a
not_more f = le_of_suc-le-suc (lt_of_not-le f)

pub pow_sum : (a b c : ℕ) → a + b ≡ c → 2 ^ a * 2 ^ b ≡ 2 ^ c
pow_sum a b c h = sym (pow-add 2 a b) ∙ ap (λ (x : ℕ). 2 ^ x) h

-- NaR's word twice
pub twice : (n : ℕ) → 2 ≤ n → 2 ^ (n - 1) * 2 ≡ 2 ^ n
twice n lo = pow_sum (n - 1) 1 n (omega (arith, lo))

pub shl_below : {x : ℕ} (a b c : ℕ) → x < 2 ^ a → a + b ≡ c → x * 2 ^ b < 2 ^ c
shl_below {x} a b c h q = subst (λ (n : ℕ). x * 2 ^ b < 2 ^ n) q (shl_lt a b h)

-- all ones, shifted right
pub ones_shr : (a b c : ℕ) → a + b ≡ c → (2 ^ c - 1) / 2 ^ b ≡ 2 ^ a - 1
ones_shr a b c q = ap (λ (n : ℕ). (2 ^ n - 1) / 2 ^ b) (sym q) ∙ ap (λ (n : ℕ). n / 2 ^ b) (ones_split a b) ∙ high (2 ^ a - 1) b (ones_lt b)

-- a number from which a shift leaves nothing
pub shr_none : (n w : ℕ) → w / 2 ^ n ≡ 0 → w < 2 ^ n
shr_none n w h = omega (arith, (div-lt_iff_lt-mul {x = w} {y = 1} (pow_pos n)).0 (omega (arith, h)))

-- 1 << l in a number of b bits
pub one_shl : (b l : ℕ) → l < b → 1 * 2 ^ l % 2 ^ b ≡ 2 ^ l
one_shl b l h = shl_exact {a = 1} 1 l b (lit< tt) (omega (arith, h)) ∙ one-mul (2 ^ l)

-- a shift to the left in 64 bits loses the bits at the top
pub shl_mod : (m j k : ℕ) → m * 2 ^ k % 2 ^ (j + k) ≡ m % 2 ^ j * 2 ^ k
shl_mod m j k = mod-pow-add (m * 2 ^ k) j k ∙ ap₂ (λ (x y : ℕ). x % 2 ^ j * 2 ^ k + y) (shl-shr m k) (mul-mod_left m (2 ^ k)) ∙ omega arith

pub shl_out : (m k : ℕ) → k ≤ 64 → m * 2 ^ k % 2 ^ 64 ≡ m % 2 ^ (64 - k) * 2 ^ k
shl_out m k h = ap (λ (j : ℕ). m * 2 ^ k % 2 ^ j) whole ∙ shl_mod m (64 - k) k
  where
    whole : 64 ≡ 64 - k + k
    whole = omega (arith, h)

-- leading zeros give floor(log2 a), which is k
pub record Log (k a : ℕ) : Type 0 where
  pub low : 2 ^ k ≤ a
  pub high : a < 2 ^ suc k

pub leading_log : (b a : ℕ) → zero < a → a < 2 ^ b → (count_leading_zeros b a < b) × Log (b - 1 - count_leading_zeros b a) a
leading_log b a h fits =
    let t = leading_top b a h fits in
    let same : b - 1 - count_leading_zeros b a ≡ t.0 = omega (arith, t.1) in
    (omega (arith, t.1), record { low = subst (λ (k : ℕ). 2 ^ k ≤ a) (sym same) t.2; high = subst (λ (k : ℕ). a < 2 ^ suc k) (sym same) t.3 })
