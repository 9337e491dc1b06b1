-- The size of a word with sign 0 that stands at the top of 64 bits: its head's start and a step for each unit of its tail. Sizes strictly
-- increase with the word, across fractions, characteristics, regimes and the direction bit alike. Assumes nothing.
use mathlib.Core.Path.{◌≡◌, sym, ap, ap₂, ◌∙◌, subst}
use mathlib.Core.Logic.{⊎_elim}
use Prim.Native.Nat.{ℕ, zero, suc, ◌+◌, ◌-◌, ◌*◌, ◌/◌, ◌%◌, ◌^◌, ◌≤◌, ◌<◌, zero-le}
use native.Mathlib.Nat.{mod-lt, eq-or-lt_of_le, le_of_suc-le-suc, not-suc-le-zero, lt_trans, le_of_eq, le_of_lt, lt_of_le_of_lt, le-pred_of_lt, mul-lt-mul_of_pos_right, mul_right_comm, suc-mul}
use native.Mathlib.Numerals.{add-one}
use native.Mathlib.Omega.{arith}
use lib.Dec.{lit<}
use lib.Pow.{high, low, split, pow_pos}
use Rattle.word.specs.Takum.{p, F}
use Rattle.word.proofs.Heads.{k, next, first, last}

-- the head g starts at lead g, and s of its 2^52 steps further on is
unfoldable pub lead : ℕ → ℕ
lead g = 2 ^ p 12 g + F 12 g

unfoldable pub onward : ℕ → ℕ → ℕ
onward g s = (lead g * 2 ^ 52 + s) * 2 ^ k g

unfoldable pub size : ℕ → ℕ
size u = onward (u / 2 ^ 52) (u % 2 ^ 52)

-- the end of a head is the start of the next one
inside : (g s : ℕ) → s < 2 ^ 52 → size (g * 2 ^ 52 + s) ≡ onward g s
unfolding size
inside g s h = ap₂ onward (high g 52 h) (low g 52 h)

pub seam : (g s : ℕ) → s ≤ 2 ^ 52 → g * 2 ^ 52 + s < 2 ^ 63 → size (g * 2 ^ 52 + s) ≡ onward g s
unfolding onward lead
seam g s h b = ⊎_elim at_end (λ (q : s < 2 ^ 52). inside g s q) (eq-or-lt_of_le h)
  where
    scaled : (a b x y : ℕ) → a * x ≡ (b + 1) * y → (a * 2 ^ 52 + 0) * x ≡ (b * 2 ^ 52 + 2 ^ 52) * y
    scaled a b x y q = omega (arith, q)

    at_end : s ≡ 2 ^ 52 → size (g * 2 ^ 52 + s) ≡ onward g s
    at_end q =
        ap size (omega (arith, q)) ∙ inside (suc g) 0 (lit< tt)
        ∙ scaled (lead (suc g)) (lead g) (2 ^ k (suc g)) (2 ^ k g) (next g (omega (arith, q, b))) ∙ ap (onward g) (sym q)

-- the next word is one step up
pub size_next : (u : ℕ) → suc u < 2 ^ 63 → size (suc u) ≡ size u + 2 ^ k (u / 2 ^ 52)
unfolding onward size
size_next u h =
    ap size up ∙ seam (u / 2 ^ 52) (suc (u % 2 ^ 52)) (mod-lt u (lit< tt)) (subst (λ (v : ℕ). v < 2 ^ 63) up h)
    ∙ more (lead (u / 2 ^ 52) * 2 ^ 52) (u % 2 ^ 52) (2 ^ k (u / 2 ^ 52))
  where
    up : suc u ≡ u / 2 ^ 52 * 2 ^ 52 + suc (u % 2 ^ 52)
    up = omega (arith, split u 52)

    more : (a b c : ℕ) → (a + suc b) * c ≡ (a + b) * c + c
    more a b c = omega arith

step : (u : ℕ) → suc u < 2 ^ 63 → size u < size (suc u)
step u h = omega (arith, size_next u h, pow_pos (k (u / 2 ^ 52)))

pub size_lt : (u v : ℕ) → u < v → v < 2 ^ 63 → size u < size v
size_lt u zero h b = absurd (not-suc-le-zero h)
size_lt u (suc v) h b =
    ⊎_elim (λ (q : u ≡ v). subst (λ (x : ℕ). size x < size (suc v)) (sym q) (step v b)) (λ (q : u < v). lt_trans (size_lt u v q (omega (arith, b))) (step v b))
    (eq-or-lt_of_le (le_of_suc-le-suc h))

-- two sizes are in the order of their words
pub size_le : (u v : ℕ) → u ≤ v → v < 2 ^ 63 → size u ≤ size v
size_le u v h b = ⊎_elim (λ (q : u ≡ v). le_of_eq (ap size q)) (λ (q : u < v). le_of_lt (size_lt u v q b)) (eq-or-lt_of_le h)

-- every size is at least 2^-255 and below 2^255, counted in 2^-307
pub size_above : (u : ℕ) → u < 2 ^ 63 → 2 ^ 52 ≤ size u
unfolding onward lead
size_above u h = subst (λ (x : ℕ). x ≤ size u) (inside 0 0 (lit< tt) ∙ start) (size_le 0 u zero-le h)
  where
    start : onward 0 0 ≡ 2 ^ 52
    start = omega (arith, first)

pub size_below : (u : ℕ) → u < 2 ^ 63 → size u < 2 ^ (255 + 307)
unfolding onward lead
size_below u h =
    lt_of_le_of_lt (size_le u (2 ^ 63 - 1) (le-pred_of_lt h) (lit< tt))
    (subst (λ (x : ℕ). size (2 ^ 63 - 1) < x) (end (lead 2047) (2 ^ k 2047) last)
    (subst (λ (x : ℕ). x < onward 2047 (2 ^ 52)) (sym (inside 2047 (2 ^ 52 - 1) (lit< tt)))
    (mul-lt-mul_of_pos_right {m = lead 2047 * 2 ^ 52 + (2 ^ 52 - 1)} {n = lead 2047 * 2 ^ 52 + 2 ^ 52} (omega arith) (pow_pos (k 2047)))))
  where
    end : (a x : ℕ) → (a + 1) * x ≡ 2 ^ 510 → (a * 2 ^ 52 + 2 ^ 52) * x ≡ 2 ^ (255 + 307)
    end a x q = ap (λ (y : ℕ). y * x) (sym (suc-mul a (2 ^ 52)) ∙ ap (λ (y : ℕ). y * 2 ^ 52) (sym (add-one a))) ∙ mul_right_comm (a + 1) (2 ^ 52) x ∙ ap (λ (y : ℕ). y * 2 ^ 52) q
