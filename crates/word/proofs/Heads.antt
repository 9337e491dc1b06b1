-- The head of a word, its first twelve bits: what Definition 2 gives at each of them, by computed tests over the 2,048 heads with
-- sign 0 and their complements. Assumes nothing.
use mathlib.Core.Path.{◌≡◌, refl, sym, subst}
use mathlib.Core.Bool.{Bool, true, false, ◌&&◌}
use mathlib.Core.Logic.{⊎_elim}
use Prim.Native.Nat.{ℕ, zero, suc, ◌+◌, ◌-◌, ◌*◌, ◌^◌, ◌<◌}
use native.Mathlib.Nat.{not-suc-le-zero, eq-or-lt_of_le, le_of_suc-le-suc}
use lib.Dec.{T, eqb, eqb→eq}
use lib.IntN.{ℤ, pos, nat_abs, ◌+ℤ◌, ◌-ℤ◌}
use lib.Signed.{non_neg, pos-nat_abs}
use Rattle.word.specs.Takum.{regime_of, characteristic_of, S, D, R, r, p, C, F, c, e}

-- ---- a test at every number below a bound
abbrev pub below : (ℕ → Bool) → ℕ → Bool
below f zero = true
below f (suc n) = f n && below f n

pub both : (a b : Bool) → T (a && b) → T a × T b
both true b t = (tt, t)
both false b t = absurd t

pub at_each : (f : ℕ → Bool) (n : ℕ) → T (below f n) → (i : ℕ) → i < n → T (f i)
at_each f zero t i h = absurd (not-suc-le-zero h)
at_each f (suc n) t i h =
    ⊎_elim (λ (q : i ≡ n). subst (λ (m : ℕ). T (f m)) (sym q) (both (f n) (below f n) t).0) (λ (q : i < n). at_each f n (both (f n) (below f n) t).1 i q)
    (eq-or-lt_of_le (le_of_suc-le-suc h))

-- ---- what is tested
-- the exponent of the last of 64 bits, counted from 2^-307: e - (p + 52) + 307
place : ℕ → ℤ
place G = e 12 G -ℤ pos (p 12 G) +ℤ pos 255

pub k : ℕ → ℕ
k g = nat_abs (place g)

pub scale : (G : ℕ) → G < 4096 → e 12 G -ℤ pos (p 12 G) +ℤ pos 255 ≡ pos (k G)
unfolding place k regime_of characteristic_of S D R r p C F c e
scale G h = sym (pos-nat_abs (place G) (at_each (λ (G : ℕ). non_neg (place G)) 4096 tt G h))

-- Definition 2 at a head g with sign 0 and at its complement 4095 - g
pub record Head (g : ℕ) : Type 0 where
  pub sign : S 12 g ≡ 0
  pub sign' : S 12 (4095 - g) ≡ 1
  pub scale' : k (4095 - g) ≡ k g
  pub regime' : r 12 (4095 - g) ≡ r 12 g
  pub fraction' : F 12 (4095 - g) + F 12 g + 1 ≡ 2 ^ p 12 g

pub head : (g : ℕ) → g < 2048 → Head g
unfolding place k regime_of characteristic_of S D R r p C F c e
head g h =
    record {
      sign = eqb→eq (S 12 g) 0 (at_each (λ (g : ℕ). eqb (S 12 g) 0) 2048 tt g h);
      sign' = eqb→eq (S 12 (4095 - g)) 1 (at_each (λ (g : ℕ). eqb (S 12 (4095 - g)) 1) 2048 tt g h);
      scale' = eqb→eq (k (4095 - g)) (k g) (at_each (λ (g : ℕ). eqb (k (4095 - g)) (k g)) 2048 tt g h);
      regime' = eqb→eq (r 12 (4095 - g)) (r 12 g) (at_each (λ (g : ℕ). eqb (r 12 (4095 - g)) (r 12 g)) 2048 tt g h);
      fraction' =
          eqb→eq (F 12 (4095 - g) + F 12 g + 1) (2 ^ p 12 g)
          (at_each (λ (g : ℕ). eqb (F 12 (4095 - g) + F 12 g + 1) (2 ^ p 12 g)) 2048 tt g h);
    }

-- the next head starts where this one ends
pub next : (g : ℕ) → suc g < 2048 → (2 ^ p 12 (suc g) + F 12 (suc g)) * 2 ^ k (suc g) ≡ (2 ^ p 12 g + F 12 g + 1) * 2 ^ k g
unfolding place k regime_of characteristic_of S D R r p C F c e
next g h =
    eqb→eq ((2 ^ p 12 (suc g) + F 12 (suc g)) * 2 ^ k (suc g)) ((2 ^ p 12 g + F 12 g + 1) * 2 ^ k g)
    (at_each (λ (g : ℕ). eqb ((2 ^ p 12 (suc g) + F 12 (suc g)) * 2 ^ k (suc g)) ((2 ^ p 12 g + F 12 g + 1) * 2 ^ k g)) 2047 tt g (le_of_suc-le-suc h))

-- the first and the last place
pub first : (2 ^ p 12 0 + F 12 0) * 2 ^ k 0 ≡ 1
unfolding place k regime_of characteristic_of S D R r p C F c e
first = refl

pub last : (2 ^ p 12 2047 + F 12 2047 + 1) * 2 ^ k 2047 ≡ 2 ^ 510
unfolding place k regime_of characteristic_of S D R r p C F c e
last = refl
