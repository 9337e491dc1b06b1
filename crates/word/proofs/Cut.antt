-- A word is a head and a tail: the fields of a string of 12 + j bits are those of its first twelve, and its fraction goes on with the other j. So zeros
-- appended to a string leave its fields, and its fraction goes on with them. Assumes nothing.
use mathlib.Core.Path.{◌≡◌, refl, sym, ap, ap₂, ◌∙◌}
use mathlib.Core.Bool.{Bool, true, false, cond}
use Prim.Native.Nat.{ℕ, ◌+◌, ◌-◌, ◌*◌, ◌/◌, ◌%◌, ◌^◌, ◌≤◌, ◌<◌}
use native.Mathlib.Nat.{mod-lt}
use native.Mathlib.Omega.{arith}
use lib.Dec.{lit<, eqb}
use lib.Pow.{pow_pos, pow-add, split, high, low, shr-shr, mod-pow-add}
use Rattle.bounds.proofs.Powers.{shl_below, shl_mod}
use Rattle.word.specs.Takum.{regime_of, S, D, R, r, p, C, F, c, e}

-- the regime is at most 7
pub regime_le : (n T : ℕ) → r n T ≤ 7
unfolding r R regime_of
regime_le n T = by (eqb (D n T) 1) (R n T) (omega (arith, mod-lt (T / 2 ^ (n - 5)) {m = 8} (lit< tt)))
  where
    by : (b : Bool) (x : ℕ) → x < 8 → cond b x (7 - x) ≤ 7
    by true x h = omega arith
    by false x h = omega arith

module _ (j G t : ℕ) (tail : t < 2 ^ j) where
  -- a shift that takes away the tail and more leaves what the same shift leaves of the head
  shift : (i q : ℕ) → i ≡ j + q → (G * 2 ^ j + t) / 2 ^ i ≡ G / 2 ^ q
  shift i q h = ap (λ (i : ℕ). (G * 2 ^ j + t) / 2 ^ i) h ∙ sym (shr-shr (G * 2 ^ j + t) j q) ∙ ap (λ (x : ℕ). x / 2 ^ q) (high G j tail)

  pub S_head : S (12 + j) (G * 2 ^ j + t) ≡ S 12 G
  unfolding S
  S_head = shift (12 + j - 1) 11 (omega arith)

  D_head : D (12 + j) (G * 2 ^ j + t) ≡ D 12 G
  unfolding D
  D_head = ap (λ (x : ℕ). x % 2) (shift (12 + j - 2) 10 (omega arith))

  R_head : R (12 + j) (G * 2 ^ j + t) ≡ R 12 G
  unfolding R
  R_head = ap (λ (x : ℕ). x % 8) (shift (12 + j - 5) 7 (omega arith))

  pub r_head : r (12 + j) (G * 2 ^ j + t) ≡ r 12 G
  unfolding r
  r_head = ap₂ regime_of D_head R_head

  pub p_head : p (12 + j) (G * 2 ^ j + t) ≡ p 12 G + j
  unfolding p
  p_head = ap (λ (x : ℕ). 12 + j - x - 5) r_head ∙ more
    where
      more : 12 + j - r 12 G - 5 ≡ 12 - r 12 G - 5 + j
      more = omega (arith, regime_le 12 G)

  C_head : C (12 + j) (G * 2 ^ j + t) ≡ C 12 G
  unfolding C
  C_head = ap₂ (λ (x q : ℕ). x % 2 ^ q) (shift (p (12 + j) (G * 2 ^ j + t)) (p 12 G) (p_head ∙ omega arith)) r_head

  pub F_head : F (12 + j) (G * 2 ^ j + t) ≡ F 12 G * 2 ^ j + t
  unfolding F
  F_head =
      ap (λ (q : ℕ). (G * 2 ^ j + t) % 2 ^ q) p_head ∙ mod-pow-add (G * 2 ^ j + t) (p 12 G) j
      ∙ ap₂ (λ (x y : ℕ). x % 2 ^ p 12 G * 2 ^ j + y) (high G j tail) (low G j tail)

  pub c_head : c (12 + j) (G * 2 ^ j + t) ≡ c 12 G
  unfolding c
  c_head = rw (D_head, r_head, C_head)

  pub e_head : e (12 + j) (G * 2 ^ j + t) ≡ e 12 G
  unfolding e
  e_head = rw (S_head, c_head)

-- ---- i zeros appended
module _ (n i T : ℕ) (long : 12 ≤ n) where
  j : ℕ
  j = n - 12

  G : ℕ
  G = T / 2 ^ j

  u : ℕ
  u = T % 2 ^ j

  tail : u < 2 ^ j
  unfolding u
  tail = mod-lt T (pow_pos j)

  length : n ≡ 12 + j
  unfolding j
  length = omega (arith, long)

  longer : n + i ≡ 12 + (j + i)
  unfolding j
  longer = omega (arith, long)

  string : T ≡ G * 2 ^ j + u
  unfolding G u
  string = sym (split T j)

  string' : T * 2 ^ i ≡ G * 2 ^ (j + i) + u * 2 ^ i
  string' = omega (arith, ap (λ (x : ℕ). x * 2 ^ i) string, ap (λ (x : ℕ). G * x) (pow-add 2 j i))

  tail' : u * 2 ^ i < 2 ^ (j + i)
  tail' = shl_below j i (j + i) tail refl

  -- a field of the head, before and after
  field_appended : {A : Type 0} (f : ℕ → ℕ → A) → ((k x : ℕ) → x < 2 ^ k → f (12 + k) (G * 2 ^ k + x) ≡ f 12 G) → f (n + i) (T * 2 ^ i) ≡ f n T
  field_appended f of_head = ap₂ f longer string' ∙ of_head (j + i) (u * 2 ^ i) tail' ∙ sym (ap₂ f length string ∙ of_head j u tail)

  pub S_appended : S (n + i) (T * 2 ^ i) ≡ S n T
  S_appended = field_appended S (λ k x h. S_head k G x h)

  pub r_appended : r (n + i) (T * 2 ^ i) ≡ r n T
  r_appended = field_appended r (λ k x h. r_head k G x h)

  pub c_appended : c (n + i) (T * 2 ^ i) ≡ c n T
  c_appended = field_appended c (λ k x h. c_head k G x h)

  pub p_appended : p (n + i) (T * 2 ^ i) ≡ p n T + i
  unfolding p
  p_appended = ap (λ (x : ℕ). n + i - x - 5) r_appended ∙ omega (arith, regime_le n T, long)

  pub F_appended : F (n + i) (T * 2 ^ i) ≡ F n T * 2 ^ i
  unfolding F
  F_appended = ap (λ (q : ℕ). T * 2 ^ i % 2 ^ q) p_appended ∙ shl_mod T (p n T) i
