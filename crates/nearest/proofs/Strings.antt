-- The strings of one binade: where they begin, their sizes are the significands one after the other, up to the next binade's first string.
-- So the first 64 bits of an offered size are the last string at or below it. Assumes nothing.
use mathlib.Core.Path.{◌≡◌, sym, ap, ap₂, ◌∙◌, subst}
use Prim.Native.Nat.{ℕ, zero, suc, ◌+◌, ◌-◌, ◌*◌, ◌/◌, ◌%◌, ◌^◌, ◌≤◌, ◌<◌}
use native.Mathlib.Nat.{mul-one, one-mul, zero-add, eq-or-lt_of_le, sub-le, lt_trans}
use native.Mathlib.Omega.{arith}
use mathlib.Core.Logic.{⊎_elim}
use borrow.Author.Tests.{ne_eqb}
use lib.Dec.{lit<, lit≤}
use lib.IntN.{ℤ, pos, ◌+ℤ◌, ◌-ℤ◌, nat_abs, +ℤ_idr}
use lib.Pow.{pow_pos, pow_mono, high, low}
use Rattle.word.specs.Takum as Takum
use Rattle.word.specs.Takum.{S, p, F, e}
use Rattle.bounds.proofs.Powers.{pow_sum, shr_none}
use Rattle.word.proofs.Integers.{balance, unbalance}
use Rattle.word.proofs.Heads.{k}
use Rattle.word.proofs.Sizes.{size, size_next}
use Rattle.word.proofs.Meaning.{value_at, string_positive, exponent_whole}
use Rattle.nearest.specs.Parts.{Begins, IsRaised}

-- three sizes one step apart, of which the first two are known
on : (W E a b c t : ℕ) → W ≡ t + 2 → b ≡ a + c → a ≡ (W + t) * E → b ≡ (W + (t + 1)) * E → b + c ≡ (W + W) * E
on W E a b c t q s x y = omega (arith, s, x, y, ap (λ (z : ℕ). z * E) q)

-- ---- the fields of the strings that begin with bits
module _ (h : ℤ) (bits P : ℕ) (begins : Begins h bits (59 - P)) (most : P ≤ 59) (f : ℕ) (inside : f < 2 ^ P) where
  same_P : 59 - (59 - P) ≡ P
  same_P = omega arith

  within : f < 2 ^ (59 - (59 - P))
  within = subst (λ (x : ℕ). f < 2 ^ x) (sym same_P) inside

  at : bits * 2 ^ (59 - (59 - P)) + f ≡ bits * 2 ^ P + f
  at = ap (λ (x : ℕ). bits * 2 ^ x + f) same_P

  sign : S 64 (bits * 2 ^ P + f) ≡ 0
  sign = ap (S 64) (sym at) ∙ begins.sign f within

  string_lt : bits * 2 ^ P + f < 2 ^ 63
  unfolding S
  string_lt = shr_none 63 (bits * 2 ^ P + f) sign

  pub string_regime : Takum.r 64 (bits * 2 ^ P + f) ≡ 59 - P
  string_regime = ap (Takum.r 64) (sym at) ∙ begins.has_regime f within

  count : p 64 (bits * 2 ^ P + f) ≡ P
  unfolding p
  count = ap (λ (x : ℕ). 64 - x - 5) string_regime ∙ omega arith

  fraction : F 64 (bits * 2 ^ P + f) ≡ f
  unfolding F
  fraction = ap (λ (x : ℕ). (bits * 2 ^ P + f) % 2 ^ x) count ∙ low bits P inside

  exponent : e 64 (bits * 2 ^ P + f) ≡ h
  unfolding e
  exponent = rw (ne_eqb (S 64 (bits * 2 ^ P + f)) 1 (λ (q : S 64 (bits * 2 ^ P + f) ≡ 1). omega (arith, q, sign))) (ap (Takum.c 64) (sym at) ∙ begins.has_characteristic f within)

-- the strings that begin with sign 0 and bits have P more bits, and the last of them stands for 2^K
pub record Binade (h : ℤ) (raised bits P K : ℕ) : Type 0 where
  pub is : IsRaised h raised
  pub begins : Begins h bits (59 - P)
  pub frac : 52 ≤ P
  pub most : P ≤ 59
  pub last : K + P ≡ raised + 52

-- there is such a K
pub binade_of : (h : ℤ) (raised bits r : ℕ) → IsRaised h raised → Begins h bits r → (K : ℕ) × Binade h raised bits (59 - r) K
unfolding IsRaised
binade_of h raised bits r is begins = (K, record { is = is; begins = moved; frac = omega (arith, begins.regime); most = short; last = last })
  where
    P : ℕ
    P = 59 - r

    short : P ≤ 59
    short = sub-le 59 r

    back : r ≡ 59 - P
    back = omega (arith, begins.regime)

    moved : Begins h (bits) (59 - P)
    moved = subst (λ (x : ℕ). Begins h (bits) x) back begins

    x : ℕ
    x = bits * 2 ^ P + 0

    whole : (K : ℕ) × (e 64 x -ℤ pos (p 64 x) +ℤ pos 307 ≡ pos K)
    whole = exponent_whole 64 x (lit≤ tt) (lit≤ tt) (lt_trans (string_lt h bits P moved short 0 (pow_pos P)) (lit< tt))

    K : ℕ
    K = whole.0

    total : K + P + 255 ≡ raised + 0 + 307
    total =
        unbalance h P 307 K (ap₂ (λ (z : ℤ) (y : ℕ). z -ℤ pos y +ℤ pos 307) (sym (exponent h bits P moved short 0 (pow_pos P))) (sym (count h bits P moved short 0 (pow_pos P))) ∙ whole.1) 0 255 raised
        (ap (λ (z : ℤ). z +ℤ pos 255) (+ℤ_idr h) ∙ is)

    last : K + P ≡ raised + 52
    last = omega (arith, total)

module _ (h : ℤ) (raised bits P K : ℕ) (binade : Binade h raised bits P K) where
  module _ (f : ℕ) (inside : f < 2 ^ P) where
    pub below_top : bits * 2 ^ P + f < 2 ^ 63
    below_top = string_lt h bits P binade.begins binade.most f inside

    scale : e 64 (bits * 2 ^ P + f) -ℤ pos P +ℤ pos 307 ≡ pos K
    unfolding IsRaised
    scale =
        ap (λ (z : ℤ). z -ℤ pos P +ℤ pos 307) (exponent h bits P binade.begins binade.most f inside)
        ∙ balance h 0 255 raised (ap (λ (z : ℤ). z +ℤ pos 255) (+ℤ_idr h) ∙ binade.is) P 307 K (omega (arith, binade.last))

    size_inside : size (bits * 2 ^ P + f) ≡ (2 ^ P + f) * 2 ^ K
    size_inside =
        ap size (sym (mul-one (bits * 2 ^ P + f)))
        ∙ ap nat_abs (sym (string_positive 52 0 (bits * 2 ^ P + f) (zero-add 52) below_top) ∙ value_at 64 (bits * 2 ^ P + f) 0 P f K (sign h bits P binade.begins binade.most f inside) (count h bits P binade.begins binade.most f inside) (fraction h bits P binade.begins binade.most f inside) scale)
        ∙ ap (λ (x : ℕ). (x + f) * 2 ^ K) (one-mul (2 ^ P))

  -- the end of the binade, one step past its last string
  size_end : bits * 2 ^ P + 2 ^ P < 2 ^ 63 → size (bits * 2 ^ P + 2 ^ P) ≡ (2 ^ P + 2 ^ P) * 2 ^ K
  size_end room =
      ap size up₃ ∙ size_next u₂ (omega (arith, room, up₃)) ∙ ap (λ (x : ℕ). size u₂ + 2 ^ k x) (sym same)
      ∙ sum
    where
      wide : 2 ^ P ≡ 2 ^ (P - 52) * 2 ^ 52
      wide = sym (pow_sum (P - 52) 52 P (omega (arith, binade.frac)))

      large : 2 ^ 52 ≤ 2 ^ P
      large = pow_mono binade.frac

      u₁ : ℕ
      u₁ = bits * 2 ^ P + (2 ^ P - 2)

      u₂ : ℕ
      u₂ = suc u₁

      up₃ : bits * 2 ^ P + 2 ^ P ≡ suc u₂
      up₃ = omega (arith, large)

      -- the last two strings have one head
      G : ℕ
      G = bits * 2 ^ (P - 52) + (2 ^ (P - 52) - 1)

      split_at : (d : ℕ) → d ≤ 2 ^ 52 → zero < d → bits * 2 ^ P + (2 ^ P - d) ≡ G * 2 ^ 52 + (2 ^ 52 - d)
      split_at d l some = omega (arith, l, some, large, wide, ap (λ (x : ℕ). bits * x) wide, pow_pos (P - 52))

      next : u₂ ≡ bits * 2 ^ P + (2 ^ P - 1)
      next = omega (arith, large)

      same : u₁ / 2 ^ 52 ≡ u₂ / 2 ^ 52
      same = ap (λ (x : ℕ). x / 2 ^ 52) (split_at 2 (lit≤ tt) (lit< tt)) ∙ high G 52 (lit< tt) ∙ sym (ap (λ (x : ℕ). x / 2 ^ 52) (next ∙ split_at 1 (lit≤ tt) (lit< tt)) ∙ high G 52 (lit< tt))

      inside_at : (d : ℕ) → zero < d → size (bits * 2 ^ P + (2 ^ P - d)) ≡ (2 ^ P + (2 ^ P - d)) * 2 ^ K
      inside_at d some = size_inside (2 ^ P - d) (omega (arith, some, pow_pos P))

      second : size u₂ ≡ (2 ^ P + (2 ^ P - 1)) * 2 ^ K
      second = ap size next ∙ inside_at 1 (lit< tt)

      sum : size u₂ + 2 ^ k (u₁ / 2 ^ 52) ≡ (2 ^ P + 2 ^ P) * 2 ^ K
      sum = on (2 ^ P) (2 ^ K) (size u₁) (size u₂) (2 ^ k (u₁ / 2 ^ 52)) (2 ^ P - 2) (omega (arith, large)) (size_next u₁ (omega (arith, room, up₃))) (inside_at 2 (lit< tt)) (second ∙ ap (λ (x : ℕ). (2 ^ P + x) * 2 ^ K) (omega (arith, large)))

  pub size_in_binade : (f : ℕ) → f ≤ 2 ^ P → bits * 2 ^ P + f < 2 ^ 63 → size (bits * 2 ^ P + f) ≡ (2 ^ P + f) * 2 ^ K
  size_in_binade f b room = ⊎_elim (λ (q : f ≡ 2 ^ P). subst (λ (x : ℕ). size (bits * 2 ^ P + x) ≡ (2 ^ P + x) * 2 ^ K) (sym q) (size_end (subst (λ (x : ℕ). bits * 2 ^ P + x < 2 ^ 63) q room))) (size_inside f) (eq-or-lt_of_le b)
