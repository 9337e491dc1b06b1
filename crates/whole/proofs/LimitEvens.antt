-- From width 5 up, every word whose size is at least the exact-count limit is an even whole number: its last bit stands for 2 or more. Assumes nothing.
use mathlib.Core.Path.{◌≡◌, refl, sym, ap, ap₂, ◌∙◌, subst, subst₂}
use mathlib.Core.Bool.{Bool, true, false, cond}
use Prim.Native.Nat.{ℕ, suc, ◌+◌, ◌-◌, ◌*◌, ◌/◌, ◌%◌, ◌^◌, ◌≤◌, ◌<◌}
use native.Mathlib.Nat.{mod-lt, div-eq_of_lt, mul-mod_left, one-mul, mul-one, mul_assoc, zero-add, zero-lt-suc, lt_trans, lt_of_lt_of_le, lt_of_le_of_lt, lt_of_not-le, le_of_eq, le_of_suc-le-suc, add-zero, mul-pos, two-pow-succ}
use native.Mathlib.Decide.{dec_le}
use native.Mathlib.Omega.{arith}
use borrow.Author.Tests.{ne_eqb}
use lib.Dec.{eqb, lit<, lit≤}
use lib.IntN.{ℤ, pos, nat_abs, ◌+ℤ◌, ◌-ℤ◌, +ℤ_idr, pos-ne-negsuc}
use lib.Pow.{pow_pos, pow-add, mod-pow-add}
use Rattle.bounds.specs.Widths.{Greatest, IsLimit}
use Rattle.bounds.proofs.Powers.{Log, not_more, pow_sum, shl_below}
use Rattle.bounds.proofs.Limits.{below_power, exponent_lt, within}
use Rattle.word.specs.Takum.{characteristic_of, S, D, r, p, C, F, c, e}
use Rattle.word.proofs.Integers.{balance}
use Rattle.word.proofs.Signed.{difference, short_by}
use Rattle.word.proofs.Cut.{regime_le}
use Rattle.word.proofs.Sizes.{size}
use Rattle.word.proofs.Meaning.{value_at, string_positive, exponent_whole}
use Rattle.word.proofs.Values.{grown_suc}
use Rattle.nearest.specs.Nearest.{HasValue}
use Rattle.nearest.proofs.Places.{Place, place_of}
use Rattle.whole.proofs.LimitWords.{at_most}

-- a characteristic that isn't negative gives the regime: r = floor(log2 (c + 1))
regime_of : (D r C m : ℕ) → C < 2 ^ r → characteristic_of D r C ≡ pos m → Log r (suc m)
unfolding characteristic_of
regime_of D r C m short = by (eqb D 1)
  where
    double : 2 ^ (r + 1) ≡ 2 ^ r * 2
    double = pow-add 2 r 1

    by : (b : Bool) → cond b (pos (2 ^ r) -ℤ pos 1 +ℤ pos C) (pos C +ℤ pos 1 -ℤ pos (2 ^ (r + 1))) ≡ pos m → Log r (suc m)
    by true q = let sum : 2 ^ r - 1 + C ≡ m = ap nat_abs (ap (λ (z : ℤ). z +ℤ pos C) (sym (difference (2 ^ r) 1 (pow_pos r))) ∙ q) in
        record { low = omega (arith, sum, pow_pos r); high = omega (arith, sum, short, pow_pos r, double, pow-add 2 1 r) }
    by false q = absurd (pos-ne-negsuc m _ (sym q ∙ short_by (C + 1) (2 ^ (r + 1)) (omega (arith, short, double))))

-- ---- a string with sign 0, whose size is at least 2^v, counted in 2^-307
module _ (u : ℕ) (below : u < 2 ^ 63) where
  sign : S 64 u ≡ 0
  unfolding S
  sign = div-eq_of_lt below

  last : (K : ℕ) × (e 64 u -ℤ pos (p 64 u) +ℤ pos 307 ≡ pos K)
  last = exponent_whole 64 u (lit≤ tt) (lit≤ tt) (lt_trans below (lit< tt))

  -- its last bit stands for 2^K
  K : ℕ
  K = last.0

  size_is : size u ≡ (2 ^ p 64 u + F 64 u) * 2 ^ K
  unfolding K
  size_is =
      ap size (sym (mul-one u)) ∙ ap nat_abs (sym (string_positive 52 0 u (zero-add 52) below) ∙ value_at 64 u 0 (p 64 u) (F 64 u) K sign refl refl last.1)
      ∙ ap (λ (x : ℕ). (x + F 64 u) * 2 ^ K) (one-mul (2 ^ p 64 u))

  fraction : F 64 u < 2 ^ p 64 u
  unfolding F
  fraction = mod-lt u (pow_pos (p 64 u))

  size_lt : size u < 2 ^ suc (p 64 u + K)
  size_lt =
      lt_of_le_of_lt (le_of_eq size_is)
      (shl_below {x = 2 ^ p 64 u + F 64 u} (suc (p 64 u)) K (suc (p 64 u + K)) (omega (arith, fraction, two-pow-succ (p 64 u))) (omega arith))

  module _ (v : ℕ) (large : 2 ^ v * 2 ^ 307 ≤ size u) where
    reaches : v + 307 ≤ p 64 u + K
    reaches = le_of_suc-le-suc (exponent_lt (v + 307) (suc (p 64 u + K)) (lt_of_le_of_lt (le_of_eq (pow-add 2 v 307)) (lt_of_le_of_lt large size_lt)))

    -- the characteristic is m, at least v
    m : ℕ
    m = p 64 u + K - 307

    characteristic : c 64 u ≡ pos m
    unfolding e m K
    characteristic =
        sym (rw (ne_eqb (S 64 u) 1 (λ (q : S 64 u ≡ 1). omega (arith, sign, q))))
        ∙ sym (+ℤ_idr (e 64 u)) ∙ sym (+ℤ_idr (e 64 u +ℤ pos 0)) ∙ balance (e 64 u) (p 64 u) 307 K last.1 0 0 m (omega (arith, reaches))

    regime : Log (r 64 u) (suc m)
    unfolding c C
    regime = regime_of (D 64 u) (r 64 u) (C 64 u) m (mod-lt (u / 2 ^ p 64 u) (pow_pos (r 64 u))) characteristic

    -- the string of a word of n bits, v being the exponent of the width's limit: m + 1 isn't one of the rule
    module _ (n : ℕ) (five : 5 ≤ n) (hi : n ≤ 64) (g : Greatest n v) (w : ℕ) (is : w * 2 ^ (64 - n) ≡ u) where
      past : n ≤ m + r 64 u + 4
      unfolding m
      past = not_more (λ (h : m + r 64 u + 4 < n). omega (arith, reaches, at_most n g (suc m) (within n (suc m) (r 64 u) (zero-lt-suc m) regime.high (omega (arith, h)))))

      not_one : 0 < m
      not_one = not_more (λ (h : m < 1). omega (arith, h, past, five, regime.low, below_power (r 64 u)))

      count : p 64 u + r 64 u ≡ 59
      unfolding p
      count = omega (arith, regime_le 64 u)

      d : ℕ
      d = 64 - n

      -- where bits of the fraction are left, the last of them stands for 2 or more
      module _ (h : d ≤ p 64 u) where
        y : ℕ
        y = p 64 u - d

        f : ℕ
        f = u / 2 ^ d % 2 ^ y

        in_units : size u ≡ (2 ^ y + f) * 2 ^ (d + K)
        unfolding y f F d
        in_units =
            size_is ∙ ap₂ (λ (i j : ℕ). (i + j) * 2 ^ K) (sym (pow_sum y d (p 64 u) (omega (arith, h)))) fraction_is
            ∙ together (2 ^ y) f (2 ^ d) (2 ^ K) ∙ ap (λ (i : ℕ). (2 ^ y + f) * i) (sym (pow-add 2 d K))
          where
            parts : p 64 u ≡ y + d
            parts = omega (arith, h)

            fraction_is : F 64 u ≡ f * 2 ^ d
            fraction_is = ap (λ (i : ℕ). u % 2 ^ i) parts ∙ mod-pow-add u y d ∙ ap (λ (i : ℕ). f * 2 ^ d + i) (ap (λ (i : ℕ). i % 2 ^ d) (sym is) ∙ mul-mod_left w (2 ^ d)) ∙ add-zero (f * 2 ^ d)

            together : (a b x z : ℕ) → (a * x + b * x) * z ≡ (a + b) * (x * z)
            together a b x z = omega arith

      -- where none is left, the size is a power of two
      module _ (h : p 64 u < d) where
        a_power : size u ≡ 1 * 2 ^ (p 64 u + K)
        unfolding F d
        a_power = size_is ∙ ap (λ (i : ℕ). (2 ^ p 64 u + i) * 2 ^ K) no_fraction ∙ ap (λ (i : ℕ). i * 2 ^ K) (add-zero (2 ^ p 64 u)) ∙ sym (pow-add 2 (p 64 u) K) ∙ sym (one-mul (2 ^ (p 64 u + K)))
          where
            wide : w * 2 ^ (d - p 64 u) * 2 ^ p 64 u ≡ u
            wide = mul_assoc w (2 ^ (d - p 64 u)) (2 ^ p 64 u) ∙ ap (λ (i : ℕ). w * i) (pow_sum (d - p 64 u) (p 64 u) d (omega (arith, h))) ∙ is

            no_fraction : F 64 u ≡ 0
            no_fraction = ap (λ (i : ℕ). i % 2 ^ p 64 u) (sym wide) ∙ mul-mod_left (w * 2 ^ (d - p 64 u)) (2 ^ p 64 u)

      spaced : (t k : ℕ) × (size u ≡ t * 2 ^ k) × (308 ≤ k)
      unfolding m d
      spaced = by (dec_le d (p 64 u))
        where
          by : Dec (d ≤ p 64 u) → (t k : ℕ) × (size u ≡ t * 2 ^ k) × (308 ≤ k)
          by (yes h) = (2 ^ y h + f h, d + K, in_units h, omega (arith, count, past, reaches, hi))
          by (no g) = (1, p 64 u + K, a_power (lt_of_not-le g), omega (arith, not_one, reaches))

-- ---- a multiple of 2^308 is an even number of 2^307
doubled : (t k : ℕ) → 308 ≤ k → t * 2 ^ k ≡ 2 * (t * 2 ^ (k - 308)) * 2 ^ 307
doubled t k h = sym (ap (λ (x : ℕ). t * x) (pow_sum (suc (k - 308)) 307 k (omega (arith, h)))) ∙ apart (2 ^ suc (k - 308)) (2 ^ (k - 308)) (2 ^ 307) (two-pow-succ (k - 308))
  where
    apart : (b a x : ℕ) → b ≡ a + a → t * (b * x) ≡ 2 * (t * a) * x
    apart b a x q = ap (λ (i : ℕ). t * (i * x)) q ∙ omega arith

pub even_from_the_limit : (n l : ℕ) → 5 ≤ n → n ≤ 64 → IsLimit n l → (s : Bool) (z w : ℕ) → HasValue n s z w → l * 2 ^ 307 ≤ z → (j : ℕ) × (z ≡ 2 * j * 2 ^ 307)
even_from_the_limit n l five hi x s z w is large =
    let t = spaced u below x.v (subst₂ (λ (a b : ℕ). a * 2 ^ 307 ≤ b) x.limit size_of large) n five hi x.is place.v refl in
    (t.0 * 2 ^ (t.1 - 308), size_of ∙ t.2 ∙ doubled t.0 t.1 t.3)
  where
    lo : 2 ≤ n
    lo = omega (arith, five)

    some : 0 < l * 2 ^ 307
    some = mul-pos (subst (λ (y : ℕ). 0 < y) (sym x.limit) (pow_pos x.v)) (pow_pos 307)

    place : Place n lo hi s z w
    place = place_of n lo hi s z w (lt_of_lt_of_le some large) is

    u : ℕ
    u = place.v * 2 ^ (64 - n)

    below : u < 2 ^ 63
    below = shl_below (n - 1) (64 - n) 63 place.last (omega (arith, lo, hi))

    size_of : z ≡ size u
    size_of = place.size_is ∙ grown_suc n place.v place.first
