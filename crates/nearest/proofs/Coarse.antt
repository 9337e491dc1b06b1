-- Where the cut falls in the regime or the characteristic, a word and the next are powers of two, at most 64 binades apart: by a computed test
-- over every word of the widths below 12. Assumes nothing.
use mathlib.Core.Path.{◌≡◌, refl, sym, ap, ap₂, ◌∙◌, subst}
use mathlib.Core.Bool.{Bool, true, false, cond, ◌&&◌, ◌||◌}
use mathlib.Core.Logic.{◌⊎◌, ⊎_elim}
use Prim.Native.Nat.{ℕ, zero, suc, ◌+◌, ◌-◌, ◌*◌, ◌/◌, ◌%◌, ◌^◌, ◌≤◌, ◌<◌}
use native.Mathlib.Nat.{add-zero, mul_assoc, zero-lt-suc}
use native.Mathlib.Omega.{arith}
use borrow.Author.Tests.{le-leb, lt-ltb, ne_eqb}
use lib.Dec.{T, leb, ltb, eqb, eqb→eq, leb→le, lit≤}
use lib.IntN.{ℤ, pos, nat_abs, ◌+ℤ◌, ◌-ℤ◌, +ℤ_idr}
use lib.Pow.{shr-shr, shl-shr}
use Rattle.word.specs.Takum.{regime_of, characteristic_of, S, D, R, r, p, C, F, c, e}
use Rattle.word.proofs.Heads.{below, at_each, both, k, scale, head}
use Rattle.word.proofs.Integers.{unbalance}
use Rattle.word.proofs.Numbers.{characteristic_of_string}
use Rattle.bounds.proofs.Powers.{pow_sum, shl_below}
use Rattle.word.proofs.Sizes.{size, lead, onward, seam}
use Rattle.word.proofs.Values.{grown, grown_suc}
use Rattle.nearest.specs.Parts.{IsRaised}
use Rattle.nearest.proofs.Exponents.{raise}

-- the head of the word v of n bits, and its characteristic raised
unfoldable pub head_of : ℕ → ℕ → ℕ
head_of n v = v * 2 ^ (12 - n)

unfoldable pub raised_at : ℕ → ℕ
raised_at g = nat_abs (c 12 g +ℤ pos 255)

coarse : ℕ → ℕ → Bool
coarse n v = leb 2 n && (leb 1 v && (ltb (suc v) (2 ^ (n - 1)) && (ltb n 5 || ltb n (5 + r 12 (head_of n v)))))

powers : ℕ → ℕ → Bool
powers n v = eqb (F 12 (head_of n v)) 0 && (eqb (F 12 (head_of n (suc v))) 0 && leb (raised_at (head_of n (suc v))) (raised_at (head_of n v) + 64))

test : ℕ → ℕ → Bool
test n v = cond (coarse n v) (powers n v) true

all : T (below (λ (n : ℕ). below (λ (v : ℕ). test n v) (2 ^ (n - 1))) 12)
unfolding test powers coarse raised_at head_of regime_of characteristic_of S D R r p C F c e
all = tt

record Powers (n v : ℕ) : Type 0 where
  low : F 12 (head_of n v) ≡ 0
  high : F 12 (head_of n (suc v)) ≡ 0
  near : raised_at (head_of n (suc v)) ≤ raised_at (head_of n v) + 64

-- the raised characteristic, and the size of a head with no fraction
pub raised_is : (g : ℕ) → IsRaised (c 12 g) (raised_at g)
unfolding IsRaised raised_at
raised_is g = let t = raise (c 12 g) (characteristic_of_string 12 g) in t.1 ∙ ap pos (sym (ap nat_abs t.1))

pub raised_lt : (g : ℕ) → raised_at g < 510
unfolding raised_at
raised_lt g = let t = raise (c 12 g) (characteristic_of_string 12 g) in subst (λ (x : ℕ). x < 510) (sym (ap nat_abs t.1)) t.2

size_power : (g : ℕ) → g < 2048 → F 12 g ≡ 0 → size (g * 2 ^ 52) ≡ 2 ^ (raised_at g + 52)
unfolding onward lead IsRaised e
size_power g b q =
    ap size (sym (add-zero (g * 2 ^ 52))) ∙ seam g 0 (lit≤ tt) (omega (arith, b)) ∙ ap (λ (x : ℕ). ((2 ^ p 12 g + x) * 2 ^ 52 + 0) * 2 ^ k g) q ∙ joined
  where
    exponent : e 12 g ≡ c 12 g
    exponent = rw (ne_eqb (S 12 g) 1 (λ (t : S 12 g ≡ 1). omega (arith, t, (head g b).sign)))

    total : k g + p 12 g + 255 ≡ raised_at g + 0 + 255
    total = unbalance (c 12 g) (p 12 g) 255 (k g) (ap (λ (z : ℤ). z -ℤ pos (p 12 g) +ℤ pos 255) (sym exponent) ∙ scale g (omega (arith, b))) 0 255 (raised_at g) (ap (λ (z : ℤ). z +ℤ pos 255) (+ℤ_idr (c 12 g)) ∙ raised_is g)

    regroup : (a b c : ℕ) → ((a + 0) * b + 0) * c ≡ a * b * c
    regroup a b c = omega arith

    joined : ((2 ^ p 12 g + 0) * 2 ^ 52 + 0) * 2 ^ k g ≡ 2 ^ (raised_at g + 52)
    joined = regroup (2 ^ p 12 g) (2 ^ 52) (2 ^ k g) ∙ ap (λ (x : ℕ). x * 2 ^ k g) (pow_sum (p 12 g) 52 (p 12 g + 52) refl) ∙ pow_sum (p 12 g + 52) (k g) (raised_at g + 52) (omega (arith, total))

-- ---- the test as a law
module _ (n v : ℕ) (lo : 2 ≤ n) (short : n < 12) (first : zero < v) (room : suc v < 2 ^ (n - 1)) (cut : (n < 5) ⊎ (n < 5 + r 12 (head_of n v))) where
  is_coarse : coarse n v ≡ true
  unfolding coarse
  is_coarse = rw (le-leb 2 n lo, le-leb 1 v first, lt-ltb (suc v) (2 ^ (n - 1)) room) (⊎_elim one two cut)
    where
      or_left : (x y : Bool) → x ≡ true → x || y ≡ true
      or_left x y q = ap (λ (z : Bool). z || y) q

      or_right : (x y : Bool) → y ≡ true → x || y ≡ true
      or_right true y q = refl
      or_right false y q = q

      one : n < 5 → ltb n 5 || ltb n (5 + r 12 (head_of n v)) ≡ true
      one h = or_left (ltb n 5) (ltb n (5 + r 12 (head_of n v))) (lt-ltb n 5 h)

      two : n < 5 + r 12 (head_of n v) → ltb n 5 || ltb n (5 + r 12 (head_of n v)) ≡ true
      two h = or_right (ltb n 5) (ltb n (5 + r 12 (head_of n v))) (lt-ltb n (5 + r 12 (head_of n v)) h)

  tested : T (powers n v)
  unfolding test
  tested = subst (λ (b : Bool). T (cond b (powers n v) true)) is_coarse (at_each (λ (v : ℕ). test n v) (2 ^ (n - 1)) (at_each (λ (n : ℕ). below (λ (v : ℕ). test n v) (2 ^ (n - 1))) 12 all n short) v (omega (arith, room)))

  parts : Powers n v
  unfolding powers
  parts =
      let x = both (eqb (F 12 (head_of n v)) 0) (eqb (F 12 (head_of n (suc v))) 0 && leb (raised_at (head_of n (suc v))) (raised_at (head_of n v) + 64)) tested in
      let y = both (eqb (F 12 (head_of n (suc v))) 0) (leb (raised_at (head_of n (suc v))) (raised_at (head_of n v) + 64)) x.1 in
      record { low = eqb→eq (F 12 (head_of n v)) 0 x.0; high = eqb→eq (F 12 (head_of n (suc v))) 0 y.0; near = leb→le (raised_at (head_of n (suc v))) (raised_at (head_of n v) + 64) y.1 }

  pub near_enough : raised_at (head_of n (suc v)) ≤ raised_at (head_of n v) + 64
  near_enough = parts.near

  -- the word at the top of 64 bits is its head
  to_top : (w : ℕ) → w * 2 ^ (64 - n) ≡ head_of n w * 2 ^ 52
  unfolding head_of
  to_top w = ap (λ (x : ℕ). w * x) (sym (pow_sum (12 - n) 52 (64 - n) (omega arith))) ∙ sym (mul_assoc w (2 ^ (12 - n)) (2 ^ 52))

  head_lt : (w : ℕ) → w < 2 ^ (n - 1) → head_of n w < 2048
  unfolding head_of
  head_lt w h = shl_below (n - 1) (12 - n) 11 h (omega (arith, lo))

  pub low_power : grown n v ≡ 2 ^ (raised_at (head_of n v) + 52)
  low_power = grown_suc n v first ∙ ap size (to_top v) ∙ size_power (head_of n v) (head_lt v (omega (arith, room))) parts.low

  pub high_power : grown n (suc v) ≡ 2 ^ (raised_at (head_of n (suc v)) + 52)
  high_power = grown_suc n (suc v) (zero-lt-suc v) ∙ ap size (to_top (suc v)) ∙ size_power (head_of n (suc v)) (head_lt (suc v) room) parts.high

-- from width 5 on the cut leaves the regime bits
pub regime_kept : (n G : ℕ) → 5 ≤ n → n ≤ 12 → r 12 (head_of n (G / 2 ^ (12 - n))) ≡ r 12 G
unfolding r D R head_of
regime_kept n G five twelve = ap₂ (λ (x y : ℕ). regime_of (x % 2) (y % 8)) (same 10 (omega (arith, five))) (same 7 (omega (arith, five)))
  where
    same : (q : ℕ) → 12 - n ≤ q → G / 2 ^ (12 - n) * 2 ^ (12 - n) / 2 ^ q ≡ G / 2 ^ q
    same q l = ap (λ (k : ℕ). G / 2 ^ (12 - n) * 2 ^ (12 - n) / 2 ^ k) split ∙ sym (shr-shr (G / 2 ^ (12 - n) * 2 ^ (12 - n)) (12 - n) (q - (12 - n))) ∙ ap (λ (y : ℕ). y / 2 ^ (q - (12 - n))) (shl-shr (G / 2 ^ (12 - n)) (12 - n)) ∙ shr-shr G (12 - n) (q - (12 - n)) ∙ ap (λ (k : ℕ). G / 2 ^ k) (sym split)
      where
        split : q ≡ 12 - n + (q - (12 - n))
        split = omega (arith, l)
