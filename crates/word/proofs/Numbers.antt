-- The number of a string from its fields, as reading gives it: sign 0; sign 1 with a fraction of 0, whose size is the next power of two; sign 1
-- with another fraction, which counts up from -2. Assumes nothing.
use mathlib.Core.Path.{◌≡◌, refl, sym, ap, ap₂, ◌∙◌, subst, subst₃}
use mathlib.Core.Bool.{Bool, true, false, cond}
use Prim.Native.Nat.{ℕ, suc, ◌+◌, ◌-◌, ◌*◌, ◌/◌, ◌%◌, ◌^◌, ◌≤◌, ◌<◌}
use native.Mathlib.Nat.{add-zero, div_self, div-eq_of_lt, mod-lt, mod_self, mod-eq_of_lt, le_of_eq, lt_of_not-le, one-mul, mul-one, pow-suc, sub-zero, pos_of_ne-zero, le_antisymm, le_of_suc-le-suc, div-lt_iff_lt-mul}
use native.Mathlib.Numerals.{add-one}
use native.Mathlib.Decide.{dec_le}
use native.Mathlib.Omega.{arith}
use borrow.Author.Tests.{eq-eqb, ne_eqb}
use lib.Dec.{eqb}
use lib.IntN.{ℤ, pos, negsuc, neg_ℤ, ◌+ℤ◌, ◌-ℤ◌, ◌*ℤ◌, +ℤ_assoc, +ℤ_comm, +ℤ_idr, neg_ℤ-+ℤ, -ℤ-+ℤ_cancel}
use lib.Pow.{pow_pos, pow-add, pow_mono}
use lib.Signed.{mag}
use Rattle.word.specs.Takum.{Takum, real, characteristic_of, S, D, r, p, C, F, c, e, value}
use Rattle.word.specs.Reads.{num, den, IsSize, signed_size, IsNumber}
use Rattle.bounds.proofs.Powers.{twice}
use Rattle.word.proofs.Integers.{sub_add, neg_add, neg_mul}
use Rattle.word.proofs.Signed.{difference, short_by, sub_mag}
use Rattle.word.proofs.Cut.{regime_le}
use Rattle.word.proofs.Meaning.{value_at, exponent_whole}

-- the characteristic runs from -255 to 254
pub characteristic_range : (d r C : ℕ) → r ≤ 7 → C < 2 ^ r → mag (characteristic_of d r C) ≤ 254
unfolding characteristic_of
characteristic_range d r C hr hC = by (eqb d 1)
  where
    low : 2 ^ r ≤ 128
    low = pow_mono {i = r} {j = 7} hr

    high : 2 ^ (r + 1) ≡ 2 ^ r * 2
    high = pow-add 2 r 1

    one : pos (2 ^ r) -ℤ pos 1 ≡ pos (2 ^ r - 1)
    one = difference (2 ^ r) 1 (pow_pos r)

    below : pos C +ℤ pos 1 -ℤ pos (2 ^ (r + 1)) ≡ negsuc (2 ^ (r + 1) - 1 - (C + 1))
    below = short_by (C + 1) (2 ^ (r + 1)) (omega (arith, hC, high))

    by : (b : Bool) → mag (cond b (pos (2 ^ r) -ℤ pos 1 +ℤ pos C) (pos C +ℤ pos 1 -ℤ pos (2 ^ (r + 1)))) ≤ 254
    by true = subst (λ (z : ℤ). mag (z +ℤ pos C) ≤ 254) (sym one) (omega (arith, low, hC))
    by false = subst (λ (z : ℤ). mag z ≤ 254) (sym below) (omega (arith, low, high, hC))

pub characteristic_of_string : (n T : ℕ) → mag (c n T) ≤ 254
unfolding c C
characteristic_of_string n T = characteristic_range (D n T) (r n T) (C n T) (regime_le n T) (mod-lt (T / 2 ^ p n T) (pow_pos (r n T)))

pub exponent_of_string : (n T : ℕ) → mag (e n T) ≤ 256
unfolding e
exponent_of_string n T = by (eqb (S n T) 1)
  where
    by : (s : Bool) → mag (cond s (neg_ℤ (c n T +ℤ pos 1)) (c n T)) ≤ 256
    by true = omega (arith, ap mag (neg_ℤ-+ℤ (c n T) (pos 1) ∙ +ℤ_comm (neg_ℤ (c n T)) (negsuc 0)), sub_mag (negsuc 0) (c n T), characteristic_of_string n T)
    by false = omega (arith, characteristic_of_string n T)

-- the same number by equal parts
pub same_number : (t : Takum) (b : ℕ) {s s' : Bool} {h h' : ℤ} {m m' p p' : ℕ} → s ≡ s' → h ≡ h' → m ≡ m' → p ≡ p' → IsNumber t b s' h' m' p' → IsNumber t b s h m p
same_number t b {s} {h' = h'} {m' = m'} {p' = p'} qs qh qm qp x = subst₃ (λ (h : ℤ) (m p : ℕ). IsNumber t b s h m p) (sym qh) (sym qm) (sym qp) (subst (λ (s : Bool). IsNumber t b s h' m' p') (sym qs) x)

-- what the size has above 1, in steps of the last of p bits; where that is 1, the exponent is one more
unfoldable pub above_one : ℕ → ℕ → ℕ
above_one n T = cond (eqb (S n T) 1) (2 ^ p n T - F n T) (F n T)

module _ (n T : ℕ) (lo : 12 ≤ n) (hi : n ≤ 64) (fits : T < 2 ^ n) where
  K : ℕ
  K = (exponent_whole n T lo hi fits).0

  whole : e n T -ℤ pos (p n T) +ℤ pos 307 ≡ pos K
  unfolding K
  whole = (exponent_whole n T lo hi fits).1

  fraction_lt : F n T < 2 ^ p n T
  unfolding F
  fraction_lt = mod-lt T (pow_pos (p n T))

  double : 2 ^ (p n T + 1) ≡ 2 ^ p n T * 2
  double = pow-add 2 (p n T) 1

  -- the size m 2^(h - p), where h - p + 307 is the whole number L
  sized : (m : ℕ) (h : ℤ) (L : ℕ) → h -ℤ pos (p n T) +ℤ pos 307 ≡ pos L → IsSize m (h -ℤ pos (p n T)) (m * 2 ^ L)
  unfolding IsSize num den
  sized m h L q = rw q (sym (mul-one (m * 2 ^ L)))

  -- the value with its sign apart
  plain : S n T ≡ 0 → value n T ≡ signed_size false ((2 ^ p n T + F n T) * 2 ^ K)
  unfolding signed_size
  plain s = value_at n T 0 (p n T) (F n T) K s refl refl whole ∙ ap (λ (x : ℕ). pos ((x + F n T) * 2 ^ K)) (one-mul (2 ^ p n T))

  counted : S n T ≡ 1 → value n T ≡ signed_size true ((2 * 2 ^ p n T - F n T) * 2 ^ K)
  unfolding signed_size
  counted s =
      value_at n T 1 (p n T) (F n T) K s refl refl whole ∙ ap (λ (z : ℤ). z *ℤ pos (2 ^ K)) (neg_add (2 * 2 ^ p n T) (F n T) (omega (arith, fraction_lt)))
      ∙ neg_mul (2 * 2 ^ p n T - F n T) (2 ^ K)

  same : S n T ≡ 0 → e n T ≡ c n T
  unfolding e
  same s = rw (ne_eqb (S n T) 1 (λ (q : S n T ≡ 1). omega (arith, s, q)))

  pub positive_number : S n T ≡ 0 → IsNumber (real (value n T)) (p n T) false (c n T) (2 ^ p n T + F n T) (p n T)
  positive_number s =
      record {
        v = (2 ^ p n T + F n T) * 2 ^ K;
        means = ap real (plain s);
        size = sized (2 ^ p n T + F n T) (c n T) K (subst (λ (z : ℤ). z -ℤ pos (p n T) +ℤ pos 307 ≡ pos K) (same s) whole);
        count = refl;
        low = omega arith;
        high = omega (arith, fraction_lt, double);
      }

  negative : S n T ≡ 1 → e n T ≡ neg_ℤ (c n T +ℤ pos 1)
  unfolding e
  negative s = rw (eq-eqb (S n T) 1 s)

  -- where the fraction is 0 the exponent is one more
  next : S n T ≡ 1 → neg_ℤ (c n T) ≡ e n T +ℤ pos 1
  next s = sym (ap (λ (z : ℤ). z +ℤ pos 1) (negative s ∙ neg_ℤ-+ℤ (c n T) (pos 1)) ∙ -ℤ-+ℤ_cancel (neg_ℤ (c n T)) (pos 1))

  pub negative_power : S n T ≡ 1 → F n T ≡ 0 → IsNumber (real (value n T)) (p n T) true (neg_ℤ (c n T)) (2 ^ p n T) (p n T)
  negative_power s f =
      record {
        v = 2 ^ p n T * 2 ^ suc K;
        means = ap real (counted s ∙ ap (signed_size true) (ap (λ (x : ℕ). (2 * 2 ^ p n T - x) * 2 ^ K) f ∙ twice));
        size = sized (2 ^ p n T) (neg_ℤ (c n T)) (suc K) up;
        count = refl;
        low = omega arith;
        high = omega (arith, double, pow_pos (p n T));
      }
    where
      up : neg_ℤ (c n T) -ℤ pos (p n T) +ℤ pos 307 ≡ pos (suc K)
      up =
          ap (λ (z : ℤ). z -ℤ pos (p n T) +ℤ pos 307) (next s) ∙ ap (λ (z : ℤ). z +ℤ pos 307) (sym (sub_add (e n T) (pos (p n T)) (pos 1)))
          ∙ +ℤ_assoc (e n T -ℤ pos (p n T)) (pos 1) (pos 307) ∙ sym (+ℤ_assoc (e n T -ℤ pos (p n T)) (pos 307) (pos 1))
          ∙ ap (λ (z : ℤ). z +ℤ pos 1) whole ∙ ap pos (add-one K)

      twice : (2 * 2 ^ p n T - 0) * 2 ^ K ≡ 2 ^ p n T * 2 ^ suc K
      twice = ap (λ (x : ℕ). x * 2 ^ K) (sub-zero (2 * 2 ^ p n T)) ∙ omega (arith, ap (λ (x : ℕ). 2 ^ p n T * x) (pow-suc 2 K))

  pub negative_number : S n T ≡ 1 → (F n T ≡ 0 → ⊥) → IsNumber (real (value n T)) (p n T) true (negsuc 0 -ℤ c n T) (2 ^ p n T + (2 ^ p n T - F n T)) (p n T)
  negative_number s f =
      record {
        v = m * 2 ^ K;
        means = ap real (counted s ∙ ap (λ (x : ℕ). signed_size true (x * 2 ^ K)) (omega (arith, fraction_lt)));
        size = sized m (negsuc 0 -ℤ c n T) K (subst (λ (z : ℤ). z -ℤ pos (p n T) +ℤ pos 307 ≡ pos K) (negative s ∙ neg_ℤ-+ℤ (c n T) (pos 1) ∙ +ℤ_comm (neg_ℤ (c n T)) (negsuc 0)) whole);
        count = refl;
        low = omega arith;
        high = omega (arith, double, pow_pos (p n T), pos_of_ne-zero f);
      }
    where
      m : ℕ
      m = 2 ^ p n T + (2 ^ p n T - F n T)

  -- a sign bit that is not 0 is 1
  pub sign_one : (S n T ≡ 0 → ⊥) → S n T ≡ 1
  unfolding S
  sign_one f = le_antisymm (le_of_suc-le-suc ((div-lt_iff_lt-mul {x = T} {y = 2} (pow_pos (n - 1))).1 (omega (arith, twice n (omega arith))))) (pos_of_ne-zero f)

  -- all three at once
  pub number_of_string : IsNumber (real (value n T)) (p n T) (eqb (S n T) 1) (e n T +ℤ pos (above_one n T / 2 ^ p n T)) (2 ^ p n T + above_one n T % 2 ^ p n T) (p n T)
  unfolding above_one
  number_of_string = by (dec_le (S n T) 0) (dec_le (F n T) 0)
    where
      none : {x : ℕ} → x ≤ 0 → x ≡ 0
      none h = omega (arith, h)

      Is : Bool → ℕ → Type 0
      Is s x = IsNumber (real (value n T)) (p n T) s (e n T +ℤ pos (x / 2 ^ p n T)) (2 ^ p n T + x % 2 ^ p n T) (p n T)

      short : (s : Bool) (h : ℤ) (x : ℕ) → x < 2 ^ p n T → e n T ≡ h → IsNumber (real (value n T)) (p n T) s h (2 ^ p n T + x) (p n T) → Is s x
      short s h x l q k = same_number _ _ refl (ap₂ (λ (z : ℤ) (i : ℕ). z +ℤ pos i) q (div-eq_of_lt l) ∙ +ℤ_idr h) (ap (λ (i : ℕ). 2 ^ p n T + i) (mod-eq_of_lt l)) refl k

      by : Dec (S n T ≤ 0) → Dec (F n T ≤ 0) → Is (eqb (S n T) 1) (cond (eqb (S n T) 1) (2 ^ p n T - F n T) (F n T))
      by (yes s) d = rw (ne_eqb (S n T) 1 (λ q. omega (arith, s, q))) (short false (c n T) (F n T) fraction_lt (same (none s)) (positive_number (none s)))
      by (no s) (yes f) =
          let one = sign_one (λ q. s (le_of_eq q)) in
          rw (eq-eqb (S n T) 1 one, none f, sub-zero (2 ^ p n T))
          (same_number _ _ refl (ap (λ (i : ℕ). e n T +ℤ pos i) (div_self (pow_pos (p n T))) ∙ sym (next one)) (ap (λ (i : ℕ). 2 ^ p n T + i) (mod_self (2 ^ p n T)) ∙ add-zero (2 ^ p n T)) refl (negative_power one (none f)))
      by (no s) (no f) =
          let one = sign_one (λ q. s (le_of_eq q)) in
          rw (eq-eqb (S n T) 1 one)
          (short true (negsuc 0 -ℤ c n T) (2 ^ p n T - F n T) (omega (arith, pow_pos (p n T), lt_of_not-le f)) (negative one ∙ neg_ℤ-+ℤ (c n T) (pos 1) ∙ +ℤ_comm (neg_ℤ (c n T)) (negsuc 0)) (negative_number one (λ q. f (le_of_eq q))))
