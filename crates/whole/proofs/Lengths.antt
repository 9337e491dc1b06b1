-- The corrected length of document 004, Proposition 4, is where a number's words begin: it has one at this width and all above it, and none below.
-- Assumes nothing.
use mathlib.Core.Path.{◌≡◌, refl, sym, ap, ap₂, ◌∙◌, subst}
use mathlib.Core.Bool.{Bool, true, false, ◌&&◌}
use Prim.Native.Nat.{ℕ, zero, suc, ◌+◌, ◌-◌, ◌*◌, ◌%◌, ◌^◌, ◌≤◌, ◌<◌, zero-le}
use native.Mathlib.Nat.{le_of_suc-le-suc, le_of_eq, le_of_lt, le_trans, le_antisymm, lt_of_lt_of_le, lt_of_le_of_lt, lt_of_not-le, mul-one, mul_assoc, le_of_mul-le-mul_right, lt_of_mul-lt-mul_right, zero-mod, two-pow-succ}
use native.Mathlib.Numerals.{add-one}
use native.Mathlib.Omega.{arith}
use borrow.Author.Tests.{eq-eqb, ne_eqb, eqb-true, eqb-false}
use lib.Count.{count_trailing_zeros}
use lib.Dec.{eqb}
use lib.IntN.{ℤ, pos, nat_abs, ◌-ℤ◌}
use lib.Pow.{pow_pos, pow-add}
use Rattle.bounds.proofs.Powers.{Log, pow_sum}
use Rattle.bounds.proofs.Limits.{exponent_lt}
use Rattle.word.proofs.Signed.{difference}
use Rattle.nearest.specs.Nearest.{HasValue}
use Rattle.whole.specs.Lengths.{IsLog, IsMax, N0, UpTo, Letters, power_of_two, bits_are_power_of_two, reduced_once, corrected_length, when}
use Rattle.whole.specs.Parts.{IsFirstReduction, IsLastReduction, IsLength}
use Rattle.whole.proofs.LimitBinades.{beginning}
use Rattle.whole.proofs.LimitStrings.{whole_bits}
use Rattle.whole.proofs.LimitBeyond.{odd_ends_in_one}
use Rattle.whole.proofs.WordLengths.{wide_enough, width_needed}
use Rattle.whole.proofs.OddParts.{OddPart, odd_part_from, trailing_odd, greatest_of_all, odd_of_all, odd_up_to}

-- a difference of four numbers in which nothing is cut off
differences : (a b c d : ℕ) → b + c + d ≤ a → pos a -ℤ pos b -ℤ pos c -ℤ pos d ≡ pos (a - b - c - d)
differences a b c d h =
    ap (λ (z : ℤ). z -ℤ pos c -ℤ pos d) (difference a b (omega (arith, h))) ∙ ap (λ (z : ℤ). z -ℤ pos d) (difference (a - b) c (omega (arith, h)))
    ∙ difference (a - b - c) d (omega (arith, h))

even_and_odd : (k e f q : ℕ) → e * 2 ≡ f → q % 2 ≡ 1 → (k * f + q) % 2 ≡ 1
even_and_odd k e f q double odd = omega (arith, odd, ap (λ (x : ℕ). k * x) double)

module _ (m : ℕ) (t : Letters m) (small : m < 2 ^ 64) where
  -- the top bit of m, the regime, and the bits of the odd part o of m behind its leading one
  abbrev h : ℕ
  h = t.top

  abbrev ρ : ℕ
  ρ = t.log

  g : ℕ
  g = h - t.w

  part : OddPart m t.w
  part = odd_of_all m t.w (le_trans (pow_pos t.top) t.top_is.low) t.w_is

  o : ℕ
  o = part.q

  below : m < 2 ^ suc h
  below = subst (λ (k : ℕ). m < 2 ^ k) (add-one t.top) t.top_is.high

  short : h < 64
  short = exponent_lt t.top 64 (lt_of_le_of_lt t.top_is.low small)

  bits : t.v ≡ suc h
  bits = omega (arith, t.v_is)

  log : Log ρ (suc h)
  log = record {
    low = subst (λ (k : ℕ). 2 ^ t.log ≤ k) bits t.log_is.low;
    high = subst (λ (k : ℕ). suc h < 2 ^ k) (add-one t.log) (subst (λ (k : ℕ). k < 2 ^ (t.log + 1)) bits t.log_is.high);
  }

  regime : ρ < 7
  regime = exponent_lt ρ 7 (lt_of_le_of_lt log.low (omega (arith, short)))

  few : t.w ≤ h
  few = le_of_suc-le-suc (exponent_lt t.w (suc h) (lt_of_le_of_lt (odd_part_from m t.w part) below))

  inside : g ≤ h
  unfolding g
  inside = omega (arith, few)

  together : 2 ^ g * 2 ^ t.w ≡ 2 ^ h
  unfolding g
  together = pow_sum (h - t.w) t.w h (omega (arith, few))

  low : 2 ^ g ≤ o
  unfolding o
  low = le_of_mul-le-mul_right (le_trans (le_of_eq together) (le_trans t.top_is.low (le_of_eq part.is))) (pow_pos t.w)

  high : o < 2 ^ suc g
  unfolding o
  high = lt_of_mul-lt-mul_right (2 ^ t.w) (lt_of_le_of_lt (le_of_eq (sym part.is)) (lt_of_lt_of_le below (le_of_eq (omega (arith, together, two-pow-succ h, ap (λ (x : ℕ). x * 2 ^ t.w) (two-pow-succ g))))))

  -- m is o with w zeros
  unit : o * 2 ^ (h - g + 307) ≡ m * 2 ^ 307
  unfolding o g
  unit = ap (λ (k : ℕ). o * 2 ^ k) zeros ∙ ap (λ (x : ℕ). o * x) (pow-add 2 t.w 307) ∙ sym (mul_assoc o (2 ^ t.w) (2 ^ 307)) ∙ ap (λ (x : ℕ). x * 2 ^ 307) (sym part.is)
    where
      zeros : h - (h - t.w) + 307 ≡ t.w + 307
      zeros = omega (arith, few)

  -- ---- the zeros that its bits end in
  record Ends : Type 0 where
    z : ℕ
    part : OddPart (whole_bits ρ h g o) z
    length : corrected_length t ≡ pos (5 + g + ρ - z)
    least : 2 + z ≤ 5 + g + ρ
    fine : g + ρ ≤ 59 + z → g + ρ ≤ 59

  -- what the two conditions make of the formula
  length_of_lem : (p b : Bool) (r : ℕ) → power_of_two t.v t.w ≡ p → bits_are_power_of_two t.v ρ ≡ b → r + t.w + when p t.first + when (p && b) t.last ≡ 4 + t.v + ρ → corrected_length t ≡ pos r
  unfolding corrected_length reduced_once
  length_of_lem p b r q q' sum =
      ap₂ (λ (p b : Bool). pos (4 + t.v + ρ) -ℤ pos t.w -ℤ pos (when p t.first) -ℤ pos (when (p && b) t.last)) q q'
      ∙ differences (4 + t.v + ρ) t.w (when p t.first) (when (p && b) t.last) (omega (arith, sum)) ∙ ap pos (omega (arith, sum))

  -- not a power of two: the last bit of o is 1
  long : (k : ℕ) → g ≡ suc k → Ends
  unfolding g o part
  long k q = record {
    z = 0;
    part = record { q = whole_bits ρ h g o; is = sym (mul-one (whole_bits ρ h g o)); odd = subst (λ (x : ℕ). whole_bits ρ h x o % 2 ≡ 1) (sym q) (odd_ends_in_one ρ h k o (subst (λ (x : ℕ). 2 ^ x ≤ o) q low) part.odd) };
    length = length_of_lem false (eqb t.v (2 ^ ρ)) (5 + g + ρ - 0) (ne_eqb (t.w + 1) t.v (λ (e : t.w + 1 ≡ t.v). omega (arith, e, bits, q))) refl (omega (arith, bits, few));
    least = omega arith;
    fine = λ l. l;
  }

  -- a power of two: its bits are the beginning, with the characteristic bits at its end
  module _ (q : g ≡ 0) where
    only : o ≡ 1
    only = omega (arith, subst (λ (x : ℕ). 2 ^ x ≤ o) q low, subst (λ (x : ℕ). o < 2 ^ suc x) q high)

    begun : whole_bits ρ h g o ≡ beginning ρ h
    unfolding whole_bits
    begun = ap₂ (whole_bits ρ h) q only ∙ omega arith

    all : t.w + 1 ≡ t.v
    unfolding g
    all = omega (arith, q, few, bits)

    -- v is a power of two: the characteristic bits are all zeros, and those before them are 8 + ρ
    even : t.v ≡ 2 ^ ρ → Ends
    unfolding UpTo beginning
    even e =
        let first : t.first ≡ ρ = le_antisymm t.first_is.in_range (t.first_is.greatest ρ (le_of_eq refl) (ap (λ (a : ℕ). a % 2 ^ ρ) none ∙ zero-mod (2 ^ ρ))) in
        let x = odd_up_to 3 ρ t.last (omega (arith, regime)) t.last_is in
        record {
          z = t.last + ρ;
          part = record { q = x.q; is = begun ∙ (omega (arith, bits, e, ap (λ (a : ℕ). a * 2 ^ ρ) x.is)) ∙ mul_assoc x.q (2 ^ t.last) (2 ^ ρ) ∙ ap (λ (a : ℕ). x.q * a) (sym (pow-add 2 t.last ρ)); odd = x.odd };
          length = length_of_lem true true (5 + g + ρ - (t.last + ρ)) (eq-eqb (t.w + 1) t.v all) (eq-eqb t.v (2 ^ ρ) e) (omega (arith, first, all, bits, q, t.last_is.in_range));
          least = omega (arith, t.last_is.in_range);
          fine = λ l. omega (arith, q, regime);
        }
      where
        none : t.v - 2 ^ ρ ≡ 0
        none = omega (arith, e)

    -- v isn't one: the characteristic bits have a 1
    uneven : (t.v ≡ 2 ^ ρ → ⊥) → Ends
    unfolding UpTo beginning
    uneven ne =
        record {
          z = t.first;
          part = record {
            q = (7 + ρ) * 2 ^ (ρ - t.first) + x.q;
            is = begun ∙ omega (arith, bits, x.is, ap (λ (a : ℕ). ρ * a) whole, whole);
            odd = even_and_odd (7 + ρ) (2 ^ (ρ - t.first - 1)) (2 ^ (ρ - t.first)) x.q doubled x.odd;
          };
          length = length_of_lem true false (5 + g + ρ - t.first) (eq-eqb (t.w + 1) t.v all) (ne_eqb t.v (2 ^ ρ) ne) (omega (arith, all, bits, q, less));
          least = omega (arith, less);
          fine = λ l. omega (arith, q, regime);
        }
      where
        x : OddPart t.v t.first
        x = subst (λ (a : ℕ). OddPart a t.first) (omega (arith, t.log_is.low)) (odd_up_to ρ (t.v - 2 ^ ρ) t.first (omega (arith, bits, log.high, two-pow-succ ρ)) t.first_is)

        -- 2^ρ divides no other number between it and the next power
        alone : (q : ℕ) → q % 2 ≡ 1 → t.v ≡ q * 2 ^ ρ → t.v ≡ 2 ^ ρ
        alone q odd is =
            let one : q ≡ 1 = omega (arith, odd, lt_of_mul-lt-mul_right (2 ^ ρ) {m = q} {n = 2} (omega (arith, is, bits, log.high, two-pow-succ ρ))) in
            is ∙ ap (λ (a : ℕ). a * 2 ^ ρ) one ∙ omega arith

        less : t.first < ρ
        less = lt_of_not-le (λ (l : ρ ≤ t.first). ne (alone x.q x.odd (x.is ∙ ap (λ (i : ℕ). x.q * 2 ^ i) (le_antisymm t.first_is.in_range l))))

        whole : 2 ^ (ρ - t.first) * 2 ^ t.first ≡ 2 ^ ρ
        whole = pow_sum (ρ - t.first) t.first ρ (omega (arith, less))

        doubled : 2 ^ (ρ - t.first - 1) * 2 ≡ 2 ^ (ρ - t.first)
        doubled = pow_sum (ρ - t.first - 1) 1 (ρ - t.first) (omega (arith, less))

  ends : Ends
  ends = by g refl
    where
      decided : g ≡ 0 → (b : Bool) → eqb t.v (2 ^ ρ) ≡ b → Ends
      decided q true p = even q (eqb-true t.v (2 ^ ρ) p)
      decided q false p = uneven q (eqb-false t.v (2 ^ ρ) p)

      by : (k : ℕ) → g ≡ k → Ends
      by zero q = decided q (eqb t.v (2 ^ ρ)) refl
      by (suc k) q = long k q

-- ---- at l and all widths above it there is a word, of either sign, and below it there is none
pub record BeginsAt (m l : ℕ) : Type 0 where
  pub least : 2 ≤ l
  pub has : (n : ℕ) → 2 ≤ n → n ≤ 64 → l ≤ n → (s : Bool) → (w : ℕ) × HasValue n s (m * 2 ^ 307) w
  pub none : (n : ℕ) → 2 ≤ n → n ≤ 64 → (s : Bool) (w : ℕ) → HasValue n s (m * 2 ^ 307) w → l ≤ n

pub a_length : (m : ℕ) (t : Letters m) → m < 2 ^ 64 → (l : ℕ) × (pos l ≡ corrected_length t)
a_length m t small = let e = ends m t small in (5 + g m t small + ρ m t small - e.z, sym e.length)

pub begins_at : (m l : ℕ) (t : Letters m) → m < 2 ^ 64 → pos l ≡ corrected_length t → BeginsAt m l
begins_at m l t small is = record {
  least = omega (arith, same, e.least);
  has = λ n lo hi le s. let room : 5 + g m t small + ρ m t small ≤ n + e.z = omega (arith, same, le) in
      subst (λ (z : ℕ). (w : ℕ) × HasValue n s z w) (unit m t small)
      (wide_enough n lo hi (ρ m t small) (h m t small) (g m t small) (o m t small) e.part.q e.z (log m t small) (short m t small) (inside m t small) (low m t small) (le_of_lt (high m t small)) e.part.is (e.fine (omega (arith, room, hi))) room s);
  none = λ n lo hi s w x. let needed : 5 + g m t small + ρ m t small ≤ n + e.z = width_needed n lo hi (ρ m t small) (h m t small) (g m t small) (o m t small) e.part.q e.z (log m t small) (short m t small) (inside m t small) (low m t small) (le_of_lt (high m t small)) e.part.is e.part.odd s w (subst (λ (z : ℕ). HasValue n s z w) (sym (unit m t small)) x) in
      omega (arith, same, needed, e.least);
}
  where
    e : Ends m t small
    e = ends m t small

    same : l ≡ 5 + g m t small + ρ m t small - e.z
    same = ap nat_abs (is ∙ e.length)

-- ---- the letters as the machine counts them
pub record Counted (m v w log : ℕ) : Type 0 where
  pub top : ℕ
  pub top_is : IsLog m top
  pub v_is : v ≡ 1 + top
  pub w_is : IsMax N0 m w
  pub log_is : IsLog v log
  pub few : w + 1 ≤ v
  pub most : v ≤ 64
  pub short : log < 8

pub counted : (m top log : ℕ) → zero < m → m < 2 ^ 64 → 2 ^ top ≤ m → m < 2 * 2 ^ top → 2 ^ log ≤ top + 1 → top + 1 < 2 * 2 ^ log → Counted m (top + 1) (count_trailing_zeros 64 m) log
counted m top log some fits low high log_low log_high = record {
  top = top;
  top_is = is_log m top low high;
  v_is = omega arith;
  w_is = greatest_of_all m (count_trailing_zeros 64 m) part;
  log_is = is_log (top + 1) log log_low log_high;
  few = omega (arith, exponent_lt (count_trailing_zeros 64 m) (suc top) (lt_of_le_of_lt (odd_part_from m (count_trailing_zeros 64 m) part) (doubled top m high)));
  most = omega (arith, short);
  short = omega (arith, exponent_lt log 7 (lt_of_le_of_lt log_low (omega (arith, short))));
}
  where
    doubled : (k a : ℕ) → a < 2 * 2 ^ k → a < 2 ^ suc k
    doubled k a h = omega (arith, h, two-pow-succ k)

    is_log : (a k : ℕ) → 2 ^ k ≤ a → a < 2 * 2 ^ k → IsLog a k
    is_log a k low high = record { low = low; high = subst (λ (j : ℕ). a < 2 ^ j) (sym (add-one k)) (doubled k a high) }

    short : top < 64
    short = exponent_lt top 64 (lt_of_le_of_lt low fits)

    part : OddPart m (count_trailing_zeros 64 m)
    part = trailing_odd 64 m some fits

-- a reduction takes off no more than where it is made
at_most : (b : Bool) (a k : ℕ) → a ≤ k → when b a ≤ k
at_most true a k h = h
at_most false a k h = zero-le

pub first_few : (v w log r : ℕ) → IsFirstReduction v w log r → r ≤ log
unfolding IsFirstReduction UpTo
first_few v w log r x = omega (arith, x.2, at_most (eqb (w + 1) v) x.0 log x.1.in_range)

pub last_few : (v w log r : ℕ) → IsLastReduction v w log r → r ≤ 3
unfolding IsLastReduction UpTo
last_few v w log r x = omega (arith, x.2, at_most (eqb (w + 1) v && eqb v (2 ^ log)) x.0 3 x.1.in_range)

pub length_counted : (m v w log r r' : ℕ) → Counted m v w log → IsFirstReduction v w log r → IsLastReduction v w log r' → IsLength m (4 + v + log - w - r - r')
unfolding IsLength IsFirstReduction IsLastReduction UpTo corrected_length reduced_once
length_counted m v w log r r' k x y = (
  record { top = k.top; v = v; top_is = k.top_is; v_is = k.v_is; w = w; w_is = k.w_is; log = log; log_is = k.log_is; first = x.0; first_is = x.1; last = y.0; last_is = y.1 },
  sym (differences (4 + v + log) w r r' (omega (arith, k.few, first_few v w log r x, last_few v w log r' y))) ∙ ap₂ (λ (a b : ℕ). pos (4 + v + log) -ℤ pos w -ℤ pos a -ℤ pos b) x.2 y.2,
)
