-- Little-endian numbers: a longer one is made of two shorter ones, each is below the power of two that its bytes allow, and none has the bytes of another.
-- Assumes nothing.
use Rattle.std.proofs.Common.{◌≡◌, ℕ, zero, suc, ◌+◌, ◌-◌, ◌*◌, ◌%◌, ◌^◌, ◌<◌, ◌≤◌, List, [], ◌∷◌, ◌++◌, length, get_or, take, drop, sym, refl, ap, ◌∙◌, subst, ap₂, ⊎_elim, le_refl, eq-or-lt_of_le, arith, length-drop, length-take-le, get_or-drop, drop-cons, drop-drop, take-add, pow_pos, pow-add, mod-eq_of_lt, lt_of_lt_of_le, take_all, take-append-drop, get_or-take, lit<}
use lib.ListN.{get_or-eq_default}
use lib.Pow.{pow_mono}
use lib.Seq.{take-nil}
use mathlib.Core.List.{reverse, reverse-cons}
use native.Mathlib.Decide.{dec_lt}
use Rattle.std.proofs.lemmas.List.Sums.{fold_push}
use Rattle.std.proofs.lemmas.Nat.{or_shifted}
use Rattle.std.specs.Int.{w64, to_le_bytes}
use Rattle.std.specs.List.{fold}
use Rattle.std.specs.Prelude.{bit_or}
use Rattle.bounds.proofs.Powers.{not_more}
use Rattle.sheet.specs.Layout.{AreBytes, number, number_at}

byte_more : (n : ℕ) → 2 ^ (8 * suc n) ≡ 256 * 2 ^ (8 * n)
byte_more n = ap (λ (k : ℕ). 2 ^ k) more ∙ pow-add 2 8 (8 * n)
  where
    more : 8 * suc n ≡ 8 + 8 * n
    more = omega arith

number_append : (xs ys : List ℕ) → number (xs ++ ys) ≡ number xs + number ys * 2 ^ (8 * length xs)
unfolding number
number_append [] ys = omega arith
number_append (x ∷ xs) ys = omega (arith, number_append xs ys, ap (λ (u : ℕ). number ys * u) (byte_more (length xs)))

module _ (j k i : ℕ) (bytes : List ℕ) (fits : i + j ≤ length bytes) where
  first_length : length (take j (drop i bytes)) ≡ j
  first_length = length-take-le j (drop i bytes) (omega (arith, length-drop i bytes))

  pub number_at_split : number_at (j + k) i bytes ≡ number_at j i bytes + number_at k (i + j) bytes * 2 ^ (8 * j)
  unfolding number_at
  number_at_split =
      ap number (take-add j k (drop i bytes) ∙ ap (λ (l : List ℕ). take j (drop i bytes) ++ take k l) (drop-drop j i bytes))
      ∙ number_append (take j (drop i bytes)) (take k (drop (i + j) bytes))
      ∙ ap (λ (n : ℕ). number (take j (drop i bytes)) + number (take k (drop (i + j) bytes)) * 2 ^ (8 * n)) first_length

pub number_at_one : (i : ℕ) (bytes : List ℕ) → i < length bytes → number_at 1 i bytes ≡ get_or bytes i 0
unfolding number_at number
number_at_one i bytes h = ap (λ (l : List ℕ). number (take 1 l)) (drop-cons bytes i 0 h) ∙ omega arith

below : (k : ℕ) (bytes : List ℕ) → AreBytes bytes → number (take k bytes) < 2 ^ (8 * k)
unfolding number AreBytes
below zero bytes small = omega arith
below (suc k) [] small = pow_pos (8 * suc k)
below (suc k) (b ∷ bytes) small = omega (arith, byte_more k, small 0, below k bytes (λ j. small (suc j)))

-- what is left of bytes are bytes
pub bytes_left : (i : ℕ) (bytes : List ℕ) → AreBytes bytes → AreBytes (drop i bytes)
unfolding AreBytes
bytes_left i bytes small j = subst (λ (x : ℕ). x < 256) (sym (get_or-drop i bytes j 0)) (small (i + j))

pub number_at_below : (k i : ℕ) (bytes : List ℕ) → AreBytes bytes → number_at k i bytes < 2 ^ (8 * k)
unfolding number_at
number_at_below k i bytes small = below k (drop i bytes) (bytes_left i bytes small)

-- ---- byte by byte
pub number_at_suc : (k i : ℕ) (bytes : List ℕ) → number_at (suc k) i bytes ≡ get_or bytes i 0 + 256 * number_at k (suc i) bytes
unfolding number_at number
number_at_suc k zero [] = omega (arith, ap number (take-nil {A = ℕ} k))
number_at_suc k zero (b ∷ bytes) = refl
number_at_suc k (suc i) [] = omega (arith, ap number (take-nil {A = ℕ} k))
number_at_suc k (suc i) (b ∷ bytes) = number_at_suc k i bytes

-- the same bytes are the same number
pub number_same : (k i : ℕ) (xs ys : List ℕ) → ((j : ℕ) → i ≤ j → j < i + k → get_or xs j 0 ≡ get_or ys j 0) → number_at k i xs ≡ number_at k i ys
unfolding number_at number
number_same zero i xs ys same = refl
number_same (suc k) i xs ys same =
    number_at_suc k i xs
    ∙ ap₂ (λ (b n : ℕ). b + 256 * n) (same i (le_refl i) (omega arith)) (number_same k (suc i) xs ys (λ j h h'. same j (omega arith) (omega arith)))
    ∙ sym (number_at_suc k i ys)

-- and the same number has the same bytes
pub bytes_same : (k i : ℕ) (xs ys : List ℕ) → AreBytes xs → AreBytes ys → number_at k i xs ≡ number_at k i ys → (j : ℕ) → i ≤ j → j < i + k → get_or xs j 0 ≡ get_or ys j 0
unfolding AreBytes
bytes_same zero i xs ys bx by e j h h' = absurd (omega arith)
bytes_same (suc k) i xs ys bx by e j h h' = ⊎_elim (λ (q : i ≡ j). subst (λ (x : ℕ). get_or xs x 0 ≡ get_or ys x 0) q first) (λ (q : i < j). bytes_same k (suc i) xs ys bx by rest j q (omega (arith, h'))) (eq-or-lt_of_le h)
  where
    first : get_or xs i 0 ≡ get_or ys i 0
    first = omega (arith, number_at_suc k i xs, number_at_suc k i ys, e, bx i, by i)

    rest : number_at k (suc i) xs ≡ number_at k (suc i) ys
    rest = omega (arith, number_at_suc k i xs, number_at_suc k i ys, e, bx i, by i)

-- ---- taken from the highest byte down, each below what was taken
abbrev pub below_next : ℕ → ℕ → ℕ
below_next x b = bit_or (x * 2 ^ 8 % 2 ^ 64) b

pub from_the_top : (bytes : List ℕ) → AreBytes bytes → length bytes ≤ 8 → fold below_next 0 (reverse bytes) ≡ number bytes
unfolding number AreBytes
from_the_top [] small few = refl
from_the_top (b ∷ bytes) small few =
    ap (fold below_next 0) (reverse-cons b bytes) ∙ fold_push below_next 0 (reverse bytes) b
    ∙ ap (λ (x : ℕ). below_next x b) (from_the_top bytes (λ j. small (suc j)) (omega (arith, few)))
    ∙ ap (λ (x : ℕ). bit_or x b) (mod-eq_of_lt fits) ∙ or_shifted (number bytes) 8 b (small 0) ∙ omega arith
  where
    whole : number bytes < 2 ^ (8 * length bytes)
    whole = subst (λ (l : List ℕ). number l < 2 ^ (8 * length bytes)) (take_all (length bytes) bytes (le_refl (length bytes))) (below (length bytes) bytes (λ j. small (suc j)))

    fits : number bytes * 2 ^ 8 < 2 ^ 64
    fits = omega (arith, lt_of_lt_of_le whole (pow_mono {i = 8 * length bytes} {j = 56} (omega (arith, few))))

pub number_from_the_top : (k i : ℕ) (bytes : List ℕ) {x : ℕ} → k ≤ 8 → i + k ≤ length bytes → ((j : ℕ) → get_or bytes j 0 < 256) → x ≡ fold below_next 0 (reverse (take (i + k - i) (drop i bytes))) → (x ≡ number_at k i bytes) × (x < 2 ^ (8 * k))
unfolding number_at AreBytes
number_from_the_top k i bytes {x} few fits small e = (is, subst (λ (n : ℕ). n < 2 ^ (8 * k)) (sym is) (number_at_below k i bytes small))
  where
    same : i + k - i ≡ k
    same = omega arith

    bytes_taken : (j : ℕ) → get_or (take k (drop i bytes)) j 0 < 256
    bytes_taken j = by (dec_lt j k)
      where
        by : Dec (j < k) → get_or (take k (drop i bytes)) j 0 < 256
        by (yes l) = subst (λ (b : ℕ). b < 256) (sym (get_or-take k (drop i bytes) j 0 l ∙ get_or-drop i bytes j 0)) (small (i + j))
        by (no f) = subst (λ (b : ℕ). b < 256) (sym (get_or-eq_default (take k (drop i bytes)) 0 (omega (arith, not_more f, first_length k 0 i bytes fits)))) (lit< tt)

    is : x ≡ number (take k (drop i bytes))
    is = e ∙ ap (λ (n : ℕ). fold below_next 0 (reverse (take n (drop i bytes)))) same ∙ from_the_top (take k (drop i bytes)) bytes_taken (omega (arith, few, first_length k 0 i bytes fits))

-- the low bytes of a number that has no more
pub low_bytes : (k x : ℕ) (bytes : List ℕ) → k ≤ length bytes → number bytes ≡ x → x < 2 ^ (8 * k) → number (take k bytes) ≡ x
low_bytes k x bytes h e small = by (number (drop k bytes)) (sym e ∙ ap number (sym (take-append-drop k bytes)) ∙ number_append (take k bytes) (drop k bytes) ∙ ap (λ (n : ℕ). number (take k bytes) + number (drop k bytes) * 2 ^ (8 * n)) (length-take-le k bytes h))
  where
    by : (high : ℕ) → x ≡ number (take k bytes) + high * 2 ^ (8 * k) → number (take k bytes) ≡ x
    by zero q = omega (arith, q)
    by (suc high) q = absurd (omega (arith, q, small))

-- all eight bytes of a number
pub eight_bytes : (x : ℕ) → x < 2 ^ 64 → number (to_le_bytes w64 x) ≡ x
unfolding number
eight_bytes x h = omega (arith, h)
