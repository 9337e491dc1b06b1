-- Digits of a number: one more of them stands in front, there are as many as asked for, and how many a number needs in decimal. Assumes nothing.
use mathlib.Core.Path.{◌≡◌, refl, sym, ap, ◌∙◌, subst}
use mathlib.Core.List.{List, [], ◌∷◌, ◌++◌}
use Prim.Native.Nat.{ℕ, zero, suc, ◌+◌, ◌-◌, ◌/◌, ◌%◌, ◌^◌, ◌≤◌, ◌<◌}
use native.Mathlib.Nat.{div-one, div-div-eq-div-mul, pow-zero, pow-suc, pow-le-pow_right, mul_comm, lt_of_lt_of_le}
use native.Mathlib.Decide.{dec_lt}
use native.Mathlib.Omega.{arith}
use native.Mathlib.Numerals.{add-one}
use lib.Dec.{lit<, lit≤}
use lib.ListN.{length, take, set, length-append}
use Rattle.bounds.proofs.Powers.{not_more}
use Rattle.io.specs.Digits.{hex_digit_ascii, last_digits}
use Rattle.listing.specs.Text.{IsDecimal}
use Rattle.listing.proofs.Placed.{in_front}

pub one_more : (b j n : ℕ) → last_digits b (suc j) n ≡ hex_digit_ascii (n / b ^ j % b) ∷ last_digits b j n
one_more b zero n = ap (λ (x : ℕ). hex_digit_ascii (x % b) ∷ []) (sym (ap (λ (x : ℕ). n / x) (pow-zero b) ∙ div-one n))
one_more b (suc j) n =
    ap (λ (t : List ℕ). t ++ (hex_digit_ascii (n % b) ∷ [])) (one_more b j (n / b))
    ∙ ap (λ (x : ℕ). hex_digit_ascii (x % b) ∷ last_digits b (suc j) n) (div-div-eq-div-mul n b (b ^ j) ∙ ap (λ (x : ℕ). n / x) (mul_comm b (b ^ j) ∙ sym (pow-suc b j)))

pub as_many : (b k n : ℕ) → length (last_digits b k n) ≡ k
as_many b zero n = refl
as_many b (suc k) n = length-append (last_digits b k (n / b)) (hex_digit_ascii (n % b) ∷ []) ∙ ap (λ (x : ℕ). x + 1) (as_many b k (n / b)) ∙ add-one k

-- ---- how many digits a number has
-- a number below 10^j has no more than j of them
fewer : (n k j : ℕ) → n < 10 ^ j → 10 ^ k ≤ n → k < j
fewer n k j top h = by (dec_lt k j)
  where
    by : Dec (k < j) → k < j
    by (yes l) = l
    by (no f) = absurd (omega (arith, top, h, pow-le-pow_right {n = 10} (lit< tt) {i = j} {j = k} (not_more f)))

-- so one of 32 bits has no more than 10
pub short_decimal : (n : ℕ) (t : List ℕ) → n < 2 ^ 32 → IsDecimal n t → length t ≤ 10
unfolding IsDecimal
short_decimal n t top (k, fewest, is) = subst (λ (x : ℕ). x ≤ 10) (sym (ap length is ∙ as_many 10 k n)) (by (dec_lt 1 k))
  where
    by : Dec (1 < k) → k ≤ 10
    by (yes l) = omega (arith, fewer n (k - 1) 10 (lt_of_lt_of_le top (lit≤ tt)) (fewest.2 l))
    by (no f) = omega (arith, not_more f)

-- ---- putting digits from the last one to the first: before place i nothing has changed, and from it on the last digits stand
module _ (e : List ℕ) (base n : ℕ) where
  module _ (i : ℕ) (some : 0 < i) (most : i ≤ length e) where
    next : length e - (i - 1) ≡ suc (length e - i)
    next = omega (arith, some, most)

    pub one_in_front : set (take i e ++ last_digits base (length e - i) n) (i - 1) (hex_digit_ascii (n / base ^ (length e - i) % base)) ≡ take (i - 1) e ++ last_digits base (length e - (i - 1)) n
    one_in_front =
        let up : i ≡ suc (i - 1) = omega (arith, some) in
        ap (λ (k : ℕ). set (take k e ++ last_digits base (length e - i) n) (i - 1) (hex_digit_ascii (n / base ^ (length e - i) % base))) up
        ∙ in_front e (last_digits base (length e - i) n) (i - 1) (hex_digit_ascii (n / base ^ (length e - i) % base)) (omega (arith, some, most))
        ∙ ap (λ (t : List ℕ). take (i - 1) e ++ t) (sym (one_more base (length e - i) n) ∙ ap (λ (k : ℕ). last_digits base k n) (sym next))

    pub less_left : n / base ^ (length e - i) / base ≡ n / base ^ (length e - (i - 1))
    less_left = div-div-eq-div-mul n (base ^ (length e - i)) base ∙ ap (λ (x : ℕ). n / x) (sym (pow-suc base (length e - i)) ∙ ap (λ (k : ℕ). base ^ k) (sym next))
