-- Packed numbers: how many there are, which one stands where, and what a turn that stores one of them leaves. Assumes nothing.
use Rattle.std.proofs.Common.{◌≡◌, ℕ, zero, suc, ◌+◌, ◌-◌, ◌*◌, ◌<◌, ◌≤◌, List, [], ◌∷◌, ◌++◌, length, get_or, take, drop, set, sym, refl, ap, ◌∙◌, ap₂, le_of_suc-le-suc, not-suc-le-zero, add-sub_of_le, mul-le-mul_left, add-one, arith, get_or-drop, take_all, drop_of_length-le, drop-drop, ext_get_or}
use mathlib.Core.List.{append-nil}
use native.Mathlib.Decide.{dec_lt}
use Rattle.bounds.proofs.Powers.{not_more}
use Rattle.sheet.specs.Layout.{AreBytes, number, number_at, packed, numbers}
use Rattle.sheet.proofs.LittleEndian.{number_same, bytes_same, bytes_left}

pub packed_length : (k n : ℕ) (bytes : List ℕ) → length (packed k n bytes) ≡ n
unfolding packed
packed_length k zero bytes = refl
packed_length k (suc n) bytes = ap suc (packed_length k n (drop k bytes))

pub number_at_drop : (k i j : ℕ) (bytes : List ℕ) → number_at k i (drop j bytes) ≡ number_at k (j + i) bytes
unfolding number_at
number_at_drop k i j bytes = ap (λ (l : List ℕ). number (take k l)) (drop-drop i j bytes)

pub packed_at : (k n : ℕ) (bytes : List ℕ) (j : ℕ) → j < n → get_or (packed k n bytes) j 0 ≡ number_at k (k * j) bytes
unfolding packed number_at
packed_at k zero bytes j h = absurd (not-suc-le-zero h)
packed_at k (suc n) bytes zero h =
    let start : 0 ≡ k * zero = omega arith in
    ap (λ (i : ℕ). number (take k (drop i bytes))) start
packed_at k (suc n) bytes (suc j) h =
    let next : k + k * j ≡ k * suc j = omega arith in
    packed_at k n (drop k bytes) j (le_of_suc-le-suc h) ∙ number_at_drop k (k * j) k bytes ∙ ap (λ (i : ℕ). number_at k i bytes) next

-- the same numbers are packed of the same bytes
pub packed_same : (k n : ℕ) (xs ys : List ℕ) → AreBytes xs → AreBytes ys → packed k n xs ≡ packed k n ys → (j : ℕ) → j < k * n → get_or xs j 0 ≡ get_or ys j 0
unfolding packed number_at
packed_same k zero xs ys bx by e j h = absurd (omega (arith, h))
packed_same k (suc n) xs ys bx by e j h = at (dec_lt j k) (packed_same k n (drop k xs) (drop k ys) (bytes_left k xs bx) (bytes_left k ys by) rest)
  where
    first : number_at k 0 xs ≡ number_at k 0 ys
    first = cc

    rest : packed k n (drop k xs) ≡ packed k n (drop k ys)
    rest = cc

    at : Dec (j < k) → ((i : ℕ) → i < k * n → get_or (drop k xs) i 0 ≡ get_or (drop k ys) i 0) → get_or xs j 0 ≡ get_or ys j 0
    at (yes l) on = bytes_same k 0 xs ys bx by first j (omega arith) (omega (arith, l))
    at (no f) on =
        let beyond : k + (j - k) ≡ j = add-sub_of_le (not_more f) in
        ap (λ (i : ℕ). get_or xs i 0) (sym beyond) ∙ sym (get_or-drop k xs (j - k) 0)
        ∙ on (j - k) (omega (arith, h, not_more f))
        ∙ get_or-drop k ys (j - k) 0 ∙ ap (λ (i : ℕ). get_or ys i 0) beyond

-- a turn that stores the next of the numbers xs into a list that had `before` at first
store : (xs before : List ℕ) (i : ℕ) → i < length xs → i < length before → set (take i xs ++ drop i before) i (get_or xs i 0) ≡ take (suc i) xs ++ drop (suc i) before
store [] before i h k = absurd (not-suc-le-zero h)
store (x ∷ xs) [] i h k = absurd (not-suc-le-zero k)
store (x ∷ xs) (y ∷ before) zero h k = refl
store (x ∷ xs) (y ∷ before) (suc i) h k = ap (λ (l : List ℕ). x ∷ l) (store xs before i (le_of_suc-le-suc h) (le_of_suc-le-suc k))

stored : (xs before now : List ℕ) (i x : ℕ) → i < length xs → i < length before → now ≡ take i xs ++ drop i before → x ≡ get_or xs i 0 → set now i x ≡ take (i + 1) xs ++ drop (i + 1) before
stored xs before now i x h k e q = ap₂ (λ (l : List ℕ) (y : ℕ). set l i y) e q ∙ store xs before i h k ∙ ap (λ (j : ℕ). take j xs ++ drop j before) (sym (add-one i))

-- ---- the numbers and the words of a block
pub numbers_length : (block : List ℕ) → length (numbers block) ≡ 126
unfolding numbers
numbers_length block = packed_length 4 126 block

pub numbers_at : (block : List ℕ) (i : ℕ) → i < 126 → get_or (numbers block) i 0 ≡ number_at 4 (4 * i) block
unfolding numbers
numbers_at block i h = packed_at 4 126 block i h

-- the same bytes up to byte 503 are the same numbers
pub numbers_same : (xs ys : List ℕ) → ((j : ℕ) → j < 504 → get_or xs j 0 ≡ get_or ys j 0) → numbers xs ≡ numbers ys
numbers_same xs ys same = ext_get_or 0 (numbers xs) (numbers ys) (numbers_length xs ∙ sym (numbers_length ys)) (λ i h. each i (omega (arith, h, numbers_length xs)))
  where
    each : (i : ℕ) → i < 126 → get_or (numbers xs) i 0 ≡ get_or (numbers ys) i 0
    each i h = numbers_at xs i h ∙ number_same 4 (4 * i) xs ys (λ j l u. same j (omega (arith, u, h))) ∙ sym (numbers_at ys i h)

-- packed from byte 8
pub words_at : (k n : ℕ) (block : List ℕ) (j : ℕ) → j < n → get_or (packed k n (drop 8 block)) j 0 ≡ number_at k (8 + k * j) block
words_at k n block j h = packed_at k n (drop 8 block) j h ∙ number_at_drop k (k * j) 8 block

pub word_inside : (k n j : ℕ) → j < n → k * j + k ≤ k * n
word_inside k n j h = omega (arith, mul-le-mul_left k h)

-- the loop that unpacks them
module _ (k n : ℕ) (block before now : List ℕ) (i : ℕ) where
  abbrev words : List ℕ
  words = packed k n (drop 8 block)

  pub unpacked_more : (x : ℕ) → i < n → n ≤ length before → x ≡ number_at k (8 + k * i) block → now ≡ take i words ++ drop i before → set now i x ≡ take (i + 1) words ++ drop (i + 1) before
  unpacked_more x h room q e =
      let inside : i < length words = omega (arith, packed_length k n (drop 8 block)) in
      stored words before now i x inside (omega arith) e (q ∙ sym (words_at k n block i h))

  pub unpacked_all : n ≤ i → length before ≤ i → now ≡ take i words ++ drop i before → now ≡ words
  unpacked_all h h' e =
      let whole : length words ≤ i = omega (arith, packed_length k n (drop 8 block)) in
      e ∙ ap₂ (λ (xs ys : List ℕ). xs ++ ys) (take_all i words whole) (drop_of_length-le before h') ∙ append-nil words
