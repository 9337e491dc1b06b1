-- Two blocks that have the same content are the same bytes, all 512. Assumes nothing.
use Rattle.std.proofs.Common.{◌≡◌, ℕ, ◌+◌, ◌-◌, ◌*◌, ◌/◌, ◌<◌, ◌≤◌, true, eqb, List, length, get_or, drop, sym, ap, ◌∙◌, subst, ap₂, add-sub_of_le, arith, get_or-drop, ext_get_or, eqb-true}
use native.Mathlib.Decide.{dec_lt}
use Rattle.bounds.specs.declared.refusal.Refusal.{Refusal}
use Rattle.bounds.proofs.Powers.{not_more}
use Rattle.bounds.proofs.Verdicts.{open_when, both}
use Rattle.sheet.specs.Layout.{packed, mark, width, count, block_number, word_bytes, words, end, unused, numbers, A, B}
use Rattle.sheet.specs.Sums.{sum_a, sum_b}
use Rattle.sheet.specs.Reads.{size_test, mark_test, check_test, fill_test}
use Rattle.sheet.specs.Writes.{IsBlockOf}
use Rattle.sheet.proofs.LittleEndian.{bytes_same, bytes_left}
use Rattle.sheet.proofs.Packing.{packed_same, numbers_same}
use Rattle.sheet.proofs.Unused.{part_zero}

-- ---- what a block with a content has
module _ (n number : ℕ) (content block : List ℕ) (x : IsBlockOf n number content block) where
  pub has_size : length block ≡ 512
  unfolding size_test
  has_size = eqb-true _ _ (open_when _ Refusal.Size x.sized)

  pub has_mark : mark block ≡ 0x54
  unfolding mark_test
  has_mark = eqb-true _ _ (open_when _ Refusal.Mark x.marked)

  ends : end block ≡ 8 + n / 8 * length content
  unfolding end word_bytes
  ends = ap₂ (λ (w c : ℕ). 8 + w / 8 * c) x.wide x.counted

  are_packed : packed (n / 8) (length content) (drop 8 block) ≡ content
  unfolding words word_bytes
  are_packed = sym (ap₂ (λ (w c : ℕ). packed (w / 8) c (drop 8 block)) x.wide x.counted) ∙ x.packed

  are_zero : (j : ℕ) → 8 + n / 8 * length content ≤ j → j < 504 → get_or block j 0 ≡ 0
  unfolding fill_test unused
  are_zero j lo hi = part_zero (end block) 504 block (open_when _ Refusal.Fill x.filled) j (subst (λ (k : ℕ). k ≤ j) (sym ends) lo) hi

  pub has_sums : (sum_a (numbers block) ≡ A block) × (sum_b (numbers block) ≡ B block)
  unfolding check_test
  has_sums = let t = sums in (eqb-true _ _ t.0, eqb-true _ _ t.1)
    where
      sums : (eqb (sum_a (numbers block)) (A block) ≡ true) × (eqb (sum_b (numbers block)) (B block) ≡ true)
      sums = both (eqb (sum_a (numbers block)) (A block)) (eqb (sum_b (numbers block)) (B block)) (open_when _ Refusal.Check x.checked)

-- ---- two of them
module _ (n number : ℕ) (content one other : List ℕ) (x : IsBlockOf n number content one) (y : IsBlockOf n number content other) where
  in_header : (j : ℕ) → j < 8 → get_or one j 0 ≡ get_or other j 0
  unfolding mark width count block_number
  in_header j h = by (dec_lt j 1) (dec_lt j 2) (dec_lt j 4)
    where
      by : Dec (j < 1) → Dec (j < 2) → Dec (j < 4) → get_or one j 0 ≡ get_or other j 0
      by (yes l) d e =
          let first : 0 ≡ j = omega (arith, l) in
          subst (λ (k : ℕ). get_or one k 0 ≡ get_or other k 0) first (has_mark n number content one x ∙ sym (has_mark n number content other y))
      by (no f) (yes l) e =
          let second : 1 ≡ j = omega (arith, l, not_more f) in
          subst (λ (k : ℕ). get_or one k 0 ≡ get_or other k 0) second (x.wide ∙ sym y.wide)
      by (no f) (no g) (yes l) = bytes_same 2 2 one other x.bytes y.bytes (x.counted ∙ sym y.counted) j (not_more g) l
      by (no f) (no g) (no k) = bytes_same 4 4 one other x.bytes y.bytes (x.numbered ∙ sym y.numbered) j (not_more k) h

  in_words : (j : ℕ) → 8 ≤ j → j < 8 + n / 8 * length content → get_or one j 0 ≡ get_or other j 0
  in_words j lo hi =
      ap (λ (i : ℕ). get_or one i 0) (sym (add-sub_of_le lo)) ∙ sym (get_or-drop 8 one (j - 8) 0)
      ∙ packed_same (n / 8) (length content) (drop 8 one) (drop 8 other) (bytes_left 8 one x.bytes) (bytes_left 8 other y.bytes) (are_packed n number content one x ∙ sym (are_packed n number content other y)) (j - 8) (omega (arith, lo, hi))
      ∙ get_or-drop 8 other (j - 8) 0 ∙ ap (λ (i : ℕ). get_or other i 0) (add-sub_of_le lo)

  up_to_504 : (j : ℕ) → j < 504 → get_or one j 0 ≡ get_or other j 0
  up_to_504 j h = by (dec_lt j 8) (dec_lt j (8 + n / 8 * length content))
    where
      by : Dec (j < 8) → Dec (j < 8 + n / 8 * length content) → get_or one j 0 ≡ get_or other j 0
      by (yes l) d = in_header j l
      by (no f) (yes l) = in_words j (not_more f) l
      by (no f) (no g) = are_zero n number content one x j (not_more g) h ∙ sym (are_zero n number content other y j (not_more g) h)

  same_numbers : numbers one ≡ numbers other
  same_numbers = numbers_same one other up_to_504

  pub same_bytes : one ≡ other
  unfolding A B
  same_bytes = ext_get_or 0 one other (has_size n number content one x ∙ sym (has_size n number content other y)) (λ j h. by j (omega (arith, h, has_size n number content one x)) (dec_lt j 504) (dec_lt j 508))
    where
      a : A one ≡ A other
      a = sym (has_sums n number content one x).0 ∙ ap sum_a same_numbers ∙ (has_sums n number content other y).0

      b : B one ≡ B other
      b = sym (has_sums n number content one x).1 ∙ ap sum_b same_numbers ∙ (has_sums n number content other y).1

      by : (j : ℕ) → j < 512 → Dec (j < 504) → Dec (j < 508) → get_or one j 0 ≡ get_or other j 0
      by j h (yes l) d = up_to_504 j l
      by j h (no f) (yes l) = bytes_same 4 504 one other x.bytes y.bytes a j (not_more f) l
      by j h (no f) (no g) = bytes_same 4 508 one other x.bytes y.bytes b j (not_more g) h
