-- Bytes are all zero exactly if their sum is, and exactly if each of them is. Assumes nothing.
use Rattle.std.proofs.Common.{◌≡◌, ℕ, zero, suc, ◌+◌, ◌-◌, ◌<◌, ◌≤◌, true, eqb, List, [], ◌∷◌, get_or, take, sym, refl, ap, ◌∙◌, add-sub_of_le, arith, length-take, get_or-drop, get_or-take, eq-eqb, ne_eqb, eqb-true}
use native.Mathlib.Decide.{dec_lt}
use lib.ListN.{get_or-eq_default}
use lib.Seq.{slice}
use Rattle.bounds.proofs.Powers.{not_more}
use Rattle.bounds.proofs.Verdicts.{both}
use Rattle.std.proofs.lemmas.List.Recursion.{is_sum_by}
use Rattle.std.specs.List.{sum}
use Rattle.sheet.specs.Sums.{total}
use Rattle.sheet.specs.Reads.{all_zero}

pub zero_when : (bytes : List ℕ) → all_zero bytes ≡ eqb (total bytes) 0
unfolding all_zero total
zero_when [] = refl
zero_when (zero ∷ bytes) =
    let none : total bytes ≡ 0 + total bytes = omega arith in
    zero_when bytes ∙ ap (λ (x : ℕ). eqb x 0) none
zero_when (suc b ∷ bytes) = rw (ne_eqb (suc b) 0 (λ h. omega arith)) (sym (ne_eqb (suc b + total bytes) 0 (λ h. omega arith)))

pub total_is : (bytes : List ℕ) → total bytes ≡ sum bytes
unfolding total
total_is = is_sum_by total (λ x. x) refl (λ x xs. refl)

-- ---- byte by byte
pub zeros : (bytes : List ℕ) → all_zero bytes ≡ true → (j : ℕ) → get_or bytes j 0 ≡ 0
unfolding all_zero
zeros [] h j = refl
zeros (b ∷ bytes) h zero = eqb-true b 0 (both (eqb b 0) (all_zero bytes) h).0
zeros (b ∷ bytes) h (suc j) = zeros bytes (both (eqb b 0) (all_zero bytes) h).1 j

all_zero_lem : (bytes : List ℕ) → ((j : ℕ) → get_or bytes j 0 ≡ 0) → all_zero bytes ≡ true
unfolding all_zero
all_zero_lem [] h = refl
all_zero_lem (b ∷ bytes) h = rw (eq-eqb b 0 (h 0), all_zero_lem bytes (λ j. h (suc j)))

-- the bytes from byte `from` up to byte `to`
module _ (from to : ℕ) (bytes : List ℕ) where
  pub part_zero : all_zero (slice from to bytes) ≡ true → (j : ℕ) → from ≤ j → j < to → get_or bytes j 0 ≡ 0
  part_zero h j lo hi =
      sym (get_or-take to bytes j 0 hi)
      ∙ ap (λ (k : ℕ). get_or (take to bytes) k 0) (sym (add-sub_of_le lo))
      ∙ sym (get_or-drop from (take to bytes) (j - from) 0)
      ∙ zeros (slice from to bytes) h (j - from)

  pub zero_part : ((j : ℕ) → from ≤ j → j < to → get_or bytes j 0 ≡ 0) → all_zero (slice from to bytes) ≡ true
  zero_part h = all_zero_lem (slice from to bytes) (λ j. get_or-drop from (take to bytes) j 0 ∙ by j (dec_lt (from + j) to))
    where
      by : (j : ℕ) → Dec (from + j < to) → get_or (take to bytes) (from + j) 0 ≡ 0
      by j (yes l) = get_or-take to bytes (from + j) 0 l ∙ h (from + j) (omega arith) l
      by j (no f) = get_or-eq_default (take to bytes) 0 (omega (arith, not_more f, length-take to bytes))
