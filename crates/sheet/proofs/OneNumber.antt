-- Two blocks whose numbers, A and B are the same but for number i have the same bytes but for the four of number i, of which one at least isn't. Assumes nothing.
use Rattle.std.proofs.Common.{◌≡◌, ℕ, zero, suc, ◌+◌, ◌*◌, ◌/◌, ◌<◌, ◌≤◌, List, length, get_or, sym, refl, ◌∙◌, ap₂, ⊎_elim, le_refl, arith}
use native.Mathlib.Decide.{dec_lt, ℕ_discrete}
use lib.ListN.{get_or-eq_default}
use Rattle.bounds.proofs.Powers.{not_more}
use Rattle.sheet.specs.Layout.{AreBytes, number, number_at, numbers, A, B}
use Rattle.sheet.specs.Changes.{ChangedWithin}
use Rattle.sheet.proofs.LittleEndian.{number_at_suc, bytes_same}
use Rattle.sheet.proofs.Packing.{numbers_at}

-- numbers that differ have a byte that differs
abbrev Differing : ℕ → ℕ → List ℕ → List ℕ → Type 0
Differing k i xs ys = (j : ℕ) × (i ≤ j) × (j < i + k) × (get_or xs j 0 ≡ get_or ys j 0 → ⊥)

byte_differs : (k i : ℕ) (xs ys : List ℕ) → (number_at k i xs ≡ number_at k i ys → ⊥) → Differing k i xs ys
unfolding number_at number
byte_differs zero i xs ys f = absurd (f refl)
byte_differs (suc k) i xs ys f = by (ℕ_discrete (get_or xs i 0) (get_or ys i 0)) (byte_differs k (suc i) xs ys)
  where
    by : Dec (get_or xs i 0 ≡ get_or ys i 0) → ((number_at k (suc i) xs ≡ number_at k (suc i) ys → ⊥) → Differing k (suc i) xs ys) → Differing (suc k) i xs ys
    by (no g) on = (i, le_refl i, omega arith, g)
    by (yes e) on = let t = on (λ q. f (number_at_suc k i xs ∙ ap₂ (λ (x y : ℕ). x + 256 * y) e q ∙ sym (number_at_suc k i ys))) in
        (t.0, omega (arith, t.1), omega (arith, t.2), t.3)

module _ (i : ℕ) (old new : List ℕ) (bo : AreBytes old) (bn : AreBytes new) (bytes : length old ≡ 512) (size : length new ≡ length old) (others : (j : ℕ) → (j ≡ i → ⊥) → get_or (numbers new) j 0 ≡ get_or (numbers old) j 0) (same_A : A new ≡ A old) (same_B : B new ≡ B old) where
  -- the bytes of another number, of A and of B, and past the end
  of_number : (j : ℕ) → j < 504 → (j / 4 ≡ i → ⊥) → get_or new j 0 ≡ get_or old j 0
  of_number j h other = bytes_same 4 (4 * (j / 4)) new old bn bo (sym (numbers_at new (j / 4) (omega (arith, h))) ∙ others (j / 4) other ∙ numbers_at old (j / 4) (omega (arith, h))) j (omega arith) (omega arith)

  elsewhere : (j : ℕ) → (j / 4 ≡ i → ⊥) → get_or new j 0 ≡ get_or old j 0
  unfolding A B
  elsewhere j other = by (dec_lt j 504) (dec_lt j 508) (dec_lt j 512)
    where
      by : Dec (j < 504) → Dec (j < 508) → Dec (j < 512) → get_or new j 0 ≡ get_or old j 0
      by (yes h) d e = of_number j h other
      by (no f) (yes h) e = bytes_same 4 504 new old bn bo same_A j (not_more f) h
      by (no f) (no g) (yes h) = bytes_same 4 508 new old bn bo same_B j (not_more g) h
      by (no f) (no g) (no h) = get_or-eq_default new 0 (omega (arith, not_more h, size, bytes)) ∙ sym (get_or-eq_default old 0 (omega (arith, not_more h, bytes)))

  pub changed_within : i < 126 → (get_or (numbers new) i 0 ≡ get_or (numbers old) i 0 → ⊥) → ChangedWithin i old new
  changed_within one_of_126 differs =
      let t = byte_differs 4 (4 * i) new old (λ q. differs (numbers_at new i one_of_126 ∙ q ∙ sym (numbers_at old i one_of_126))) in
      record {
        one_of_126 = one_of_126;
        size = size;
        outside = λ j o. elsewhere j (λ q. ⊎_elim (λ l. omega (arith, q, l)) (λ l. omega (arith, q, l)) o);
        j = t.0;
        from = t.1;
        to = t.2;
        differs = t.3;
      }
