-- Counting the positions that have a property: there is one number, it is at most the number of positions, and it is that where all have it. Assumes
-- nothing.
use mathlib.Core.Path.{◌≡◌, refl, sym, ap, ◌∙◌, subst, subst₂}
use mathlib.Core.Bool.{Bool, true, false}
use Prim.Native.Nat.{ℕ, zero, suc, ◌+◌, ◌≤◌, ◌<◌}
use native.Mathlib.Nat.{le_refl}
use native.Mathlib.Decide.{dec_lt}
use native.Mathlib.Numerals.{add-one}
use native.Mathlib.Omega.{arith}
use mir.Val.{bool_byte}
use Rattle.bounds.proofs.Powers.{not_more}
use Rattle.column.specs.Counts.{Counts, none, one_more, no_more}

module _ {P : ℕ → Type 0} where
  pub counts_le : {count many : ℕ} → Counts P count many → many ≤ count
  counts_le none = le_refl 0
  counts_le (one_more {count} {many} x h) = let t = counts_le x in omega (arith, t)
  counts_le (no_more {count} {many} x f) = let t = counts_le x in omega (arith, t)

  -- one position further, of which a flag tells whether it has the property
  pub counts_further : (count many : ℕ) (b : Bool) → Counts P count many → (b ≡ true → P count) → (b ≡ false → P count → ⊥) → (more : ℕ) → more ≡ many + bool_byte b → Counts P (count + 1) more
  counts_further count many true x has lacks more q = subst₂ (Counts P) (sym (add-one count)) (sym (q ∙ add-one many)) (one_more x (has refl))
  counts_further count many false x has lacks more q = subst₂ (Counts P) (sym (add-one count)) (sym (q ∙ omega arith)) (no_more x (lacks refl))

  -- there is one number
  pub counts_one : {count many many' : ℕ} → Counts P count many → Counts P count many' → many ≡ many'
  counts_one none none = refl
  counts_one (one_more x h) (one_more y g) = ap suc (counts_one x y)
  counts_one (one_more x h) (no_more y g) = absurd (g h)
  counts_one (no_more x f) (one_more y g) = absurd (f g)
  counts_one (no_more x f) (no_more y g) = counts_one x y

  -- all positions have it exactly where the number is theirs
  pub counts_all : (count : ℕ) → ((i : ℕ) → i < count → P i) → Counts P count count
  counts_all zero h = none
  counts_all (suc count) h = one_more (counts_all count (λ i l. h i (omega (arith, l)))) (h count (omega arith))

  pub counted_all : {count many : ℕ} → Counts P count many → many ≡ count → (i : ℕ) → i < count → P i
  counted_all none q i l = absurd (omega (arith, l))
  counted_all (one_more {count} {many} x h) q i l = by (dec_lt i count) (λ p. counted_all x same i p)
    where
      same : many ≡ count
      same = omega (arith, q)

      last : count ≤ i → count ≡ i
      last g = omega (arith, g, l)

      by : Dec (i < count) → (i < count → P i) → P i
      by (yes p) f = f p
      by (no g) f = subst P (last (not_more g)) h
  counted_all (no_more {count} {many} x f) q i l = let t = counts_le x in absurd (omega (arith, t, q))

-- and it turns on the property alone
pub counts_alike : {P Q : ℕ → Type 0} {count many : ℕ} → ((i : ℕ) → i < count → P i → Q i) → ((i : ℕ) → i < count → Q i → P i) → Counts P count many → Counts Q count many
counts_alike f g none = none
counts_alike f g (one_more {count} {many} x h) = one_more (counts_alike (λ i l. f i (omega (arith, l))) (λ i l. g i (omega (arith, l))) x) (f count (omega arith) h)
counts_alike f g (no_more {count} {many} x h) = no_more (counts_alike (λ i l. f i (omega (arith, l))) (λ i l. g i (omega (arith, l))) x) (λ y. h (g count (omega arith) y))
