-- After a change confined to one of the 126 numbers, A isn't their sum. Assumes nothing.
use Rattle.std.proofs.Common.{◌≡◌, ℕ, ◌+◌, ◌*◌, ◌<◌, ◌≤◌, ◌⊎◌, List, get_or, sym, ap, ◌∙◌, subst, inl, inr, arith}
use native.Mathlib.Decide.{dec_lt}
use lib.Arith.{lt_of_le-ne}
use lib.ListN.{get_or-eq_default}
use Rattle.bounds.proofs.Powers.{not_more}
use Rattle.sheet.specs.Layout.{AreBytes, number_at, numbers, A, B}
use Rattle.sheet.specs.Sums.{total, sum_a}
use Rattle.sheet.specs.Changes.{ChangedWithin}
use Rattle.sheet.proofs.LittleEndian.{number_same, bytes_same, number_at_below}
use Rattle.sheet.proofs.Packing.{numbers_length, numbers_at}
use Rattle.sheet.proofs.Totals.{total_changed, sum_a_changed}

module _ (i : ℕ) (old new : List ℕ) (c : ChangedWithin i old new) where
  -- a number of four bytes outside is the same
  same_outside : (k : ℕ) → (k + 4 ≤ 4 * i) ⊎ (4 * i + 4 ≤ k) → number_at 4 k new ≡ number_at 4 k old
  same_outside k (inl h) = number_same 4 k new old (λ j l u. c.outside j (inl (omega arith)))
  same_outside k (inr h) = number_same 4 k new old (λ j l u. c.outside j (inr (omega arith)))

  pub same_A : A new ≡ A old
  unfolding A
  same_A = same_outside 504 (inr (omega (arith, c.one_of_126)))

  pub same_B : B new ≡ B old
  unfolding B
  same_B = same_outside 508 (inr (omega (arith, c.one_of_126)))

  -- the other numbers are the same
  pub others : (j : ℕ) → (j ≡ i → ⊥) → get_or (numbers new) j 0 ≡ get_or (numbers old) j 0
  others j f = by (dec_lt j 126) (dec_lt j i)
    where
      past : (block : List ℕ) → 126 ≤ j → get_or (numbers block) j 0 ≡ 0
      past block h = get_or-eq_default (numbers block) 0 (subst (λ (n : ℕ). n ≤ j) (sym (numbers_length block)) h)

      by : Dec (j < 126) → Dec (j < i) → get_or (numbers new) j 0 ≡ get_or (numbers old) j 0
      by (yes h) (yes l) = numbers_at new j h ∙ same_outside (4 * j) (inl (omega (arith, l))) ∙ sym (numbers_at old j h)
      by (yes h) (no l) =
          let above : i < j = lt_of_le-ne (not_more l) (λ q. f (sym q)) in
          numbers_at new j h ∙ same_outside (4 * j) (inr (omega (arith, above))) ∙ sym (numbers_at old j h)
      by (no h) l = past new (not_more h) ∙ sym (past old (not_more h))

  module _ (bo : AreBytes old) (bn : AreBytes new) where
    -- number i isn't
    number_differs : number_at 4 (4 * i) new ≡ number_at 4 (4 * i) old → ⊥
    number_differs e = c.differs (bytes_same 4 (4 * i) new old bn bo e c.j c.from c.to)

    pub differs : get_or (numbers new) i 0 ≡ get_or (numbers old) i 0 → ⊥
    differs e = number_differs (sym (numbers_at new i c.one_of_126) ∙ e ∙ numbers_at old i c.one_of_126)

    -- so A isn't the sum any more
    pub sum_differs : sum_a (numbers old) ≡ A old → sum_a (numbers new) ≡ A new → ⊥
    sum_differs p q = number_differs (sum_a_changed (numbers new) (numbers old) (number_at 4 (4 * i) new) (number_at 4 (4 * i) old) (number_at_below 4 (4 * i) new bn) (number_at_below 4 (4 * i) old bo) totals (q ∙ same_A ∙ sym p))
      where
        totals : total (numbers new) + number_at 4 (4 * i) old ≡ total (numbers old) + number_at 4 (4 * i) new
        totals =
            ap (λ (x : ℕ). total (numbers new) + x) (sym (numbers_at old i c.one_of_126))
            ∙ total_changed (numbers new) (numbers old) i (numbers_length new ∙ sym (numbers_length old)) others
            ∙ ap (λ (x : ℕ). total (numbers old) + x) (numbers_at new i c.one_of_126)
