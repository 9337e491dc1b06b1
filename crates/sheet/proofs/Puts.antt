-- What puts into a buffer leave there, one after the other: what stands outside stays, and two parts beside each other are one number. Assumes nothing.
use Rattle.std.proofs.Common.{◌≡◌, ℕ, ◌+◌, ◌-◌, ◌*◌, ◌^◌, ◌<◌, ◌≤◌, ◌⊎◌, List, length, get_or, take, drop, sym, refl, ap, ◌∙◌, subst, ap₂, inl, inr, ⊎_elim, arith, rules}
use borrow.Rule.Slice.PartMut.{put_mid}
use native.Mathlib.Decide.{dec_lt}
use Rattle.std.proofs.lemmas.Grind.{common_steps}
use Rattle.std.proofs.lemmas.List.{places}
use Rattle.std.proofs.lemmas.Slice.{between-put_mid}
use Rattle.bounds.proofs.Powers.{not_more}
use Rattle.sheet.specs.Layout.{number, number_at, mark, width, count, block_number, numbers, A, B}
use Rattle.sheet.specs.Puts.{Within, Puts, Packs, PutsHeader, Seals}
use Rattle.sheet.specs.Sums.{sum_a, sum_b}
use Rattle.sheet.proofs.LittleEndian.{number_at_one, number_at_split, number_same}
use Rattle.sheet.proofs.Packing.{numbers_same, word_inside}

-- ---- what stands outside
pub nothing : (from to : ℕ) (bytes : List ℕ) → Within from to bytes bytes
nothing from to bytes = record { size = refl; outside = λ j h. refl }

pub wider : {f t : ℕ} (from to : ℕ) {before after : List ℕ} → from ≤ f → t ≤ to → Within f t before after → Within from to before after
wider from to l h w = record { size = w.size; outside = λ j o. w.outside j (⊎_elim (λ k. inl (omega (arith, k, l))) (λ k. inr (omega (arith, k, h))) o) }

pub both : {from to : ℕ} {before mid after : List ℕ} → Within from to before mid → Within from to mid after → Within from to before after
both v w = record { size = w.size ∙ v.size; outside = λ j o. w.outside j o ∙ v.outside j o }

pub kept : {from to : ℕ} (k i : ℕ) {before after : List ℕ} → Within from to before after → (i + k ≤ from) ⊎ (to ≤ i) → number_at k i after ≡ number_at k i before
kept k i {before} {after} w (inl h) = number_same k i after before (λ j l u. w.outside j (inl (omega (arith, u, h))))
kept k i {before} {after} w (inr h) = number_same k i after before (λ j l u. w.outside j (inr (omega (arith, l, h))))

-- ---- numbers
-- a part that was written
module _ (a k : ℕ) (xs ys : List ℕ) (fits : a + k ≤ length xs) (long : length ys ≡ k) where
  pub part_put : Within a (a + k) xs (put_mid a k xs ys)
  part_put = record { size = grind (arith, common_steps); outside = λ j o. ⊎_elim (λ l. search (rules, places)) (λ h. search (rules, places)) o }

pub puts_part : (k i x : ℕ) (xs ys : List ℕ) → i + k ≤ length xs → length ys ≡ k → number ys ≡ x → Puts k i x xs (put_mid i (i + k - i) xs ys)
unfolding number_at
puts_part k i x xs ys fits long e =
    let same : k ≡ i + k - i = omega arith in
    subst (λ (n : ℕ). Puts k i x xs (put_mid i n xs ys)) same (record { within = part_put i k xs ys fits long; is = ap number (ap (λ (n : ℕ). take n (drop i (put_mid i k xs ys))) same ∙ between-put_mid i k xs ys (i + k) (omega (arith, fits)) (long ∙ same)) ∙ e })

-- two parts beside each other
pub puts_two : (j k i lo hi x : ℕ) {before mid after : List ℕ} → i + j ≤ length before → Puts j i lo before mid → Puts k (i + j) hi mid after → lo + hi * 2 ^ (8 * j) ≡ x → Puts (j + k) i x before after
puts_two j k i lo hi x {before} {mid} {after} fits p q e = record {
  within = both (wider i (i + (j + k)) (omega arith) (omega arith) p.within) (wider i (i + (j + k)) (omega arith) (omega arith) q.within);
  is = number_at_split j k i after (omega (arith, fits, p.within.size, q.within.size)) ∙ ap₂ (λ (a b : ℕ). a + b * 2 ^ (8 * j)) (kept j i q.within (inl (omega arith)) ∙ p.is) q.is ∙ e;
}

-- ---- the header
pub headed : {n many number : ℕ} {before first second third after : List ℕ} → 8 ≤ length before → Puts 1 0 0x54 before first → Puts 1 1 n first second → Puts 2 2 many second third → Puts 4 4 number third after → PutsHeader n many number before after
unfolding mark width count block_number
headed {before = before} {first} {second} {third} {after} fits m w c b = record {
  within = both (wider 0 8 (omega arith) (omega arith) m.within) (both (wider 0 8 (omega arith) (omega arith) w.within) past_width);
  marked = sym (number_at_one 0 after (omega (arith, fits, size))) ∙ kept 1 0 past_count (inl (omega arith)) ∙ kept 1 0 w.within (inl (omega arith)) ∙ m.is;
  wide = sym (number_at_one 1 after (omega (arith, fits, size))) ∙ kept 1 1 past_count (inl (omega arith)) ∙ w.is;
  counted = kept 2 2 b.within (inl (omega arith)) ∙ c.is;
  numbered = b.is;
}
  where
    past_count : Within 2 8 second after
    past_count = both (wider 2 8 (omega arith) (omega arith) c.within) (wider 2 8 (omega arith) (omega arith) b.within)

    past_width : Within 0 8 second after
    past_width = wider 0 8 (omega arith) (omega arith) past_count

    size : length after ≡ length before
    size = past_count.size ∙ w.within.size ∙ m.within.size

-- ---- the words, one after the other
module _ (k : ℕ) (words before : List ℕ) where
  pub packs_more : (i : ℕ) (mid after : List ℕ) → Packs k words i before mid → Puts k (8 + k * i) (get_or words i 0) mid after → Packs k words (i + 1) before after
  packs_more i mid after p q = record {
    within = both (wider 8 (8 + k * (i + 1)) (omega arith) (omega arith) p.within) (wider 8 (8 + k * (i + 1)) (omega arith) (omega arith) q.within);
    each = λ j h. by j h (dec_lt j i);
  }
    where
      by : (j : ℕ) → j < i + 1 → Dec (j < i) → number_at k (8 + k * j) after ≡ get_or words j 0
      by j h (yes l) = kept k (8 + k * j) q.within (inl (omega (arith, word_inside k i j l))) ∙ p.each j l
      by j h (no f) =
          let last : i ≡ j = omega (arith, h, not_more f) in
          subst (λ (n : ℕ). number_at k (8 + k * n) after ≡ get_or words n 0) last q.is

-- ---- A and B
pub sealed : {a b : ℕ} {before mid after : List ℕ} → a ≡ sum_a (numbers before) → b ≡ sum_b (numbers before) → Puts 4 504 a before mid → Puts 4 508 b mid after → Seals before after
unfolding A B
sealed {before = before} {after = after} ea eb p q = record {
  within = all;
  a = kept 4 504 q.within (inl (omega arith)) ∙ p.is ∙ ea ∙ ap sum_a (sym same);
  b = q.is ∙ eb ∙ ap sum_b (sym same);
}
  where
    all : Within 504 512 before after
    all = both (wider 504 512 (omega arith) (omega arith) p.within) (wider 504 512 (omega arith) (omega arith) q.within)

    same : numbers after ≡ numbers before
    same = numbers_same after before (λ j h. all.outside j (inl h))
