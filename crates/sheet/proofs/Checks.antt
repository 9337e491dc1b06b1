-- The sums A and B, taken number by number. Assumes nothing.
use Rattle.std.proofs.Common.{◌≡◌, ℕ, suc, ◌+◌, ◌*◌, ◌%◌, ◌^◌, ◌<◌, ◌≤◌, List, [], ◌∷◌, length, get_or, drop, sym, ap, ◌∙◌, subst, mod-lt, add-one, arith, drop_of_length-le, drop-cons, pow_pos}
use Rattle.sheet.specs.Layout.{number_at, numbers}
use Rattle.sheet.specs.Sums.{total, sum_a, running, sum_b}
use Rattle.sheet.proofs.Packing.{numbers_length, numbers_at}

-- a and b after the first i of the numbers xs: with what is still to come they are the sums
pub record Summed (xs : List ℕ) (i a b : ℕ) : Type 0 where
  pub a_fits : a < 2 ^ 32
  pub b_fits : b < 2 ^ 32
  pub a_comes : (a + total (drop i xs)) % 2 ^ 32 ≡ sum_a xs
  pub b_comes : (b + total (running a (drop i xs))) % 2 ^ 32 ≡ sum_b xs

pub summed_none : (xs : List ℕ) → Summed xs 0 0 0
unfolding sum_a sum_b
summed_none xs = record { a_fits = pow_pos 32; b_fits = pow_pos 32; a_comes = omega arith; b_comes = omega arith }

module _ (x : ℕ) (xs : List ℕ) (a b : ℕ) where
  a_next : ((a + x) % 2 ^ 32 + total xs) % 2 ^ 32 ≡ (a + total (x ∷ xs)) % 2 ^ 32
  unfolding total
  a_next = omega arith

  b_next : ((b + (a + x) % 2 ^ 32) % 2 ^ 32 + total (running ((a + x) % 2 ^ 32) xs)) % 2 ^ 32 ≡ (b + total (running a (x ∷ xs))) % 2 ^ 32
  unfolding total running
  b_next = omega arith

module _ (xs : List ℕ) (i a b x : ℕ) (h : i < length xs) (q : x ≡ get_or xs i 0) (s : Summed xs i a b) where
  rest : drop i xs ≡ x ∷ drop (i + 1) xs
  rest = drop-cons xs i 0 h ∙ ap (λ (y : ℕ). y ∷ drop (suc i) xs) (sym q) ∙ ap (λ (j : ℕ). x ∷ drop j xs) (sym (add-one i))

  summed_more : (a' b' : ℕ) → a' ≡ (a + x) % 2 ^ 32 → b' ≡ (b + a') % 2 ^ 32 → Summed xs (i + 1) a' b'
  summed_more a' b' p r =
      subst (λ (y : ℕ). Summed xs (i + 1) y b') (sym p)
      (subst (λ (z : ℕ). Summed xs (i + 1) ((a + x) % 2 ^ 32) z) (sym (r ∙ ap (λ (y : ℕ). (b + y) % 2 ^ 32) p))
      (record {
        a_fits = mod-lt (a + x) (pow_pos 32);
        b_fits = mod-lt (b + (a + x) % 2 ^ 32) (pow_pos 32);
        a_comes = a_next x (drop (i + 1) xs) a b ∙ ap (λ (l : List ℕ). (a + total l) % 2 ^ 32) (sym rest) ∙ s.a_comes;
        b_comes = b_next x (drop (i + 1) xs) a b ∙ ap (λ (l : List ℕ). (b + total (running a l)) % 2 ^ 32) (sym rest) ∙ s.b_comes;
      }))

summed_all : (xs : List ℕ) (i a b : ℕ) → length xs ≤ i → Summed xs i a b → (a ≡ sum_a xs) × (b ≡ sum_b xs)
unfolding total running
summed_all xs i a b h s =
    let none : drop i xs ≡ [] = drop_of_length-le xs h in
    let a_all : (a + total []) % 2 ^ 32 ≡ sum_a xs = ap (λ (l : List ℕ). (a + total l) % 2 ^ 32) (sym none) ∙ s.a_comes in
    let b_all : (b + total (running a [])) % 2 ^ 32 ≡ sum_b xs = ap (λ (l : List ℕ). (b + total (running a l)) % 2 ^ 32) (sym none) ∙ s.b_comes in
    (omega (arith, s.a_fits, a_all), omega (arith, s.b_fits, b_all))

-- ---- the sums of a block's 126 numbers
pub block_more : (block : List ℕ) (i a b x : ℕ) → i < 126 → x ≡ number_at 4 (4 * i) block → Summed (numbers block) i a b → (a' b' : ℕ) → a' ≡ (a + x) % 2 ^ 32 → b' ≡ (b + a') % 2 ^ 32 → Summed (numbers block) (i + 1) a' b'
block_more block i a b x h q s =
    let inside : i < length (numbers block) = omega (arith, numbers_length block) in
    summed_more (numbers block) i a b x inside (q ∙ sym (numbers_at block i h)) s

pub block_all : (block : List ℕ) (i a b : ℕ) → 126 ≤ i → Summed (numbers block) i a b → (a ≡ sum_a (numbers block)) × (b ≡ sum_b (numbers block))
block_all block i a b h s =
    let done : length (numbers block) ≤ i = omega (arith, numbers_length block) in
    summed_all (numbers block) i a b done s
