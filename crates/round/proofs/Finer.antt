-- No word has a size that lies strictly between two neighbouring multiples of a unit, the lower one taking 64 bits or more. Assumes nothing.
use mathlib.Core.Path.{◌≡◌, refl, sym, ap, ◌∙◌, subst}
use mathlib.Core.Bool.{Bool}
use mathlib.Core.Logic.{◌⊎◌, inl, inr, ⊎_elim}
use Prim.Native.Nat.{ℕ, zero, suc, ◌+◌, ◌*◌, ◌^◌, ◌≤◌, ◌<◌}
use native.Mathlib.Nat.{lt_of_mul-lt-mul_right, mul-le-mul_left, mul_right_comm, mul_assoc, one-mul, two-pow-succ}
use native.Mathlib.Omega.{arith}
use lib.IntN.{ℤ, pos, negsuc, ◌+ℤ◌, ◌-ℤ◌, +ℤ_comm, -ℤ-+ℤ_cancel}
use lib.Pow.{pow_pos}
use Rattle.word.specs.Reads.{num, den, IsSize}
use Rattle.word.proofs.Units.{raise_size}
use Rattle.std.specs.declared.cmp.Ordering.{Ordering}
use Rattle.round.specs.Writes.{IsExact}
use Rattle.nearest.specs.Parts.{TellsSide}
use Rattle.round.specs.Jamming.{Between}
use Rattle.round.proofs.Scales.{coarser, finer}
use Rattle.round.proofs.Signs.{exact_some}
use Rattle.round.proofs.Sized.{form}

-- ---- two exponents: the one is the other with something added
beside : (j k : ℤ) → ((t : ℕ) × (j ≡ k +ℤ pos t)) ⊎ ((t : ℕ) × (k ≡ j +ℤ pos (suc t)))
beside j k = by (j -ℤ k) refl
  where
    back : (d : ℤ) → j -ℤ k ≡ d → j ≡ k +ℤ d
    back d q = sym (-ℤ-+ℤ_cancel j k) ∙ ap (λ (z : ℤ). z +ℤ k) q ∙ +ℤ_comm d k

    by : (d : ℤ) → j -ℤ k ≡ d → ((t : ℕ) × (j ≡ k +ℤ pos t)) ⊎ ((t : ℕ) × (k ≡ j +ℤ pos (suc t)))
    by (pos t) q = inl (t, back (pos t) q)
    by (negsuc t) q = inr (t, sym (ap (λ (z : ℤ). z +ℤ pos (suc t)) (back (negsuc t) q) ∙ -ℤ-+ℤ_cancel k (pos (suc t))))

-- ---- a size of 64 bits is a multiple of the unit or lies below 2^63 of them
module _ (M : ℕ) (j : ℤ) (z : ℕ) (small : M < 2 ^ 64) (is : IsSize M j z) (x : ℕ) (large : 2 ^ 63 ≤ x) (k : ℤ) (a b : ℕ) (some : zero < b) (same : z * b ≡ a) (between : Between x k a b) where
  amount : (N : ℕ) (i : ℤ) → IsSize N i z → a * den (i +ℤ pos 307) ≡ N * (num (i +ℤ pos 307) * b)
  unfolding IsSize
  amount N i q =
      ap (λ (y : ℕ). y * den (i +ℤ pos 307)) (sym same) ∙ mul_right_comm z b (den (i +ℤ pos 307)) ∙ ap (λ (y : ℕ). y * b) (sym q) ∙ mul_assoc N (num (i +ℤ pos 307)) b

  multiple : (N : ℕ) → IsSize N k z → ⊥
  multiple N q =
      let unit = num (k +ℤ pos 307) * b in
      let above : x < N = lt_of_mul-lt-mul_right unit (subst (λ (y : ℕ). x * unit < y) (amount N k q) between.low) in
      let below : N < x + 1 = lt_of_mul-lt-mul_right unit (subst (λ (y : ℕ). y < (x + 1) * unit) (amount N k q) between.high) in
      omega (arith, above, below)

  lower : (t : ℕ) → k ≡ j +ℤ pos (suc t) → ⊥
  unfolding TellsSide
  lower t q =
      let unit = num (j +ℤ pos 307) * b in
      let above : x * 2 ^ suc t < M = lt_of_mul-lt-mul_right unit (subst (λ (y : ℕ). x * 2 ^ suc t * unit < y) (one-mul (a * den (j +ℤ pos 307)) ∙ amount M j is) (finer j (suc t) a b Ordering.Greater 1 x (subst (λ (y : ℤ). x * (num (y +ℤ pos 307) * b) < 1 * (a * den (y +ℤ pos 307))) q (subst (λ (y : ℕ). x * (num (k +ℤ pos 307) * b) < y) (sym (one-mul (a * den (k +ℤ pos 307)))) between.low)))) in
      omega (arith, above, small, large, mul-le-mul_left x (pow_pos t), ap (λ (y : ℕ). x * y) (two-pow-succ t))

  pub none_there : ⊥
  none_there = ⊎_elim (λ (y : (t : ℕ) × (j ≡ k +ℤ pos t)). multiple (M * 2 ^ y.0) (raise_size M k y.0 z (subst (λ (i : ℤ). IsSize M i z) y.1 is))) (λ (y : (t : ℕ) × (k ≡ j +ℤ pos (suc t))). lower y.0 y.1) (beside j k)

-- ---- so no word lies between
pub no_word_between : (n : ℕ) → 2 ≤ n → n ≤ 64 → (s : Bool) (x : ℕ) (k : ℤ) (a b : ℕ) → 2 ^ 63 ≤ x → 0 < a → 0 < b → Between x k a b → (w : ℕ) → IsExact n s a b w → ⊥
no_word_between n lo hi s x k a b large nonzero some between w y =
    let t = form n lo hi s y.z w (exact_some n lo hi a b nonzero some y.z y.same) y.is in
    none_there t.1 (t.0 -ℤ pos 63) y.z t.3 t.4 x large k a b some y.same between

-- a size between two multiples of a fine unit lies between two of a coarse one, if those lie outside
pub coarser_between : (k : ℤ) (t a b y : ℕ) → y * 2 ^ t * (num (k +ℤ pos 307) * b) < a * den (k +ℤ pos 307) → a * den (k +ℤ pos 307) < (y + 1) * 2 ^ t * (num (k +ℤ pos 307) * b) → Between y (k +ℤ pos t) a b
unfolding TellsSide
coarser_between k t a b y above under =
    record {
      low = subst (λ (x : ℕ). y * (num (k +ℤ pos t +ℤ pos 307) * b) < x) (one-mul (a * den (k +ℤ pos t +ℤ pos 307))) (coarser k t a b Ordering.Greater 1 y (omega (arith, above)));
      high = subst (λ (x : ℕ). x < (y + 1) * (num (k +ℤ pos t +ℤ pos 307) * b)) (one-mul (a * den (k +ℤ pos t +ℤ pos 307))) (coarser k t a b Ordering.Less 1 (y + 1) (omega (arith, under)));
    }
