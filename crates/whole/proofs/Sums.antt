-- A sum of whole numbers is off the sum of the values by at most the sum of what each is off. Assumes nothing.
use mathlib.Core.Path.{◌≡◌, sym, ap, ◌∙◌, subst}
use mathlib.Core.Bool.{Bool, true, false, cond}
use Prim.Native.Nat.{ℕ, zero, suc, ◌+◌, ◌^◌, ◌≤◌}
use native.Mathlib.Nat.{le_refl}
use native.Mathlib.Omega.{arith}
use lib.Dec.{ltb}
use lib.IntN.{ℤ, pos, negsuc, neg_ℤ, nat_abs, suc_ℤ, pred_ℤ, ◌+ℤ◌, ◌-ℤ◌, ◌*ℤ◌, +ℤ_assoc, +ℤ_comm, +ℤ_idr, +ℤ-suc_ℤ, +ℤ-pred_ℤ, suc_ℤ-*ℤ, pred_ℤ-*ℤ, zero-*ℤ, neg_ℤ-+ℤ}
use Rattle.whole.specs.Wholes.{off_by}

-- ---- a factor comes out of a sum
times_sum : (x y k : ℤ) → (x +ℤ y) *ℤ k ≡ x *ℤ k +ℤ y *ℤ k
times_sum x y k = by y
  where
    none : (x +ℤ pos 0) *ℤ k ≡ x *ℤ k +ℤ pos 0 *ℤ k
    none = ap (λ (z : ℤ). z *ℤ k) (+ℤ_idr x) ∙ sym (ap (λ (z : ℤ). x *ℤ k +ℤ z) (zero-*ℤ k) ∙ +ℤ_idr (x *ℤ k))

    more : (y : ℤ) → (x +ℤ y) *ℤ k ≡ x *ℤ k +ℤ y *ℤ k → (x +ℤ suc_ℤ y) *ℤ k ≡ x *ℤ k +ℤ suc_ℤ y *ℤ k
    more y q = ap (λ (z : ℤ). z *ℤ k) (+ℤ-suc_ℤ x y) ∙ suc_ℤ-*ℤ (x +ℤ y) k ∙ ap (λ (z : ℤ). z +ℤ k) q ∙ +ℤ_assoc (x *ℤ k) (y *ℤ k) k ∙ ap (λ (z : ℤ). x *ℤ k +ℤ z) (sym (suc_ℤ-*ℤ y k))

    less : (y : ℤ) → (x +ℤ y) *ℤ k ≡ x *ℤ k +ℤ y *ℤ k → (x +ℤ pred_ℤ y) *ℤ k ≡ x *ℤ k +ℤ pred_ℤ y *ℤ k
    less y q = ap (λ (z : ℤ). z *ℤ k) (+ℤ-pred_ℤ x y) ∙ pred_ℤ-*ℤ (x +ℤ y) k ∙ ap (λ (z : ℤ). z -ℤ k) q ∙ +ℤ_assoc (x *ℤ k) (y *ℤ k) (neg_ℤ k) ∙ ap (λ (z : ℤ). x *ℤ k +ℤ z) (sym (pred_ℤ-*ℤ y k))

    by : (y : ℤ) → (x +ℤ y) *ℤ k ≡ x *ℤ k +ℤ y *ℤ k
    by (pos zero) = none
    by (pos (suc i)) = more (pos i) (by (pos i))
    by (negsuc zero) = less (pos 0) none
    by (negsuc (suc i)) = less (negsuc i) (by (negsuc i))

-- ---- the size of a sum
either : (t : Bool) {i j k : ℕ} → suc i ≤ k → j ≤ k → nat_abs (cond t (negsuc i) (pos j)) ≤ k
either true h g = h
either false h g = g

sum_size : (x y : ℤ) → nat_abs (x +ℤ y) ≤ nat_abs x + nat_abs y
sum_size (pos a) (pos b) = le_refl (a + b)
sum_size (pos a) (negsuc b) = either (ltb a (suc b)) (omega arith) (omega arith)
sum_size (negsuc a) (pos b) = either (ltb b (suc a)) (omega arith) (omega arith)
sum_size (negsuc a) (negsuc b) = omega arith

-- ---- what a sum is off
pub off_by_sum : (z z' x x' : ℤ) → off_by (z +ℤ z') (x +ℤ x') ≤ off_by z x + off_by z' x'
unfolding off_by
off_by_sum z z' x x' = subst (λ (y : ℤ). nat_abs y ≤ off_by z x + off_by z' x') (sym parted) (sum_size (z -ℤ v) (z' -ℤ v'))
  where
    v : ℤ
    v = x *ℤ pos (2 ^ 307)

    v' : ℤ
    v' = x' *ℤ pos (2 ^ 307)

    swap : (a b c d : ℤ) → a +ℤ b +ℤ (c +ℤ d) ≡ (a +ℤ c) +ℤ (b +ℤ d)
    swap a b c d = sym (+ℤ_assoc (a +ℤ b) c d) ∙ ap (λ (y : ℤ). y +ℤ d) (+ℤ_assoc a b c ∙ ap (λ (y : ℤ). a +ℤ y) (+ℤ_comm b c) ∙ sym (+ℤ_assoc a c b)) ∙ +ℤ_assoc (a +ℤ c) b d

    parted : z +ℤ z' -ℤ (x +ℤ x') *ℤ pos (2 ^ 307) ≡ (z -ℤ v) +ℤ (z' -ℤ v')
    parted = ap (λ (y : ℤ). z +ℤ z' -ℤ y) (times_sum x x' (pos (2 ^ 307))) ∙ ap (λ (y : ℤ). z +ℤ z' +ℤ y) (neg_ℤ-+ℤ v v') ∙ swap z z' (neg_ℤ v) (neg_ℤ v')
