-- One size in two units: a power of two moves between the significand and the exponent. Assumes nothing.
use mathlib.Core.Path.{◌≡◌, refl, sym, ap, ◌∙◌, subst}
use mathlib.Core.Bool.{Bool, true, false, cond}
use Prim.Native.Nat.{ℕ, zero, suc, ◌-◌, ◌*◌, ◌^◌, ◌≤◌, ◌<◌}
use native.Mathlib.Nat.{mul-one, one-mul, mul_comm, mul_assoc, mul_right_comm, eq_of_mul-eq-mul_right, zero-lt-suc}
use native.Mathlib.Omega.{arith}
use borrow.Author.Tests.{ltb-true, ltb-false}
use lib.Dec.{ltb}
use lib.IntN.{ℤ, pos, negsuc, neg_ℤ, ◌+ℤ◌, ◌-ℤ◌, +ℤ_assoc, +ℤ_comm}
use lib.Pow.{pow-add, pow_pos}
use Rattle.word.specs.Reads.{num, den, IsSize}
use Rattle.bounds.proofs.Powers.{pow_sum}
use Rattle.word.proofs.Integers.{neg_add}

pub unit_some : (x : ℤ) → (zero < num x) × (zero < den x)
unfolding num den
unit_some (pos k) = (pow_pos k, zero-lt-suc 0)
unit_some (negsuc k) = (zero-lt-suc 0, pow_pos (suc k))

-- 2^(x + t) is 2^t times 2^x
pub cross : (x : ℤ) (t : ℕ) → num (x +ℤ pos t) * den x ≡ 2 ^ t * num x * den (x +ℤ pos t)
unfolding num den
cross (pos i) t = ap (λ (y : ℕ). y * 1) (pow-add 2 i t ∙ mul_comm (2 ^ i) (2 ^ t))
cross (negsuc i) t = by (ltb t (suc i)) refl
  where
    by : (b : Bool) → ltb t (suc i) ≡ b → num (cond b (negsuc (suc i - suc t)) (pos (t - suc i))) * 2 ^ suc i ≡ 2 ^ t * 1 * den (cond b (negsuc (suc i - suc t)) (pos (t - suc i)))
    by true q = one-mul (2 ^ suc i) ∙ sym (pow_sum t (suc (suc i - suc t)) (suc i) (omega (arith, ltb-true t (suc i) q))) ∙ ap (λ (y : ℕ). y * 2 ^ suc (suc i - suc t)) (sym (mul-one (2 ^ t)))
    by false q = pow_sum (t - suc i) (suc i) t (omega (arith, ltb-false t (suc i) q)) ∙ sym (mul-one (2 ^ t)) ∙ sym (mul-one (2 ^ t * 1))

pub aside : (k : ℤ) (t : ℕ) → k +ℤ pos t +ℤ pos 307 ≡ k +ℤ pos 307 +ℤ pos t
aside k t = +ℤ_assoc k (pos t) (pos 307) ∙ ap (λ (z : ℤ). k +ℤ z) (+ℤ_comm (pos t) (pos 307)) ∙ sym (+ℤ_assoc k (pos 307) (pos t))

-- a power of two goes from the exponent into the significand
pub raise_size : (s : ℕ) (k : ℤ) (t v : ℕ) → IsSize s (k +ℤ pos t) v → IsSize (s * 2 ^ t) k v
unfolding IsSize
raise_size s k t v h =
    let x = k +ℤ pos 307 in
    let q = subst (λ (y : ℤ). s * num y ≡ v * den y) (aside k t) h in
    eq_of_mul-eq-mul_right (den (x +ℤ pos t)) (unit_some (x +ℤ pos t)).1 (s * 2 ^ t * num x) (v * den x)
    (ap (λ (y : ℕ). y * den (x +ℤ pos t)) (mul_assoc s (2 ^ t) (num x)) ∙ mul_assoc s (2 ^ t * num x) (den (x +ℤ pos t)) ∙ ap (λ (y : ℕ). s * y) (sym (cross x t))
    ∙ sym (mul_assoc s (num (x +ℤ pos t)) (den x)) ∙ ap (λ (y : ℕ). y * den x) q ∙ mul_right_comm v (den (x +ℤ pos t)) (den x))

pub lower_by : (c : ℤ) (p q : ℕ) → p ≤ q → c -ℤ pos q +ℤ pos (q - p) ≡ c -ℤ pos p
lower_by c p q h = +ℤ_assoc c (neg_ℤ (pos q)) (pos (q - p)) ∙ ap (λ (z : ℤ). c +ℤ z) (neg_add q (q - p) (omega arith) ∙ ap (λ (y : ℕ). neg_ℤ (pos y)) back)
  where
    back : q - (q - p) ≡ p
    back = omega (arith, h)
