-- How much a size counts in 2^-307: its significand times a power of two, or less than a half. Assumes nothing.
use mathlib.Core.Path.{◌≡◌, refl, sym, ap, ◌∙◌, subst}
use mathlib.Core.Bool.{Bool, true, false, cond}
use Prim.Native.Nat.{ℕ, zero, suc, ◌+◌, ◌-◌, ◌*◌, ◌^◌, ◌≤◌, ◌<◌}
use native.Mathlib.Nat.{add-zero, add-suc, mul-one, mul_assoc, zero-mul, mul-pos, lt_of_lt_of_le, lt_of_mul-lt-mul_right, mul-lt-mul_of_pos_right, mul_comm, two-pow-succ}
use native.Mathlib.Omega.{arith}
use borrow.Author.Tests.{ltb-true, ltb-false}
use lib.Dec.{ltb}
use lib.IntN.{ℤ, pos, negsuc, ◌+ℤ◌, ◌-ℤ◌, +ℤ_idr}
use lib.Pow.{pow_pos, pow_mono}
use Rattle.word.specs.Reads.{num, den, IsSize}
use Rattle.word.proofs.Integers.{sub_add}
use Rattle.bounds.proofs.Powers.{pow_sum}
use Rattle.word.proofs.Signed.{difference}

-- from a half up: h is k - 1
raised : (k : ℕ) → pos k -ℤ pos 1 -ℤ pos 63 +ℤ pos 307 ≡ pos (k + 243)
raised k =
    sub_add (pos k -ℤ pos 1) (pos 63) (pos 307) ∙ ap (λ (z : ℤ). z -ℤ pos 63) (sub_add (pos k) (pos 1) (pos 307) ∙ difference (k + 307) 1 (omega arith))
    ∙ difference (k + 307 - 1) 63 (omega arith) ∙ ap pos (omega arith)

pub amount : (k m v : ℕ) → IsSize m (pos k -ℤ pos 1 -ℤ pos 63) v → v ≡ m * 2 ^ (k + 243)
unfolding IsSize num den
amount k m v h = sym (subst (λ (z : ℤ). m * num z ≡ v * den z) (raised k) h ∙ mul-one v)

pub amounts_to : (k m : ℕ) → IsSize m (pos k -ℤ pos 1 -ℤ pos 63) (m * 2 ^ (k + 243))
unfolding IsSize num den
amounts_to k m = subst (λ (z : ℤ). m * num z ≡ m * 2 ^ (k + 243) * den z) (sym (raised k)) (sym (mul-one (m * 2 ^ (k + 243))))

-- -(i + 1) less p
less : (i p : ℕ) → negsuc i -ℤ pos p ≡ negsuc (i + p)
less i zero = +ℤ_idr (negsuc i) ∙ ap negsuc (sym (add-zero i))
less i (suc p) = ap negsuc (sym (add-suc i p))

-- 2^-(k + 1), counted in 2^-t
small : (m k t v : ℕ) → m * num (negsuc k +ℤ pos t) ≡ v * den (negsuc k +ℤ pos t) → v * 2 ^ suc k ≡ m * 2 ^ t
unfolding num den
small m k t v = by (ltb t (suc k)) refl
  where
    by : (b : Bool) → ltb t (suc k) ≡ b → m * num (cond b (negsuc (suc k - suc t)) (pos (t - suc k))) ≡ v * den (cond b (negsuc (suc k - suc t)) (pos (t - suc k))) → v * 2 ^ suc k ≡ m * 2 ^ t
    by true q h =
        ap (λ (x : ℕ). v * x) (sym (pow_sum (suc (suc k - suc t)) t (suc k) (omega (arith, ltb-true t (suc k) q)))) ∙ sym (mul_assoc v (2 ^ suc (suc k - suc t)) (2 ^ t))
        ∙ ap (λ (x : ℕ). x * 2 ^ t) (sym h ∙ mul-one m)
    by false q h =
        ap (λ (x : ℕ). x * 2 ^ suc k) (sym (h ∙ mul-one v)) ∙ mul_assoc m (2 ^ (t - suc k)) (2 ^ suc k)
        ∙ ap (λ (x : ℕ). m * x) (pow_sum (t - suc k) (suc k) t (omega (arith, ltb-false t (suc k) q)))

-- below a half
pub under_half : (i m v : ℕ) → 2 ^ 63 ≤ m → m < 2 ^ 64 → IsSize m (negsuc (suc i) -ℤ pos 63) v → (0 < v) × (2 * v < 2 ^ 307)
unfolding IsSize
under_half i m v low high h = by (2 ^ 307) (pow_pos 307) (small m (suc i + 63) 307 v (subst (λ (z : ℤ). m * num (z +ℤ pos 307) ≡ v * den (z +ℤ pos 307)) (less (suc i) 63) h))
  where
    room : m < 2 ^ (suc i + 63)
    room = lt_of_lt_of_le high (pow_mono {i = 64} {j = suc i + 63} (omega arith))

    by : (u : ℕ) → 0 < u → v * 2 ^ suc (suc i + 63) ≡ m * u → (0 < v) × (2 * v < u)
    by u some q = (positive v q, lt_of_mul-lt-mul_right (2 ^ (suc i + 63)) (subst (λ (x : ℕ). x < u * 2 ^ (suc i + 63)) (sym doubled) (subst (λ (x : ℕ). m * u < x) (mul_comm (2 ^ (suc i + 63)) u) (mul-lt-mul_of_pos_right room some))))
      where
        doubled : 2 * v * 2 ^ (suc i + 63) ≡ m * u
        doubled = omega (arith, q, ap (λ (x : ℕ). v * x) (two-pow-succ (suc i + 63)))

        positive : (v : ℕ) → v * 2 ^ suc (suc i + 63) ≡ m * u → 0 < v
        positive zero q = absurd (omega (arith, q, zero-mul (2 ^ suc (suc i + 63)), mul-pos (lt_of_lt_of_le (pow_pos 63) low) some))
        positive (suc v) q = omega arith
