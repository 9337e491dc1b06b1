-- Exponents raised by 255, and what a unit of the offered significand is worth beside a power of two. Assumes nothing.
use mathlib.Core.Path.{◌≡◌, refl, sym, ap, ◌∙◌}
use mathlib.Core.Bool.{Bool, true, false, cond}
use Prim.Native.Nat.{ℕ, suc, ◌+◌, ◌-◌, ◌*◌, ◌^◌, ◌≤◌, ◌<◌}
use native.Mathlib.Nat.{mul-one, mul_comm}
use native.Mathlib.Omega.{arith}
use borrow.Author.Tests.{lt-ltb, le-ltb, ltb-false}
use lib.Dec.{ltb}
use lib.IntN.{ℤ, pos, negsuc, nat_abs, ◌+ℤ◌, ◌-ℤ◌, +ℤ_assoc, +ℤ_idr, +ℤ-neg_ℤ_cancel, pos-ne-negsuc}
use lib.Pow.{pow-add}
use lib.Signed.{mag}
use mir.Syntax.{w64}
use mir.Val.{SFits}
use Rattle.word.specs.Reads.{num, den}
use Rattle.bounds.proofs.Powers.{pow_sum}
use Rattle.word.proofs.Integers.{balance, sub_add}
use Rattle.word.proofs.Signed.{difference}
use Rattle.nearest.specs.Parts.{IsRaised}

pub raise : (h : ℤ) → mag h ≤ 254 → (e : ℕ) × (h +ℤ pos 255 ≡ pos e) × (e < 510)
raise (pos n) b = (n + 255, refl, omega (arith, b))
raise (negsuc n) b = (255 - suc n, rw (le-ltb 255 (suc n) (omega (arith, b))), omega (arith, b))

pub raised_inj : (h : ℤ) (e f : ℕ) → IsRaised h e → IsRaised h f → e ≡ f
unfolding IsRaised
raised_inj h e f p q = ap nat_abs (sym p ∙ q)

pub raised_same : (h h' : ℤ) (e : ℕ) → IsRaised h e → IsRaised h' e → h ≡ h'
unfolding IsRaised
raised_same h h' e p q = sym (+ℤ-neg_ℤ_cancel h (pos 255)) ∙ ap (λ (z : ℤ). z -ℤ pos 255) (p ∙ sym q) ∙ +ℤ-neg_ℤ_cancel h' (pos 255)

-- 2^k with k = x + s, where 2^x is a fraction
pub shift : (x : ℤ) (s k : ℕ) → x +ℤ pos s ≡ pos k → 2 ^ k * den x ≡ 2 ^ s * num x
unfolding num den
shift (pos i) s k q = mul-one (2 ^ k) ∙ ap (λ (y : ℕ). 2 ^ y) (sym (ap nat_abs q)) ∙ pow-add 2 i s ∙ mul_comm (2 ^ i) (2 ^ s)
shift (negsuc i) s k q = pow_sum k (suc i) s (by (ltb s (suc i)) refl q) ∙ sym (mul-one (2 ^ s))
  where
    by : (b : Bool) → ltb s (suc i) ≡ b → cond b (negsuc (suc i - suc s)) (pos (s - suc i)) ≡ pos k → k + suc i ≡ s
    by true t e = absurd (pos-ne-negsuc k (suc i - suc s) (sym e))
    by false t e = omega (arith, ap nat_abs e, ltb-false s (suc i) t)

-- the size (m + rest) * 2^(h - 63): in its units a word 2^(f - 255) is 2^(f + 63 - e), here times 2^e
pub unit_law : (h : ℤ) (e f k : ℕ) → IsRaised h e → k + 11 ≡ e + f → 2 ^ k * den (h -ℤ pos 63 +ℤ pos 307) ≡ 2 ^ f * num (h -ℤ pos 63 +ℤ pos 307)
unfolding IsRaised
unit_law h e f k q l =
    shift (h -ℤ pos 63 +ℤ pos 307) f k
    (+ℤ_assoc (h -ℤ pos 63) (pos 307) (pos f) ∙ balance h 0 255 e (ap (λ (z : ℤ). z +ℤ pos 255) (+ℤ_idr h) ∙ q) 63 (307 + f) k (omega (arith, l)))

-- the exponent of a unit, past either end
pub offset_up : (i : ℕ) → pos i -ℤ pos 63 +ℤ pos 307 ≡ pos (i + 244)
offset_up i = sub_add (pos i) (pos 63) (pos 307) ∙ difference (i + 307) 63 (omega arith) ∙ ap pos (omega arith)

pub offset_down : (i : ℕ) → 244 ≤ i → negsuc i -ℤ pos 63 +ℤ pos 307 ≡ negsuc (i - 244)
offset_down i h = sub_add (negsuc i) (pos 63) (pos 307) ∙ +ℤ_assoc (negsuc i) (pos 307) (negsuc 62) ∙ rw (lt-ltb 244 (suc i) (omega (arith, h))) (ap negsuc (omega (arith, h)))

-- the machine holds one
pub small_fits : (h : ℤ) → mag h ≤ 254 → SFits w64 h
small_fits h small = record { sfits = omega (arith, small) }
