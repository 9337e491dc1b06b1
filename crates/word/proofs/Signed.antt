-- A word as a two's complement number, and its negation, by where it lies. Assumes nothing.
use mathlib.Core.Path.{◌≡◌, refl, sym, ap, ◌∙◌}
use mathlib.Core.Bool.{Bool, true, false, cond}
use Prim.Native.Nat.{ℕ, zero, suc, ◌+◌, ◌-◌, ◌%◌, ◌^◌, ◌≤◌, ◌<◌}
use native.Mathlib.Nat.{sub-zero, mod_self, mod-eq_of_lt, zero-add, sub-add_cancel}
use native.Mathlib.Omega.{arith}
use borrow.Author.Tests.{lt-ltb, le-ltb}
use lib.Dec.{ltb}
use lib.IntN.{ℤ, pos, negsuc, ◌+ℤ◌, ◌-ℤ◌}
use lib.Pow.{pow_pos}
use lib.Signed.{lt_z, mag}
use Rattle.word.specs.Orders.{signed, order, negated}
use Rattle.word.proofs.Integers.{pos_sub}

pub signed_low : (n w : ℕ) → w < 2 ^ (n - 1) → signed n w ≡ pos w
unfolding signed
signed_low n w h = rw (lt-ltb w (2 ^ (n - 1)) h)

-- a number less a larger one
pub short_by : (a b : ℕ) → a < b → pos a -ℤ pos b ≡ negsuc (b - 1 - a)
short_by a zero h = absurd (omega (arith, h))
short_by a (suc b) h = rw (lt-ltb a (suc b) h) (ap negsuc (omega arith))

pub signed_high : (n w : ℕ) → 2 ^ (n - 1) ≤ w → w < 2 ^ n → signed n w ≡ negsuc (2 ^ n - 1 - w)
unfolding signed
signed_high n w h b = rw (le-ltb w (2 ^ (n - 1)) h) (short_by w (2 ^ n) b)

pub negated_zero : (n : ℕ) → negated n 0 ≡ 0
unfolding negated
negated_zero n = ap (λ (x : ℕ). x % 2 ^ n) (sub-zero (2 ^ n)) ∙ mod_self (2 ^ n)

pub negated_other : (n w : ℕ) → zero < w → w < 2 ^ n → negated n w ≡ 2 ^ n - w
unfolding negated
negated_other n w h b = mod-eq_of_lt (omega (arith, pow_pos n))

-- -1 less x
pub minus_one_less : (x : ℕ) → negsuc 0 -ℤ pos x ≡ negsuc x
minus_one_less zero = refl
minus_one_less (suc x) = ap (λ (n : ℕ). negsuc (suc n)) (zero-add x)

pub order_below : (x y : ℤ) → lt_z x y ≡ true → order x y ≡ negsuc 0
unfolding order
order_below x y h = rw h

pub order_above : (x y : ℤ) → lt_z x y ≡ false → lt_z y x ≡ true → order x y ≡ pos 1
unfolding order
order_above x y h g = rw (h, g)

pub order_equal : (x y : ℤ) → lt_z x y ≡ false → lt_z y x ≡ false → order x y ≡ pos 0
unfolding order
order_equal x y h g = rw (h, g)

-- how large a sum and a difference can be
either : (t : Bool) {m n k : ℕ} → m ≤ k → n ≤ k → mag (cond t (negsuc m) (pos n)) ≤ k
either true hm hn = hm
either false hm hn = hn

pub add_mag : (x y : ℤ) → mag (x +ℤ y) ≤ mag x + mag y + 1
add_mag (pos a) (pos b) = omega arith
add_mag (pos a) (negsuc b) = either (ltb a (suc b)) (omega arith) (omega arith)
add_mag (negsuc a) (pos b) = either (ltb b (suc a)) (omega arith) (omega arith)
add_mag (negsuc a) (negsuc b) = omega arith

pub sub_mag : (x y : ℤ) → mag (x -ℤ y) ≤ mag x + mag y + 1
sub_mag (pos a) (pos zero) = omega arith
sub_mag (pos a) (pos (suc b)) = either (ltb a (suc b)) (omega arith) (omega arith)
sub_mag (pos a) (negsuc b) = omega arith
sub_mag (negsuc a) (pos zero) = either (ltb 0 (suc a)) (omega arith) (omega arith)
sub_mag (negsuc a) (pos (suc b)) = omega arith
sub_mag (negsuc a) (negsuc b) = either (ltb (suc b) (suc a)) (omega arith) (omega arith)

-- a number less a smaller one, or an equal one
pub difference : (x y : ℕ) → y ≤ x → pos x -ℤ pos y ≡ pos (x - y)
difference x y h = ap (λ (n : ℕ). pos n -ℤ pos y) (sym (sub-add_cancel h)) ∙ pos_sub (x - y) y
