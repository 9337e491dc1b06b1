-- The distance of two numbers with their signs, in sizes: their difference where the signs agree, and their sum where not. Assumes nothing.
use mathlib.Core.Path.{◌≡◌, refl, sym, ap, ◌∙◌}
use mathlib.Core.Bool.{Bool, true, false}
use mathlib.Core.Logic.{◌⊎◌, inl, inr}
use Prim.Native.Nat.{ℕ, zero, suc, ◌+◌, ◌-◌, ◌≤◌}
use native.Mathlib.Omega.{arith}
use lib.IntN.{ℤ, pos, negsuc, neg_ℤ, nat_abs, ◌+ℤ◌, ◌-ℤ◌, +ℤ_comm, neg_ℤ-neg_ℤ, neg_ℤ-+ℤ}
use Rattle.word.specs.Reads.{signed_size}
use Rattle.word.proofs.Signed.{difference}
use Rattle.nearest.specs.Nearest.{distance}
use Rattle.nearest.proofs.Nearest.{distance_below, distance_above, either_side}

unfoldable pub gap : Bool → ℕ → Bool → ℕ → ℕ
gap false x false y = distance x y
gap false x true y = x + y
gap true x false y = x + y
gap true x true y = distance x y

pub turned : (z : ℤ) → nat_abs (neg_ℤ z) ≡ nat_abs z
turned (pos zero) = refl
turned (pos (suc x)) = refl
turned (negsuc x) = refl

plain : (x y : ℕ) → nat_abs (pos x -ℤ pos y) ≡ distance x y
plain x y = by (either_side x y)
  where
    opposite : pos x -ℤ pos y ≡ neg_ℤ (pos y -ℤ pos x)
    opposite = +ℤ_comm (pos x) (neg_ℤ (pos y)) ∙ ap (λ (z : ℤ). neg_ℤ (pos y) +ℤ z) (sym (neg_ℤ-neg_ℤ (pos x))) ∙ sym (neg_ℤ-+ℤ (pos y) (neg_ℤ (pos x)))

    by : (y ≤ x) ⊎ (x ≤ y) → nat_abs (pos x -ℤ pos y) ≡ distance x y
    by (inl h) = ap nat_abs (difference x y h) ∙ sym (distance_below x y h)
    by (inr h) = ap nat_abs (opposite ∙ ap neg_ℤ (difference y x h)) ∙ turned (pos (y - x)) ∙ sym (distance_above x y h)

swapped : (x y : ℕ) → distance y x ≡ distance x y
unfolding distance
swapped x y = omega arith

pub difference_size : (t : Bool) (x : ℕ) (s : Bool) (y : ℕ) → nat_abs (signed_size t x -ℤ signed_size s y) ≡ gap t x s y
unfolding signed_size gap
difference_size false x false y = plain x y
difference_size false x true y = ap (λ (z : ℤ). nat_abs (pos x +ℤ z)) (neg_ℤ-neg_ℤ (pos y))
difference_size true x false y = ap nat_abs (sym (neg_ℤ-+ℤ (pos x) (pos y))) ∙ turned (pos (x + y))
difference_size true x true y = ap nat_abs (ap (λ (z : ℤ). neg_ℤ (pos x) +ℤ z) (neg_ℤ-neg_ℤ (pos y)) ∙ +ℤ_comm (neg_ℤ (pos x)) (pos y)) ∙ plain y x ∙ swapped x y
