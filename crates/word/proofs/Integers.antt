-- Sums of whole numbers with a sign, reduced to sums of whole numbers without one. Assumes nothing.
use mathlib.Core.Path.{◌≡◌, refl, sym, ap, ap₂, ◌∙◌}
use mathlib.Core.Bool.{Bool, false}
use Prim.Native.Nat.{ℕ, zero, suc, ◌+◌, ◌-◌, ◌*◌, ◌≤◌}
use native.Mathlib.Nat.{zero-mul, add_comm}
use native.Mathlib.Omega.{arith}
use lib.Dec.{T, eqb, eqb→eq}
use lib.IntN.{ℤ, pos, negsuc, neg_ℤ, nat_abs, ◌+ℤ◌, ◌-ℤ◌, ◌*ℤ◌, +ℤ_assoc, +ℤ_comm, neg_ℤ-+ℤ, neg_ℤ-neg_ℤ, +ℤ-neg_ℤ_cancel, -ℤ-+ℤ_cancel}

-- what is taken away and what is added may trade places
pub sub_add : (x y z : ℤ) → x -ℤ y +ℤ z ≡ x +ℤ z -ℤ y
sub_add x y z = +ℤ_assoc x (neg_ℤ y) z ∙ ap (λ (v : ℤ). x +ℤ v) (+ℤ_comm (neg_ℤ y) z) ∙ sym (+ℤ_assoc x z (neg_ℤ y))

-- a + b less b
pub pos_sub : (a b : ℕ) → pos (a + b) -ℤ pos b ≡ pos a
pos_sub a b = +ℤ-neg_ℤ_cancel (pos a) (pos b)

-- z - a + b = c, solved for z
solved : (z : ℤ) (a b c : ℕ) → z -ℤ pos a +ℤ pos b ≡ pos c → z ≡ pos (c + a) -ℤ pos b
solved z a b c h =
    sym (-ℤ-+ℤ_cancel z (pos a)) ∙ ap (λ (v : ℤ). v +ℤ pos a) (sym (+ℤ-neg_ℤ_cancel (z -ℤ pos a) (pos b))) ∙ ap (λ (v : ℤ). v -ℤ pos b +ℤ pos a) h
    ∙ sub_add (pos c) (pos b) (pos a)

-- the same number z by another sum: z - a + b = c gives z - a' + b' = c' where c + a + b' = c' + a' + b, and the other way round
pub balance : (z : ℤ) (a b c : ℕ) → z -ℤ pos a +ℤ pos b ≡ pos c → (a' b' c' : ℕ) → c + a + b' ≡ c' + a' + b → z -ℤ pos a' +ℤ pos b' ≡ pos c'
balance z a b c h a' b' c' e =
    ap (λ (v : ℤ). v -ℤ pos a' +ℤ pos b') (solved z a b c h) ∙ sub_add (pos (c + a) -ℤ pos b) (pos a') (pos b')
    ∙ ap (λ (v : ℤ). v -ℤ pos a') (sub_add (pos (c + a)) (pos b) (pos b') ∙ ap (λ (n : ℕ). pos n -ℤ pos b) e ∙ pos_sub (c' + a') b)
    ∙ pos_sub c' a'

pub unbalance : (z : ℤ) (a b c : ℕ) → z -ℤ pos a +ℤ pos b ≡ pos c → (a' b' c' : ℕ) → z -ℤ pos a' +ℤ pos b' ≡ pos c' → c + a + b' ≡ c' + a' + b
unbalance z a b c h a' b' c' h' = ap nat_abs (sym (back (c + a) b b') ∙ ap₂ (λ (v : ℤ) (n : ℕ). v +ℤ pos n) (sym (solved z a b c h) ∙ solved z a' b' c' h') (add_comm b b') ∙ back (c' + a') b' b)
  where
    back : (x y w : ℕ) → pos x -ℤ pos y +ℤ pos (y + w) ≡ pos (x + w)
    back x y w = sym (+ℤ_assoc (pos x -ℤ pos y) (pos y) (pos w)) ∙ ap (λ (v : ℤ). v +ℤ pos w) (-ℤ-+ℤ_cancel (pos x) (pos y))

-- f - a, where f is at most a
pub neg_add : (a f : ℕ) → f ≤ a → neg_ℤ (pos a) +ℤ pos f ≡ neg_ℤ (pos (a - f))
neg_add a f h =
    sym (neg_ℤ-neg_ℤ (neg_ℤ (pos a) +ℤ pos f)) ∙ ap neg_ℤ (neg_ℤ-+ℤ (neg_ℤ (pos a)) (pos f) ∙ ap (λ (v : ℤ). v -ℤ pos f) (neg_ℤ-neg_ℤ (pos a)))
    ∙ ap neg_ℤ (ap (λ (n : ℕ). pos n -ℤ pos f) split ∙ pos_sub (a - f) f)
  where
    split : a ≡ (a - f) + f
    split = omega (arith, h)

pub neg_mul : (a b : ℕ) → neg_ℤ (pos a) *ℤ pos b ≡ neg_ℤ (pos (a * b))
neg_mul zero b = ap pos (zero-mul b) ∙ ap (λ (n : ℕ). neg_ℤ (pos n)) (sym (zero-mul b))
neg_mul (suc a) b = refl

-- a test of equality
abbrev pub same_integer : ℤ → ℤ → Bool
same_integer (pos a) (pos b) = eqb a b
same_integer (pos a) (negsuc b) = false
same_integer (negsuc a) (pos b) = false
same_integer (negsuc a) (negsuc b) = eqb a b

pub same_integer_is : (a b : ℤ) → T (same_integer a b) → a ≡ b
same_integer_is (pos a) (pos b) t = ap pos (eqb→eq a b t)
same_integer_is (pos a) (negsuc b) t = absurd t
same_integer_is (negsuc a) (pos b) t = absurd t
same_integer_is (negsuc a) (negsuc b) t = ap negsuc (eqb→eq a b t)
