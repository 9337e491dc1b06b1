-- A total where one number changed: the two totals differ as the two numbers do. Assumes nothing.
use Rattle.std.proofs.Common.{◌≡◌, ℕ, zero, suc, ◌+◌, ◌^◌, ◌<◌, List, [], ◌∷◌, length, get_or, refl, ap, arith, ext_get_or}
use Rattle.sheet.specs.Sums.{total, sum_a}

pub total_changed : (xs ys : List ℕ) (i : ℕ) → length xs ≡ length ys → ((j : ℕ) → (j ≡ i → ⊥) → get_or xs j 0 ≡ get_or ys j 0) → total xs + get_or ys i 0 ≡ total ys + get_or xs i 0
unfolding total
total_changed [] [] i e same = refl
total_changed [] (y ∷ ys) i e same = absurd (omega arith)
total_changed (x ∷ xs) [] i e same = absurd (omega arith)
total_changed (x ∷ xs) (y ∷ ys) zero e same =
    let rest : xs ≡ ys = ext_get_or 0 xs ys (omega arith) (λ j h. same (suc j) (λ q. omega arith)) in
    omega (arith, ap total rest)
total_changed (x ∷ xs) (y ∷ ys) (suc i) e same =
    let first : x ≡ y = same 0 (λ q. omega arith) in
    omega (arith, first, total_changed xs ys i (omega arith) (λ j f. same (suc j) (λ q. f (omega arith))))

-- a sum modulo 2^32 tells two numbers of 32 bits apart
pub sum_a_changed : (xs ys : List ℕ) (x y : ℕ) → x < 2 ^ 32 → y < 2 ^ 32 → total xs + y ≡ total ys + x → sum_a xs ≡ sum_a ys → x ≡ y
unfolding sum_a
sum_a_changed xs ys x y hx hy t e = omega arith
