-- The sums A and B of a block's numbers (paper 01).
use Rattle.std.specs.Prelude.{ℕ, ◌+◌, ◌%◌, ◌^◌, List, [], ◌∷◌}

unfoldable pub total : List ℕ → ℕ
total [] = 0
total (x ∷ xs) = x + total xs

-- A is their sum modulo 2^32.
unfoldable pub sum_a : List ℕ → ℕ
sum_a xs = total xs % 2 ^ 32

-- the running values of A, from the value a on: the first is taken after the first number
unfoldable pub running : ℕ → List ℕ → List ℕ
running a [] = []
running a (x ∷ xs) = (a + x) % 2 ^ 32 ∷ running ((a + x) % 2 ^ 32) xs

-- B is the sum modulo 2^32 of the running values of A.
unfoldable pub sum_b : List ℕ → ℕ
sum_b xs = total (running 0 xs) % 2 ^ 32
