-- A slice that is taken in pieces of 512: the next one is its first 512 elements, or all if they are fewer. Assumes nothing.
use Rattle.std.proofs.Common.{◌≡◌, ℕ, ◌≤◌, min, List, [], ◌∷◌, ◌++◌, length, take, drop, refl, sym, ap, ◌∙◌, append-nil, arith, length-append, drop_of_length-le, take_all}
use native.Mathlib.Decide.{dec_le}
use lib.Seq.{take_at, drop_at}

pub nothing : (l : List ℕ) → length l ≡ 0 → l ≡ []
nothing [] h = refl
nothing (y ∷ ys) h = absurd (omega arith)

pub next_piece : (xs x rest : List ℕ) → xs ≡ x ++ rest → length x ≡ min 512 (length xs) → (take 512 xs ≡ x) × (drop 512 xs ≡ rest)
next_piece xs x rest e h = by (dec_le 512 (length xs))
  where
    by : Dec (512 ≤ length xs) → (take 512 xs ≡ x) × (drop 512 xs ≡ rest)
    by (yes l) = let whole : length x ≡ 512 = omega arith in
        (ap (take 512) e ∙ take_at x rest 512 whole, ap (drop 512) e ∙ drop_at x rest 512 whole)
    by (no f) =
        let none : rest ≡ [] = nothing rest (omega (arith, ap length e, length-append x rest)) in
        let all : xs ≡ x = e ∙ ap (λ (l : List ℕ). x ++ l) none ∙ append-nil x in
        let few : length xs ≤ 512 = omega arith in
        (take_all 512 xs few ∙ all, drop_of_length-le xs few ∙ sym none)
