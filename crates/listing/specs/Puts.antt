-- Text that is put into a lent buffer at a place: what stands before and after it stays.
use Rattle.std.specs.Prelude.{◌≡◌, List, ◌++◌, ℕ, ◌+◌, ◌≤◌, length, take, drop}

-- the text t is put at `at`, and `next` is the place after it
pub record Puts (before : List ℕ) (at : ℕ) (t : List ℕ) (after : List ℕ) (next : ℕ) : Type 0 where
  pub room : at + length t ≤ length before
  pub content : after ≡ take at before ++ t ++ drop (at + length t) before
  pub place : next ≡ at + length t

-- a text that meets P is put
unfoldable pub PutsSome : (List ℕ → Type 0) → List ℕ → ℕ → List ℕ → ℕ → Type 0
PutsSome P before at after next = (t : List ℕ) × P t × Puts before at t after next
