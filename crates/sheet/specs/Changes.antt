-- Any change confined to one of the 126 numbers must be noticed (paper 01): what such a change is.
use Rattle.std.specs.Prelude.{◌≡◌, ℕ, ◌+◌, ◌*◌, ◌<◌, ◌≤◌, ◌⊎◌, List, length, slice_index}

-- the bytes of two blocks are the same but for the four of number i, of which one at least isn't
pub record ChangedWithin (i : ℕ) (old new : List ℕ) : Type 0 where
  pub one_of_126 : i < 126
  pub size : length new ≡ length old
  pub outside : (j : ℕ) → (j < 4 * i) ⊎ (4 * i + 4 ≤ j) → slice_index new j ≡ slice_index old j
  pub j : ℕ
  pub from : 4 * i ≤ j
  pub to : j < 4 * i + 4
  pub differs : slice_index new j ≡ slice_index old j → ⊥
