-- Serves private functions only: the first stray word, and what a put into a lent buffer leaves there.
use Rattle.std.specs.Prelude.{◌≡◌, ℕ, ◌+◌, ◌*◌, ◌^◌, ◌<◌, ◌≤◌, ◌⊎◌, List, length, slice_index, Option, None, Some, Err}
use Rattle.bounds.specs.declared.refusal.Refusal.TheVariants.{Stray}
use Rattle.bounds.specs.Refusals.{stray_test}
use Rattle.sheet.specs.Layout.{number_at, mark, width, count, block_number, A, B, numbers}
use Rattle.sheet.specs.Sums.{sum_a, sum_b}
use Rattle.sheet.specs.Writes.{FitUpTo}

-- the position of the first word that has a stray bit, if one has
unfoldable pub IsFirstStray : ℕ → List ℕ → Option ℕ → Type 0
IsFirstStray n words None = FitUpTo n words (length words)
IsFirstStray n words (Some position) = (position < length words) × FitUpTo n words position × (stray_test n (slice_index words position) ≡ Err Stray)

-- all bytes but those from `from` up to `to` are as they were
pub record Within (from to : ℕ) (before after : List ℕ) : Type 0 where
  pub size : length after ≡ length before
  pub outside : (j : ℕ) → (j < from) ⊎ (to ≤ j) → slice_index after j ≡ slice_index before j

-- the number x is put into the k bytes from byte i on
pub record Puts (k i x : ℕ) (before after : List ℕ) : Type 0 where
  pub within : Within i (i + k) before after
  pub is : number_at k i after ≡ x

-- words of at most k bytes
unfoldable pub AreOfBytes : ℕ → List ℕ → Type 0
AreOfBytes k words = (j : ℕ) → j < length words → slice_index words j < 2 ^ (8 * k)

-- the first n of the words are packed from byte 8 on, in k bytes each
pub record Packs (k : ℕ) (words : List ℕ) (n : ℕ) (before after : List ℕ) : Type 0 where
  pub within : Within 8 (8 + k * n) before after
  pub each : (j : ℕ) → j < n → number_at k (8 + k * j) after ≡ slice_index words j

-- the bytes from `from` up to `to` are made zero
pub record Clears (from to : ℕ) (before after : List ℕ) : Type 0 where
  pub within : Within from to before after
  pub zero : (j : ℕ) → from ≤ j → j < to → slice_index after j ≡ 0

-- the header of a block
pub record PutsHeader (n many number : ℕ) (before after : List ℕ) : Type 0 where
  pub within : Within 0 8 before after
  pub marked : mark after ≡ 0x54
  pub wide : width after ≡ n
  pub counted : count after ≡ many
  pub numbered : block_number after ≡ number

-- A and B
pub record Seals (before after : List ℕ) : Type 0 where
  pub within : Within 504 512 before after
  pub a : A after ≡ sum_a (numbers after)
  pub b : B after ≡ sum_b (numbers after)
