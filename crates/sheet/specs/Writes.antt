-- What writing a block answers, and what it leaves in the lent buffer (paper 02, Wish 1; no more blocks of width 8 by Wish 10).
use Rattle.std.specs.Prelude.{◌≡◌, ℕ, ◌+◌, ◌*◌, ◌/◌, ◌<◌, Bool, not, List, length, ◌==◌, nat_le, slice_index, ⊤, Ok, Err}
use Rattle.bounds.specs.declared.refusal.ListRefusal.{ListRefusal}
use Rattle.bounds.specs.declared.refusal.Refusal.TheVariants.{Width, Count, Retired}
use Rattle.bounds.specs.Refusals.{ListAnswer, Verdict, passed, unless, stray_test, ◌then◌, Decided}
use Rattle.sheet.specs.Layout.{AreBytes}
use Rattle.sheet.specs.Layout as layout
use Rattle.sheet.specs.Reads.{is_block_width, size_test, mark_test, check_test, fill_test}

-- The block that has a content: a width, a number and words. Its fields are Layout's, and what is fixed in it is what reading tests.
pub record IsBlockOf (n number : ℕ) (words block : List ℕ) : Type 0 where
  pub bytes : AreBytes block
  pub sized : size_test block ≡ passed
  -- the header
  pub marked : mark_test block ≡ passed
  pub wide : layout.width block ≡ n
  pub counted : layout.count block ≡ length words
  pub numbered : layout.block_number block ≡ number
  -- the words, packed, and the rest zero
  pub packed : layout.words block ≡ words
  pub filled : fill_test block ≡ passed
  -- A and B
  pub checked : check_test block ≡ passed

-- ---- the refusals
-- the width that blocks were written with once and are no more; old ones are still read
unfoldable pub is_retired : ℕ → Bool
is_retired n = n == 8

-- so many words of the width end at byte 503 or before it
unfoldable pub has_room_for : ℕ → ℕ → Bool
has_room_for n count = nat_le (8 + n / 8 * count) 504

-- 1 WIDTH: a block's width isn't one of its four; 13 RETIRED: it is 8; 10 COUNT: more words than the width has room for; 7 SIZE: the buffer isn't 512
-- bytes
unfoldable pub content_test : ℕ → ℕ → List ℕ → Verdict
content_test n count buffer = unless Width (is_block_width n) then unless Retired (not (is_retired n)) then unless Count (has_room_for n count) then size_test buffer

-- the words before the position have no stray bit
unfoldable pub FitUpTo : ℕ → List ℕ → ℕ → Type 0
FitUpTo n words position = (i : ℕ) → i < position → stray_test n (slice_index words i) ≡ passed

-- 2 STRAY, with the lowest position that has one: what the words decide, in order
unfoldable pub IsTried : ℕ → List ℕ → ListAnswer ⊤ → Type 0
IsTried n words (Ok _) = FitUpTo n words (length words)
IsTried n words (Err (ListRefusal.At position q)) = (position < length words) × FitUpTo n words position × (stray_test n (slice_index words position) ≡ Err q)
IsTried n words (Err (ListRefusal.Whole q)) = ⊥

-- ---- what the call answers, and what it leaves in the buffer: after a refusal, what it held before
unfoldable pub WritesBlock : ℕ → List ℕ → List ℕ → ListAnswer ⊤ → Type 0
WritesBlock n words buffer a = Decided (content_test n (length words) buffer) (λ q. a ≡ Err (ListRefusal.Whole q)) (IsTried n words a)

unfoldable pub FillsBuffer : ℕ → ℕ → List ℕ → List ℕ → ListAnswer ⊤ → List ℕ → Type 0
FillsBuffer n number words before (Ok _) after = IsBlockOf n number words after
FillsBuffer n number words before (Err (ListRefusal.Whole q)) after = after ≡ before
FillsBuffer n number words before (Err (ListRefusal.At position q)) after = after ≡ before
