-- What is printed for a block (paper 01, "The lister"), and what the call that puts it into a lent slice answers and leaves.
use Rattle.std.specs.Prelude.{◌≡◌, List, ℕ, ◌≤◌, length, Ok, Err, Option, Some, None}
use Rattle.bounds.specs.declared.refusal.Refusal.{Refusal}
use Rattle.bounds.specs.Refusals.{Answer, Verdict, number_of, room_test, Decided}
use Rattle.sheet.specs.Layout.{width, block_number, words}
use Rattle.sheet.specs.Reads.{block_test}
use Rattle.listing.specs.declared.blocks.Listed.{Listed}
use Rattle.listing.specs.Puts.{PutsSome}
use Rattle.listing.specs.Text.{AreLines, IsRefusedLine}

-- The most words a block has: 496 of width 8.
unfoldable pub most : ℕ
most = 496

-- A line for each of the block's words, or `block I refused N` with I its place in the input.
unfoldable pub ListsBlock : List ℕ → ℕ → List ℕ → Type 0
ListsBlock block i t = Decided (block_test block most) (λ q. IsRefusedLine i q t) (AreLines (block_number block) (width block) 0 (words block) t)

-- Why a block is refused, if it is, and the number of that: 0 for a block that is read.
unfoldable pub refusal_of : Verdict → Option Refusal
refusal_of (Ok _) = None
refusal_of (Err q) = Some q

unfoldable pub refusal_number : Verdict → ℕ
refusal_number (Ok _) = 0
refusal_number (Err q) = number_of q

-- Room for the text of any block: 496 lines of up to 96 bytes.
unfoldable pub text_room : ℕ
text_room = 47616

-- the text stands at the start of the slice and the rest of the slice stays; the answer is the length of the text, no more than its room, and why the
-- block is refused, if it is
unfoldable pub IsListed : List ℕ → ℕ → List ℕ → List ℕ → Answer Listed → Type 0
IsListed block i before after (Ok a) = PutsSome (ListsBlock block i) before 0 after a.length × (a.length ≤ text_room) × (a.refused ≡ refusal_of (block_test block most))
IsListed block i before after (Err q) = ⊥

-- ---- what the call answers and leaves: a slice with less room is refused, with ROOM, and stays as it came
unfoldable pub ListsInto : List ℕ → ℕ → List ℕ → List ℕ → Answer Listed → Type 0
ListsInto block i before after a = Decided (room_test text_room (length before)) (λ q. (a ≡ Err q) × (after ≡ before)) (IsListed block i before after a)
