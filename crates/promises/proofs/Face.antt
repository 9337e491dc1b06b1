-- The promises that specs/Face.antt states of refusal numbers, lent memory and positions. Assumes nothing.
use mathlib.Core.Path.{◌≡◌, refl}
use mathlib.Core.Bool.{Bool}
use mathlib.Core.List.{List, [], ◌∷◌}
use mathlib.Core.Logic.{◌⊎◌, inl, inr}
use Prim.Native.Nat.{ℕ, ◌<◌}
use native.Mathlib.Omega.{arith}
use lib.ListN.{length, get_or}
use Rattle.bounds.specs.declared.refusal.Refusal.TheVariants.{Width, Stray, Nar, Inexact, Over, Room, Size, Mark, Check, Count, Fill, Retired}
use Rattle.ledusprig.specs.declared.handed.columns.HandedColumn.{HandedColumn}
use Rattle.ledusprig.specs.declared.handed.columns.HandedWriting.{HandedWriting}
use Rattle.promises.specs.Refusals.{Line, line, stray}
use Rattle.promises.specs.Face as promise
use Rattle.promises.specs.Face.{FieldFollows, word_lines, MovedAll, RefusedAtPosition, HandsColumn, HandsBlock, WrittenAll, StrayAtPosition, HandsBlockWritten}

pub refusal_numbers_are_1_to_11_or_13 : promise.RefusalNumbersAre1To11Or13
unfolding promise.RefusalNumbersAre1To11Or13
refusal_numbers_are_1_to_11_or_13 Width = inl (omega arith, omega arith)
refusal_numbers_are_1_to_11_or_13 Stray = inl (omega arith, omega arith)
refusal_numbers_are_1_to_11_or_13 Nar = inl (omega arith, omega arith)
refusal_numbers_are_1_to_11_or_13 Inexact = inl (omega arith, omega arith)
refusal_numbers_are_1_to_11_or_13 Over = inl (omega arith, omega arith)
refusal_numbers_are_1_to_11_or_13 Room = inl (omega arith, omega arith)
refusal_numbers_are_1_to_11_or_13 Size = inl (omega arith, omega arith)
refusal_numbers_are_1_to_11_or_13 Mark = inl (omega arith, omega arith)
refusal_numbers_are_1_to_11_or_13 Check = inl (omega arith, omega arith)
refusal_numbers_are_1_to_11_or_13 Count = inl (omega arith, omega arith)
refusal_numbers_are_1_to_11_or_13 Fill = inl (omega arith, omega arith)
refusal_numbers_are_1_to_11_or_13 Retired = inr refl

-- whatever the first line that holds is, Refused is so; where none holds, Then is
either : (refusal : ℕ) (lines : List Line) (Refused Then : Type 0) → FieldFollows refusal lines Refused Then → Refused ⊎ Then
unfolding FieldFollows
either refusal [] Refused Then x = inr x
either refusal (line number When ∷ lines) Refused Then (inl x) = inl x.2
either refusal (line number When ∷ lines) Refused Then (inr x) = either refusal lines Refused Then x.1

-- ---- a column: refused as a whole, moved, or refused at a position
module _ (n n' : ℕ) (strict : Bool) (words before after : List ℕ) (r : HandedColumn) (h : HandsColumn n n' strict words before after r) where
  kept : (r.refusal ≡ 0 → ⊥) → after ≡ before
  unfolding HandsColumn
  kept some = by (either _ _ _ _ h)
    where
      at_position : ((r.moved ≡ 0) × (r.exact ≡ 0) × (after ≡ before)) ⊎ ⊥ → after ≡ before
      at_position (inl y) = y.2
      at_position (inr y) = absurd y

      by : ((r.position ≡ 0) × (r.moved ≡ 0) × (r.exact ≡ 0) × (after ≡ before)) ⊎ (MovedAll n n' strict words before after r ⊎ RefusedAtPosition n n' strict words before after r) → after ≡ before
      by (inl x) = x.3
      by (inr (inl x)) = absurd (some x.refusal)
      by (inr (inr x)) = at_position (either _ _ _ _ x.is)

  -- the lines of a word are STRAY and INEXACT
  of_a_word : RefusedAtPosition n n' strict words before after r → (r.refusal ≡ 2) ⊎ (r.refusal ≡ 4)
  unfolding FieldFollows word_lines
  of_a_word x = by x.is
    where
      by : FieldFollows r.refusal (word_lines n n' strict (get_or words r.position 0)) ((r.moved ≡ 0) × (r.exact ≡ 0) × (after ≡ before)) ⊥ → (r.refusal ≡ 2) ⊎ (r.refusal ≡ 4)
      by (inl y) = inl y.1
      by (inr (f, inl y)) = inr y.1
      by (inr (f, inr y)) = absurd y.1

  with_a_word : (r.position ≡ 0 → ⊥) → ((r.refusal ≡ 2) ⊎ (r.refusal ≡ 4)) × (r.position < length words)
  unfolding HandsColumn
  with_a_word some = by (either _ _ _ _ h)
    where
      by : ((r.position ≡ 0) × (r.moved ≡ 0) × (r.exact ≡ 0) × (after ≡ before)) ⊎ (MovedAll n n' strict words before after r ⊎ RefusedAtPosition n n' strict words before after r) → ((r.refusal ≡ 2) ⊎ (r.refusal ≡ 4)) × (r.position < length words)
      by (inl x) = absurd (some x.0)
      by (inr (inl x)) = absurd (some x.position)
      by (inr (inr x)) = (of_a_word x, x.inside)

-- ---- a written block: refused as a whole, written, or refused at a position
module _ (n number : ℕ) (words before after : List ℕ) (r : HandedWriting) (h : HandsBlockWritten n number words before after r) where
  -- the line of a word is STRAY
  at_stray : StrayAtPosition n words before after r → (r.refusal ≡ 2) × (after ≡ before)
  unfolding FieldFollows
  at_stray x = by x.is
    where
      by : FieldFollows r.refusal (stray n (get_or words r.position 0) ∷ []) (after ≡ before) ⊥ → (r.refusal ≡ 2) × (after ≡ before)
      by (inl y) = (y.1, y.2)
      by (inr y) = absurd y.1

  Tried : Type 0
  Tried = ((r.position ≡ 0) × (after ≡ before)) ⊎ (WrittenAll n number words after r ⊎ StrayAtPosition n words before after r)

  buffer_kept : (r.refusal ≡ 0 → ⊥) → after ≡ before
  unfolding HandsBlockWritten Tried
  buffer_kept some = by (either _ _ _ _ h)
    where
      by : Tried → after ≡ before
      by (inl x) = x.1
      by (inr (inl x)) = absurd (some x.refusal)
      by (inr (inr x)) = (at_stray x).1

  with_stray : (r.position ≡ 0 → ⊥) → (r.refusal ≡ 2) × (r.position < length words)
  unfolding HandsBlockWritten Tried
  with_stray some = by (either _ _ _ _ h)
    where
      by : Tried → (r.refusal ≡ 2) × (r.position < length words)
      by (inl x) = absurd (some x.0)
      by (inr (inl x)) = absurd (some x.position)
      by (inr (inr x)) = ((at_stray x).0, x.inside)

pub a_written_blocks_position_comes_only_with_stray : promise.AWrittenBlocksPositionComesOnlyWithStray
unfolding promise.AWrittenBlocksPositionComesOnlyWithStray
a_written_blocks_position_comes_only_with_stray = with_stray

pub a_position_comes_only_with_a_words_refusal : promise.APositionComesOnlyWithAWordsRefusal
unfolding promise.APositionComesOnlyWithAWordsRefusal
a_position_comes_only_with_a_words_refusal = with_a_word

pub refused_calls_write_nothing : promise.RefusedCallsWriteNothing
unfolding promise.RefusedCallsWriteNothing HandsBlock
refused_calls_write_nothing = (kept, λ b before after r h some. by (either _ _ _ _ h) some, buffer_kept)
  where
    by : {R A B C D K : Type 0} → (A × B × C × K) ⊎ (R × D) → (R → ⊥) → K
    by (inl x) some = x.3
    by (inr x) some = absurd (some x.0)
