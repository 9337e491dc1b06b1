-- What Wish 1 of paper 02 promises of a written block: it reads back, and a block that is read, of width 16, 32 or 64, is what writing makes of its content.
use Rattle.std.specs.Prelude.{◌≡◌, List, ◌++◌, ◌⊎◌, ℕ, ◌≤◌, ⊤, length, take, drop, Ok, Err}
use Rattle.bounds.specs.declared.refusal.ListRefusal.{ListRefusal}
use Rattle.bounds.specs.declared.refusal.Refusal.{Refusal}
use Rattle.bounds.specs.Refusals.{Answer, ListAnswer}
use Rattle.round.specs.declared.value.Rule.{Rule}
use Rattle.column.specs.declared.moving.MovedColumn.{MovedColumn}
use Rattle.column.specs.Columns.{how_many, MovesColumn, Holds}
use Rattle.sheet.specs.declared.block.Block.{Block}
use Rattle.sheet.specs.Layout.{AreBytes}
use Rattle.sheet.specs.Reads.{block_read, ReadsBlock, FillsResults}
use Rattle.sheet.specs.Writes.{WritesBlock, FillsBuffer}

-- ---- what the two calls do, each with its answer and what it leaves in the memory that it was lent
-- these words are written with this width and number: the buffer, which held `before`, holds the block
pub record BlockIsWritten (n number : ℕ) (words before block : List ℕ) : Type 0 where
  pub answer : WritesBlock n words before (Ok tt)
  pub buffer : FillsBuffer n number words before (Ok tt) block

-- the block is read as this width and number and these words: they are the first results
pub record BlockIsRead (block : List ℕ) (n number : ℕ) (words : List ℕ) : Type 0 where
  pub before : List ℕ
  pub after : List ℕ
  pub answer : ReadsBlock block (length before) (block_read n number (length words))
  pub results : FillsResults block before after
  pub first : take (length words) after ≡ words

-- ---- demand 1 for the buffer: a refused call writes nothing into it
unfoldable pub ARefusedWriteLeavesTheBuffer : Type 0
ARefusedWriteLeavesTheBuffer = (n number : ℕ) (words before after : List ℕ) (a : ListAnswer ⊤) → FillsBuffer n number words before a after → (a ≡ Ok tt → ⊥) → after ≡ before

-- ---- "A written block reads back as the same width, number and words,
-- (in results that are long enough, of which the words are the first, and the others stay)
unfoldable pub AWrittenBlockReadsBack : Type 0
AWrittenBlockReadsBack = (n number : ℕ) (words before block : List ℕ) → BlockIsWritten n number words before block
    → (results filled : List ℕ) (a : Answer Block) → length words ≤ length results → ReadsBlock block (length results) a → FillsResults block results filled
    → (a ≡ block_read n number (length words)) × (filled ≡ words ++ drop (length words) results)

-- and any block that the reader accepts is what the writer makes of its content."
-- (all of its bytes, in whatever buffer of 512 bytes; by Wish 10 of widths 16, 32 and 64, and OldBlocks.antt has what is answered at width 8)
unfoldable pub AnAcceptedBlockIsWhatTheWriterMakes : Type 0
AnAcceptedBlockIsWhatTheWriterMakes = (block : List ℕ) (n number : ℕ) (words : List ℕ) → AreBytes block → BlockIsRead block n number words → (n ≡ 16) ⊎ ((n ≡ 32) ⊎ (n ≡ 64))
    → (before after : List ℕ) (a : ListAnswer ⊤) → length before ≡ 512 → WritesBlock n words before a → FillsBuffer n number words before a after
    → (a ≡ Ok tt) × (after ≡ block)

-- two blocks with the same content are the same bytes, at width 8 too
unfoldable pub TheSameContentIsTheSameBytes : Type 0
TheSameContentIsTheSameBytes = (one other : List ℕ) (n number : ℕ) (words : List ℕ) → AreBytes one → AreBytes other → BlockIsRead one n number words → BlockIsRead other n number words → one ≡ other

-- ---- demand 3 through a sheet: a column that is moved strictly, written, read back and moved back strictly is the first column. None of its words is
-- stray, so the write is refused only as a whole: for the width, also where it is retired, the count or the buffer.
unfoldable pub StrictColumnsComeHomeThroughASheet : Type 0
StrictColumnsComeHomeThroughASheet = (n n' : ℕ) (words before moved : List ℕ) (c : MovedColumn) → MovesColumn n n' Rule.Strict words (length before) (Ok c) → Holds n n' Rule.Strict words before (Ok c) moved
    → (number : ℕ) (buffer block : List ℕ) (w : ListAnswer ⊤) → WritesBlock n' (take c.moved moved) buffer w → FillsBuffer n' number (take c.moved moved) buffer w block → ((q : Refusal) → w ≡ Err (ListRefusal.Whole q) → ⊥)
    → (results read : List ℕ) (b : Answer Block) → c.moved ≤ length results → ReadsBlock block (length results) b → FillsResults block results read
    → (before' home : List ℕ) (a : ListAnswer MovedColumn) → c.moved ≤ length before' → MovesColumn n' n Rule.Strict (take c.moved read) (length before') a → Holds n' n Rule.Strict (take c.moved read) before' a home
    → (w ≡ Ok tt) × (b ≡ block_read n' number c.moved) × (how_many a ≡ Ok c.moved) × (take c.moved home ≡ words)
