-- The promises that specs/Sheets.antt states, from the laws of blocks and of columns. Assumes nothing.
use Rattle.std.specs.Prelude.{⊤, Ok, Err}
use Rattle.bounds.specs.declared.refusal.ListRefusal.{ListRefusal}
use mathlib.Core.Path.{◌≡◌, refl, sym, ap, ap₂, ◌∙◌, subst, subst₂}
use mathlib.Core.List.{List, ◌++◌}
use mathlib.Core.Logic.{◌⊎◌, inl, inr}
use Prim.Native.Nat.{ℕ, ◌^◌, ◌≤◌, ◌<◌}
use native.Mathlib.Omega.{arith}
use lib.ListN.{length, get_or, take, drop}
use lib.Seq.{take-append_seam, get_or-take}
use Rattle.bounds.specs.declared.refusal.Refusal.{Refusal}
use Rattle.bounds.specs.Refusals.{stray_test, through, refused, passed, ListAnswer}
use Rattle.bounds.proofs.Verdicts.{stray_fits}
use Rattle.round.specs.declared.value.Rule.{Rule}
use Rattle.write.proofs.Moves.{strict_keeps}
use Rattle.column.specs.declared.moving.MovedColumn.{MovedColumn}
use Rattle.column.specs.Columns.{MovesColumn, Holds}
use Rattle.column.proofs.Positions.{every_word_counted, word_at}
use Rattle.column.proofs.Strict.{column_comes_home, results_counted}
use Rattle.sheet.specs.Layout.{AreBytes, width, block_number, words}
use Rattle.sheet.specs.Reads.{block_test, block_read}
use Rattle.sheet.specs.Writes.{IsBlockOf, IsTried, WritesBlock, FillsBuffer}
use Rattle.sheet.proofs.Contents.{Fitting, fitting}
use Rattle.sheet.proofs.Passing.{was_read}
use Rattle.sheet.proofs.Results.{words_length, holds}
use Rattle.sheet.proofs.RoundTrip.{reads_back, fills_back, has_content, is_written}
use Rattle.sheet.proofs.SameContent.{same_bytes}
use Rattle.sheet.proofs.Tests.{not_both}
use Rattle.promises.specs.Sheets as promise
use Rattle.promises.specs.Sheets.{BlockIsWritten, BlockIsRead}

pub a_refused_write_leaves_the_buffer : promise.ARefusedWriteLeavesTheBuffer
unfolding promise.ARefusedWriteLeavesTheBuffer FillsBuffer
a_refused_write_leaves_the_buffer n number ws before after (Ok _) x f = absurd (f refl)
a_refused_write_leaves_the_buffer n number ws before after (Err (ListRefusal.Whole q)) x f = x
a_refused_write_leaves_the_buffer n number ws before after (Err (ListRefusal.At position q)) x f = x

-- ---- written, then read
-- what the answer tells of the content
let_through : (n : ℕ) (words buffer : List ℕ) → WritesBlock n words buffer (Ok tt) → Fitting n (length words) buffer
unfolding WritesBlock
let_through n words buffer (through h x) = fitting n (length words) buffer h
let_through n words buffer (refused h e) = absurd cc

pub a_written_block_reads_back : promise.AWrittenBlockReadsBack
unfolding promise.AWrittenBlockReadsBack FillsBuffer
a_written_block_reads_back n number words before block w results filled a room r f =
    let fits = let_through n words before w.answer in
    (reads_back n number words before block w.buffer fits (length results) room a r, fills_back n number words before block w.buffer fits results filled room f)

-- ---- read, then written
-- a block that is read has the content
read_content : (block : List ℕ) (n number : ℕ) (content : List ℕ) → BlockIsRead block n number content → (places : ℕ) × (block_test block places ≡ passed) × (n ≡ width block) × (number ≡ block_number block) × (content ≡ words block)
read_content block n number content r =
    let t = was_read block (length r.before) n number (length content) r.answer in
    (length r.before, t.0, t.1, t.3, sym r.first ∙ ap (take (length content)) (holds block r.before r.after n number (length content) r.answer r.results) ∙ ap (λ (k : ℕ). take k (words block ++ drop (length content) r.before)) (t.2 ∙ sym (words_length block)) ∙ take-append_seam (words block) (drop (length content) r.before))

pub is_block_of_read : (block : List ℕ) (n number : ℕ) (content : List ℕ) → AreBytes block → BlockIsRead block n number content → IsBlockOf n number content block
is_block_of_read block n number content bytes r =
    let t = read_content block n number content r in
    subst (λ (l : List ℕ). IsBlockOf n number l block) (sym t.4) (subst₂ (λ (x y : ℕ). IsBlockOf x y (words block) block) (sym t.2) (sym t.3) (has_content block t.0 bytes t.1))

pub an_accepted_block_is_what_the_writer_makes : promise.AnAcceptedBlockIsWhatTheWriterMakes
unfolding promise.AnAcceptedBlockIsWhatTheWriterMakes FillsBuffer
an_accepted_block_is_what_the_writer_makes block n number content bytes r wide before after a size x y =
    let t = read_content block n number content r in
    let written : a ≡ Ok tt = is_written block t.0 bytes t.1 (λ e. not_8 wide (t.2 ∙ e)) before a size (subst₂ (λ (w : ℕ) (l : List ℕ). WritesBlock w l before a) t.2 t.4 x) in
    (written, same_bytes n number content after block (subst (λ (b : ListAnswer ⊤). FillsBuffer n number content before b after) written y) (is_block_of_read block n number content bytes r))
  where
    not_8 : (n ≡ 16) ⊎ ((n ≡ 32) ⊎ (n ≡ 64)) → n ≡ 8 → ⊥
    not_8 (inl e) h = omega (arith, e, h)
    not_8 (inr (inl e)) h = omega (arith, e, h)
    not_8 (inr (inr e)) h = omega (arith, e, h)

pub the_same_content_is_the_same_bytes : promise.TheSameContentIsTheSameBytes
unfolding promise.TheSameContentIsTheSameBytes
the_same_content_is_the_same_bytes one other n number content bytes bytes' r r' = same_bytes n number content one other (is_block_of_read one n number content bytes r) (is_block_of_read other n number content bytes' r')

-- ---- there and back through a sheet
module _ (n n' : ℕ) (column before : List ℕ) (c : MovedColumn) (moved : List ℕ) (x : MovesColumn n n' Rule.Strict column (length before) (Ok c)) (y : Holds n n' Rule.Strict column before (Ok c) moved) where
  -- a moved word is a word of its new width
  none_stray : (i : ℕ) → i < c.moved → stray_test n' (get_or (take c.moved moved) i 0) ≡ passed
  none_stray i h =
      let counted = every_word_counted n n' Rule.Strict column before c moved x y in
      let kept = strict_keeps n n' (get_or column i 0) (get_or moved i 0) (word_at n n' Rule.Strict column before c moved x y i (subst (λ (k : ℕ). i < k) counted h)) in
      stray_fits n' _ (subst (λ (w : ℕ). w < 2 ^ n') (sym (get_or-take c.moved moved i 0 h)) kept.to.fits)

  -- so a write of them that isn't refused as a whole is made
  is_made : (buffer : List ℕ) (w : ListAnswer ⊤) → length (take c.moved moved) ≡ c.moved → WritesBlock n' (take c.moved moved) buffer w → ((q : Refusal) → w ≡ Err (ListRefusal.Whole q) → ⊥) → w ≡ Ok tt
  unfolding WritesBlock IsTried
  is_made buffer (Ok _) counted z none = refl
  is_made buffer (Err (ListRefusal.Whole q)) counted z none = absurd (none q refl)
  is_made buffer (Err (ListRefusal.At p q)) counted (through h t) none = absurd (not_both (none_stray p (subst (λ (k : ℕ). p < k) counted t.0)) t.2)
  is_made buffer (Err (ListRefusal.At p q)) counted (refused {q = q'} h e) none = absurd (none q' e)

pub strict_columns_come_home_through_a_sheet : promise.StrictColumnsComeHomeThroughASheet
unfolding promise.StrictColumnsComeHomeThroughASheet promise.AWrittenBlockReadsBack
strict_columns_come_home_through_a_sheet n n' column before moved c x y number buffer block w wb fb none results read b room r f before' home a room' m h =
    let counted = results_counted n n' column before c moved x y Rule.Strict before' room' in
    let made : w ≡ Ok tt = is_made n n' column before c moved x y buffer w counted wb none in
    let written : BlockIsWritten n' number (take c.moved moved) buffer block = record { answer = subst (WritesBlock n' (take c.moved moved) buffer) made wb; buffer = subst (λ (v : ListAnswer ⊤). FillsBuffer n' number (take c.moved moved) buffer v block) made fb } in
    let back = a_written_block_reads_back n' number (take c.moved moved) buffer block written results read b (subst (λ (k : ℕ). k ≤ length results) (sym counted) room) r f in
    let same : take c.moved read ≡ take c.moved moved = ap₂ take (sym counted) back.1 ∙ take-append_seam (take c.moved moved) (drop (length (take c.moved moved)) results) in
    let home_again = column_comes_home n n' column before c moved x y Rule.Strict before' room' a home (subst (λ (l : List ℕ). MovesColumn n' n Rule.Strict l (length before') a) same m) (subst (λ (l : List ℕ). Holds n' n Rule.Strict l before' a home) same h) in
    (made, back.0 ∙ ap (block_read n' number) counted, home_again.0, home_again.1)
