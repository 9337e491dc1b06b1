-- A block that has a content is read as that content, and a block that is read has the content that was read. Assumes nothing.
use Rattle.std.specs.Prelude.{Ok, Err}
use Rattle.bounds.specs.declared.refusal.ListRefusal.{ListRefusal}
use Rattle.bounds.specs.Refusals.{Answer, ListAnswer, passed}
use Rattle.std.specs.Prelude.{⊤}
use Rattle.std.proofs.Common.{◌≡◌, ℕ, ◌+◌, ◌*◌, ◌/◌, ◌^◌, ◌<◌, ◌≤◌, List, ◌++◌, length, get_or, drop, sym, refl, ap, ◌∙◌, subst, ap₂, eq-eqb, ne_eqb, le-leb}
use Rattle.bounds.specs.declared.refusal.Refusal.{Refusal}
use Rattle.bounds.proofs.Rooms.{room_fits}
use Rattle.bounds.proofs.Verdicts.{answered, stray_fits}
use Rattle.sheet.specs.declared.block.Block.{Block}
use Rattle.sheet.specs.Layout.{AreBytes, packed, width, count, block_number, word_bytes, words, end}
use Rattle.sheet.specs.Reads.{size_test, block_width_test, count_test, block_test, block_read, ReadsBlock, FillsResults}
use Rattle.sheet.specs.Writes.{IsBlockOf, is_retired, has_room_for, content_test, FitUpTo, IsTried, WritesBlock}
use Rattle.sheet.proofs.Contents.{Fitting}
use Rattle.sheet.proofs.LittleEndian.{number_at_below}
use Rattle.sheet.proofs.Packing.{packed_length, words_at}
use Rattle.sheet.proofs.Passing.{passes_each, passes, room_decides}
use Rattle.sheet.proofs.Results.{words_length}
use Rattle.sheet.proofs.SameContent.{has_size, has_mark}
use Rattle.sheet.proofs.Sizes.{whole_bytes}
use Rattle.sheet.proofs.Tests.{OneOfFour, width_is, holds, not_both}

-- ---- written, then read
module _ (n number : ℕ) (content buffer block : List ℕ) (x : IsBlockOf n number content block) (f : Fitting n (length content) buffer) where
  is_wide : block_width_test block ≡ passed
  unfolding block_width_test
  is_wide = sym (holds Refusal.Width (width_is (width block) (subst OneOfFour (sym x.wide) f.wide)))

  has_room : count_test block ≡ passed
  unfolding count_test end word_bytes
  has_room = sym (holds Refusal.Count (le-leb _ 504 (subst (λ (e : ℕ). e ≤ 504) (sym (ap₂ (λ (w c : ℕ). 8 + w / 8 * c) x.wide x.counted)) f.inside)))

  module _ (places : ℕ) (room : length content ≤ places) where
    pub is_accepted : block_test block places ≡ passed
    is_accepted = room_decides block places (has_size n number content block x) (has_mark n number content block x) x.checked is_wide has_room x.filled ∙ room_fits (count block) places (subst (λ (c : ℕ). c ≤ places) (sym x.counted) room)

    pub reads_back : (a : Answer Block) → ReadsBlock block places a → a ≡ block_read n number (length content)
    unfolding ReadsBlock
    reads_back a r = answered is_accepted r ∙ ap₂ (λ (w i : ℕ). block_read w i (count block)) x.wide x.numbered ∙ ap (block_read n number) x.counted

  pub fills_back : (results filled : List ℕ) → length content ≤ length results → FillsResults block results filled → filled ≡ content ++ drop (length content) results
  unfolding FillsResults
  fills_back results filled room r = answered (is_accepted (length results) room) r ∙ ap₂ (λ (ws : List ℕ) (c : ℕ). ws ++ drop c results) x.packed x.counted

-- ---- read, then written
module _ (block : List ℕ) (places : ℕ) (bytes : AreBytes block) (h : block_test block places ≡ passed) where
  pub has_content : IsBlockOf (width block) (block_number block) (words block) block
  has_content =
      let each = passes_each block places h in
      record {
        bytes = bytes;
        sized = each.size;
        marked = each.mark;
        wide = refl;
        counted = sym (words_length block);
        numbered = refl;
        packed = refl;
        filled = each.fill;
        checked = each.check;
      }

  -- its words can be written at its width
  words_fit : FitUpTo (width block) (words block) (length (words block))
  unfolding FitUpTo words word_bytes
  words_fit j l =
      let four = (passes block places h).wide in
      let small : get_or (packed (width block / 8) (count block) (drop 8 block)) j 0 < 2 ^ (8 * (width block / 8)) = subst (λ (x : ℕ). x < 2 ^ (8 * (width block / 8))) (sym (words_at (width block / 8) (count block) block j (subst (λ (k : ℕ). j < k) (packed_length (width block / 8) (count block) (drop 8 block)) l))) (number_at_below (width block / 8) (8 + width block / 8 * j) block bytes) in
      stray_fits (width block) _ (subst (λ (k : ℕ). get_or (packed (width block / 8) (count block) (drop 8 block)) j 0 < 2 ^ k) (whole_bytes (width block) four) small)

  -- at a width that is still written
  pub is_written : (width block ≡ 8 → ⊥) → (buffer : List ℕ) (a : ListAnswer ⊤) → length buffer ≡ 512 → WritesBlock (width block) (words block) buffer a → a ≡ Ok tt
  unfolding WritesBlock IsTried FitUpTo content_test is_retired has_room_for size_test end word_bytes
  is_written made buffer a size x = by a (answered all x)
    where
      all : content_test (width block) (length (words block)) buffer ≡ passed
      all =
          let p = passes block places h in
          let room : 8 + width block / 8 * length (words block) ≤ 504 = subst (λ (c : ℕ). 8 + width block / 8 * c ≤ 504) (sym (words_length block)) p.inside in
          rw (width_is (width block) p.wide, ne_eqb (width block) 8 made, le-leb (8 + width block / 8 * length (words block)) 504 room, eq-eqb (length buffer) 512 size)

      by : (a : ListAnswer ⊤) → IsTried (width block) (words block) a → a ≡ Ok tt
      by (Ok _) t = refl
      by (Err (ListRefusal.Whole q)) t = absurd t
      by (Err (ListRefusal.At position q)) t = absurd (not_both (words_fit position t.0) t.2)
