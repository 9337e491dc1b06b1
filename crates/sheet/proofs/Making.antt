-- A header, packed words, zeros and then A and B make the block that has this content. Assumes nothing.
use Rattle.std.proofs.Common.{◌≡◌, ℕ, ◌+◌, ◌*◌, ◌/◌, ◌<◌, ◌≤◌, true, ◌&&◌, eqb, List, length, get_or, drop, sym, ap, ◌∙◌, subst, ap₂, inl, arith, ext_get_or, eq-eqb}
use lib.Seq.{slice}
use Rattle.bounds.specs.declared.refusal.Refusal.{Refusal}
use Rattle.sheet.specs.Layout.{AreBytes, packed, mark, width, count, block_number, word_bytes, words, end, unused, numbers, A, B}
use Rattle.sheet.specs.Sums.{sum_a, sum_b}
use Rattle.sheet.specs.Puts.{Within, PutsHeader, Packs, Clears, Seals}
use Rattle.sheet.specs.Reads.{all_zero, size_test, mark_test, check_test, fill_test}
use Rattle.sheet.specs.Writes.{IsBlockOf}
use Rattle.sheet.proofs.Packing.{packed_length, words_at, word_inside}
use Rattle.sheet.proofs.Puts.{wider, both, kept}
use Rattle.sheet.proofs.Tests.{holds}
use Rattle.sheet.proofs.Unused.{zero_part}

-- ---- the parts, put one after the other
module _ (n number : ℕ) (content before headed packed_up cleared after : List ℕ) (header : PutsHeader n (length content) number before headed) (packs : Packs (n / 8) content (length content) headed packed_up) (clears : Clears (8 + n / 8 * length content) 504 packed_up cleared) (seals : Seals cleared after) (sized : length before ≡ 512) (room : 8 + n / 8 * length content ≤ 504) where
  abbrev top : ℕ
  top = 8 + n / 8 * length content

  -- after the words, and after the header
  past_words : Within top 512 packed_up after
  past_words = both (wider top 512 (omega arith) (omega arith) clears.within) (wider top 512 room (omega arith) seals.within)

  past_header : Within 8 512 headed after
  past_header = both (wider 8 512 (omega arith) (omega (arith, room)) packs.within) (wider 8 512 (omega arith) (omega arith) past_words)

  is_wide : width after ≡ n
  unfolding width
  is_wide = past_header.outside 1 (inl (omega arith)) ∙ header.wide

  is_counted : count after ≡ length content
  unfolding count
  is_counted = kept 2 2 past_header (inl (omega arith)) ∙ header.counted

  word_is : (j : ℕ) → j < length content → get_or (packed (n / 8) (length content) (drop 8 after)) j 0 ≡ get_or content j 0
  word_is j h = words_at (n / 8) (length content) after j h ∙ kept (n / 8) (8 + n / 8 * j) past_words (inl (omega (arith, word_inside (n / 8) (length content) j h))) ∙ packs.each j h

  are_words : words after ≡ content
  unfolding words word_bytes
  are_words =
      ap₂ (λ (w c : ℕ). packed (w / 8) c (drop 8 after)) is_wide is_counted
      ∙ ext_get_or 0 (packed (n / 8) (length content) (drop 8 after)) content (packed_length (n / 8) (length content) (drop 8 after)) (λ j h. word_is j (subst (λ (k : ℕ). j < k) (packed_length (n / 8) (length content) (drop 8 after)) h))

  ends : end after ≡ top
  unfolding end word_bytes
  ends = ap₂ (λ (w c : ℕ). 8 + w / 8 * c) is_wide is_counted

  pub is_block_of : AreBytes after → IsBlockOf n number content after
  unfolding size_test mark_test fill_test check_test mark block_number unused
  is_block_of bytes = record {
    bytes = bytes;
    sized = sym (holds Refusal.Size (eq-eqb (length after) 512 (past_header.size ∙ header.within.size ∙ sized)));
    marked = sym (holds Refusal.Mark (eq-eqb (mark after) 0x54 (past_header.outside 0 (inl (omega arith)) ∙ header.marked)));
    wide = is_wide;
    counted = is_counted;
    numbered = kept 4 4 past_header (inl (omega arith)) ∙ header.numbered;
    packed = are_words;
    filled = sym (holds Refusal.Fill (ap (λ (i : ℕ). all_zero (slice i 504 after)) ends ∙ zero_part top 504 after (λ j l u. seals.within.outside j (inl u) ∙ clears.zero j l u)));
    checked = sym (holds Refusal.Check sums);
  }
    where
      sums : eqb (sum_a (numbers after)) (A after) && eqb (sum_b (numbers after)) (B after) ≡ true
      sums = rw (eq-eqb (sum_a (numbers after)) (A after) (sym seals.a), eq-eqb (sum_b (numbers after)) (B after) (sym seals.b))
