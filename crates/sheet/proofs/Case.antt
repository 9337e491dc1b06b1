-- The block that paper 01 gives as a case is read, with the A and B that it gives, and written. Assumes nothing.
use Rattle.std.specs.Prelude.{Ok}
use Rattle.bounds.specs.Refusals.{Answer, passed}
use Rattle.std.proofs.Common.{◌≡◌, ℕ, zero, suc, Bool, true, ◌&&◌, ltb, List, [], ◌∷◌, ◌++◌, replicate, refl, lit<, ltb-true}
use Rattle.bounds.proofs.Verdicts.{both, answered}
use Rattle.bounds.specs.Refusals.{room_test}
use Rattle.sheet.specs.declared.block.Block.{Block}
use Rattle.sheet.specs.Layout.{AreBytes, number, number_at, packed, mark, width, count, block_number, word_bytes, end, words, unused, A, B, numbers}
use Rattle.sheet.specs.Sums.{total, sum_a, running, sum_b}
use Rattle.sheet.specs.Reads.{is_block_width, all_zero, size_test, mark_test, check_test, block_width_test, count_test, fill_test, block_test, block_read, ReadsBlock, FillsResults}
use Rattle.sheet.specs.Writes.{IsBlockOf, FillsBuffer}
use Rattle.sheet.proofs.RoundTrip.{has_content}
use Rattle.sheet.proofs.SameContent.{same_bytes}

-- bytes 54 10 02 00 01 00 00 00 00 5A 00 80, zeros up to byte 503, A = 0x80026A55, B = 0x012FA1D5
unfoldable pub case : List ℕ
case =
    (0x54 ∷ 0x10 ∷ 0x02 ∷ 0x00 ∷ 0x01 ∷ 0x00 ∷ 0x00 ∷ 0x00 ∷ 0x00 ∷ 0x5A ∷ 0x00 ∷ 0x80 ∷ [])
    ++ replicate 492 0x00
    ++ (0x55 ∷ 0x6A ∷ 0x02 ∷ 0x80 ∷ 0xD5 ∷ 0xA1 ∷ 0x2F ∷ 0x01 ∷ [])

pub case_sums : (A case ≡ 0x80026A55) × (B case ≡ 0x012FA1D5)
unfolding case A B number_at number
case_sums = (refl, refl)

pub case_passes : block_test case 2 ≡ passed
unfolding case A B number_at number packed mark width count word_bytes end unused numbers total sum_a running sum_b is_block_width all_zero size_test mark_test check_test block_width_test count_test fill_test room_test block_test
case_passes = refl

-- width 16, block 1, two words
pub case_answer : (a : Answer Block) → ReadsBlock case 2 a → a ≡ block_read 16 1 2
unfolding case ReadsBlock width count block_number number_at number
case_answer a r = answered case_passes r

-- 512 and NaR
pub case_words : (x y : ℕ) (after : List ℕ) → FillsResults case (x ∷ y ∷ []) after → after ≡ 0x5A00 ∷ 0x8000 ∷ []
unfolding case FillsResults words width count word_bytes packed number_at number
case_words x y after f = answered case_passes f

-- and what writing that content makes
unfoldable pub all_bytes : List ℕ → Bool
all_bytes [] = true
all_bytes (b ∷ bytes) = ltb b 256 && all_bytes bytes

pub are_bytes : (bytes : List ℕ) → all_bytes bytes ≡ true → AreBytes bytes
unfolding AreBytes all_bytes
are_bytes [] h j = lit< tt
are_bytes (b ∷ bytes) h zero = ltb-true b 256 (both (ltb b 256) (all_bytes bytes) h).0
are_bytes (b ∷ bytes) h (suc j) = are_bytes bytes (both (ltb b 256) (all_bytes bytes) h).1 j

case_bytes : AreBytes case
unfolding case all_bytes
case_bytes = are_bytes case refl

case_has_content : IsBlockOf 16 1 (0x5A00 ∷ 0x8000 ∷ []) case
unfolding case words width count block_number word_bytes packed number_at number
case_has_content = has_content case 2 case_bytes case_passes

pub case_written : (before after : List ℕ) → FillsBuffer 16 1 (0x5A00 ∷ 0x8000 ∷ []) before (Ok tt) after → after ≡ case
unfolding FillsBuffer
case_written before after x = same_bytes 16 1 (0x5A00 ∷ 0x8000 ∷ []) after case x case_has_content
