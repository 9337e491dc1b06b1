-- The promises that specs/OldBlocks.antt states, from the tests of a block that is to be written and of one that is read. Assumes nothing.
use Rattle.std.specs.Prelude.{⊤, Err}
use Rattle.bounds.specs.declared.refusal.ListRefusal.{ListRefusal}
use mathlib.Core.Path.{◌≡◌, refl, sym, ap, ap₂, ◌∙◌, subst}
use mathlib.Core.Bool.{true, ◌&&◌}
use mathlib.Core.List.{List, [], ◌∷◌, ◌++◌}
use mathlib.Core.Logic.{inl, inr}
use Prim.Native.Nat.{ℕ, ◌+◌, ◌*◌, ◌/◌, ◌≤◌}
use native.Mathlib.Nat.{one-mul}
use native.Mathlib.Omega.{arith}
use borrow.Author.Tests.{eq-eqb, le-leb}
use lib.Dec.{lit≤}
use lib.ListN.{length, replicate}
use lib.Seq.{slice}
use Rattle.bounds.specs.declared.refusal.Refusal.{Refusal}
use Rattle.bounds.specs.Refusals.{number_of, Answer, ListAnswer, passed}
use Rattle.bounds.proofs.Rooms.{room_fits}
use Rattle.bounds.proofs.Verdicts.{answered, refused_as}
use Rattle.sheet.specs.declared.block.Block.{Block}
use Rattle.sheet.specs.Layout.{number, number_at, packed, mark, width, count, block_number, word_bytes, end, words, unused, numbers, A, B}
use Rattle.sheet.specs.Sums.{total, sum_a, running, sum_b}
use Rattle.sheet.specs.Reads.{block_read, all_zero, check_test, block_width_test, count_test, fill_test, block_test, ReadsBlock}
use Rattle.sheet.specs.Writes.{WritesBlock, FillsBuffer}
use Rattle.sheet.proofs.Case.{all_bytes, are_bytes}
use Rattle.sheet.proofs.Contents.{old_width}
use Rattle.sheet.proofs.LittleEndian.{number_at_one}
use Rattle.sheet.proofs.Passing.{room_decides}
use Rattle.sheet.proofs.Results.{result_at, result_kept}
use Rattle.sheet.proofs.Tests.{width_is, holds}
use Rattle.sheet.proofs.Unused.{part_zero, zero_part}
use Rattle.promises.specs.Demands.{RefusedAs}
use Rattle.promises.specs.OldBlocks as promise
use Rattle.promises.specs.OldBlocks.{IsOldBlock}
use Rattle.promises.specs.Refusals.{Follows, FollowsUpTo, size, written_width, retired, written_count}
use Rattle.promises.proofs.WrittenRefusals.{written_follows}

-- ---- written no more
pub is_retired : (n : ℕ) (words before : List ℕ) (a : ListAnswer ⊤) → n ≡ 8 → WritesBlock n words before a → RefusedAs (ListAnswer ⊤) (λ q. Err (ListRefusal.Whole q)) 13 a
unfolding WritesBlock
is_retired n words before a e x = record { q = Refusal.Retired; is = refused_as Refusal.Retired (old_width n (length words) before (width_is n (inl e)) e) x; known = refl }

pub no_block_of_width_8_is_written : promise.NoBlockOfWidth8IsWritten
unfolding promise.NoBlockOfWidth8IsWritten FillsBuffer
no_block_of_width_8_is_written number words before after a x y = let r = is_retired 8 words before a refl x in
    (r, subst (λ (b : ListAnswer ⊤). FillsBuffer 8 number words before b after) r.is y)

-- an answer is refused with one number
one_number : (i j : ℕ) (a : ListAnswer ⊤) → RefusedAs (ListAnswer ⊤) (λ q. Err (ListRefusal.Whole q)) i a → RefusedAs (ListAnswer ⊤) (λ q. Err (ListRefusal.Whole q)) j a → i ≡ j
one_number i j a x y = sym x.known ∙ ap number_of same ∙ y.known
  where
    both : ◌≡◌ {A = ListAnswer ⊤} (Err (ListRefusal.Whole x.q)) (Err (ListRefusal.Whole y.q))
    both = sym x.is ∙ y.is

    same : x.q ≡ y.q
    same = cc

pub only_width_8_is_retired : promise.OnlyWidth8IsRetired
unfolding promise.OnlyWidth8IsRetired Follows FollowsUpTo
only_width_8_is_retired n words before a x r = by (written_follows n words before a x)
  where
    not_13 : (i : ℕ) → i ≤ 12 → RefusedAs (ListAnswer ⊤) (λ q. Err (ListRefusal.Whole q)) i a → ⊥
    not_13 i h y = omega (arith, h, one_number i 13 a y r)

    by : Follows (λ q. Err (ListRefusal.Whole q)) a (written_width n ∷ retired n ∷ written_count n (length words) ∷ size before ∷ []) → n ≡ 8
    by (inl y) = absurd (not_13 1 (omega arith) y.1)
    by (inr (f, inl y)) = y.0
    by (inr (f, inr (g, inl y))) = absurd (not_13 10 (omega arith) y.1)
    by (inr (f, inr (g, inr (h, inl y)))) = absurd (not_13 7 (omega arith) y.1)
    by (inr (f, inr (g, inr (h, inr (k, none))))) = absurd (none r.q r.is)

-- ---- still read
module _ (block : List ℕ) (old : IsOldBlock block) where
  one_byte : word_bytes block ≡ 1
  unfolding word_bytes
  one_byte = ap (λ (n : ℕ). n / 8) old.wide

  ends : end block ≡ 8 + count block
  unfolding end
  ends = ap (λ (k : ℕ). 8 + k * count block) one_byte ∙ omega arith

  checked : check_test block ≡ passed
  unfolding check_test
  checked = sym (holds Refusal.Check (ap₂ ◌&&◌ (eq-eqb (sum_a (numbers block)) (A block) old.sum_a_is) (eq-eqb (sum_b (numbers block)) (B block) old.sum_b_is)))

  wide : block_width_test block ≡ passed
  unfolding block_width_test
  wide = sym (holds Refusal.Width (width_is (width block) (inl old.wide)))

  counted : count_test block ≡ passed
  unfolding count_test
  counted = sym (holds Refusal.Count (le-leb (end block) 504 (omega (arith, ends, old.inside))))

  filled : fill_test block ≡ passed
  unfolding fill_test unused
  filled = sym (holds Refusal.Fill (zero_part (end block) 504 block (λ i low high. old.rest i (omega (arith, ends, low)) high)))

  accepted : (places : ℕ) → count block ≤ places → block_test block places ≡ passed
  accepted places room = room_decides block places old.sized old.marked checked wide counted filled ∙ room_fits (count block) places room

  is_read : (places : ℕ) (a : Answer Block) → count block ≤ places → ReadsBlock block places a → a ≡ block_read 8 (block_number block) (count block)
  unfolding ReadsBlock
  is_read places a room r = answered (accepted places room) r ∙ ap (λ (n : ℕ). block_read n (block_number block) (count block)) old.wide

pub old_blocks_are_still_read : promise.OldBlocksAreStillRead
unfolding promise.OldBlocksAreStillRead
old_blocks_are_still_read block before after a old room r f =
    let is = is_read block old (length before) a room r in
    let r' : ReadsBlock block (length before) (block_read 8 (block_number block) (count block)) = subst (ReadsBlock block (length before)) is r in
    let at = result_at block before after 8 (block_number block) (count block) r' f in
    (is, λ j h. at j h ∙ ap (λ (k : ℕ). number_at 1 (8 + k) block) (one-mul j) ∙ number_at_one (8 + j) block (omega (arith, h, old.inside, old.sized)), result_kept block before after 8 (block_number block) (count block) r' f)

-- ---- there is one: bytes 54 08 02 00 01 00 00 00 5A 80, zeros up to byte 503, A = 0x000288AF, B = 0x013E456D
old_case : List ℕ
old_case =
    (0x54 ∷ 0x08 ∷ 0x02 ∷ 0x00 ∷ 0x01 ∷ 0x00 ∷ 0x00 ∷ 0x00 ∷ 0x5A ∷ 0x80 ∷ [])
    ++ replicate 494 0x00
    ++ (0xAF ∷ 0x88 ∷ 0x02 ∷ 0x00 ∷ 0x6D ∷ 0x45 ∷ 0x3E ∷ 0x01 ∷ [])

zeros : all_zero (slice 10 504 old_case) ≡ true
unfolding old_case all_zero
zeros = refl

is_old_block : IsOldBlock old_case
unfolding old_case mark width count numbers A B number_at number packed total sum_a running sum_b
is_old_block = record { sized = refl; marked = refl; sum_a_is = refl; sum_b_is = refl; wide = refl; inside = lit≤ tt; rest = part_zero 10 504 old_case zeros }

pub there_is_an_old_block : promise.ThereIsAnOldBlock
unfolding promise.ThereIsAnOldBlock old_case all_bytes words width count block_number word_bytes packed number_at number
there_is_an_old_block = (old_case, are_bytes old_case refl, is_old_block, refl, refl)
