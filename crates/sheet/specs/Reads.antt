-- What reading a block answers, and what it leaves in the lent result slice (paper 01).
use Rattle.std.specs.Prelude.{Ok, Err, ◌≡◌, ℕ, Bool, true, ◌&&◌, ◌||◌, List, [], ◌∷◌, ◌++◌, length, drop, ◌==◌, nat_le}
use Rattle.bounds.specs.declared.refusal.Refusal.TheVariants.{Width, Size, Mark, Check, Count, Fill}
use Rattle.bounds.specs.Refusals.{Answer, Verdict, unless, room_test, ◌then◌, Decided}
use Rattle.sheet.specs.declared.block.Block.{Block}
use Rattle.sheet.specs.Layout.{mark, width, count, block_number, end, words, unused, A, B, numbers}
use Rattle.sheet.specs.Sums.{sum_a, sum_b}

-- one of 8, 16, 32, 64
unfoldable pub is_block_width : ℕ → Bool
is_block_width n = n == 8 || n == 16 || n == 32 || n == 64

unfoldable pub all_zero : List ℕ → Bool
all_zero [] = true
all_zero (b ∷ bytes) = b == 0 && all_zero bytes

module _ (block : List ℕ) where
  -- 7 SIZE: a block isn't 512 bytes
  unfoldable pub size_test : Verdict
  size_test = unless Size (length block == 512)

  -- 8 MARK: byte 0 isn't 0x54
  unfoldable pub mark_test : Verdict
  mark_test = unless Mark (mark block == 0x54)

  -- 9 CHECK: A or B differs
  unfoldable pub check_test : Verdict
  check_test = unless Check (sum_a (numbers block) == A block && sum_b (numbers block) == B block)

  -- 1 WIDTH: a block's width isn't one of its four
  unfoldable pub block_width_test : Verdict
  block_width_test = unless Width (is_block_width (width block))

  -- 10 COUNT: more words than the width has room for, up to byte 503
  unfoldable pub count_test : Verdict
  count_test = unless Count (nat_le (end block) 504)

  -- 11 FILL: an unused word byte isn't zero
  unfoldable pub fill_test : Verdict
  fill_test = unless Fill (all_zero (unused block))

  -- 6 ROOM comes last; the result slice has this many places
  unfoldable pub block_test : ℕ → Verdict
  block_test places = size_test then mark_test then check_test then block_width_test then count_test then fill_test then room_test (count block) places

-- ---- what the call answers, and what it leaves in the result slice
-- a block of this width, number and count of words
abbrev pub block_read : ℕ → ℕ → ℕ → Answer Block
block_read w i n = Ok (record { width = w; number = i; count = n })

unfoldable pub ReadsBlock : List ℕ → ℕ → Answer Block → Type 0
ReadsBlock block places a = Decided (block_test block places) (λ q. a ≡ Err q) (a ≡ block_read (width block) (block_number block) (count block))

unfoldable pub FillsResults : List ℕ → List ℕ → List ℕ → Type 0
FillsResults block before after = Decided (block_test block (length before)) (λ q. after ≡ before) (after ≡ words block ++ drop (count block) before)
