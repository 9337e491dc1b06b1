-- COUNT is given exactly where there are more words than the width has room for: 496, 248, 124 or 62 words of 1, 2, 4 or 8 bytes. Assumes nothing.
use Rattle.std.proofs.Common.{◌≡◌, ℕ, zero, suc, ◌+◌, ◌*◌, ◌/◌, ◌<◌, ◌≤◌, true, false, refl, mul-le-mul_left, arith, lit<, lit≤, le-leb}
use borrow.Author.Tests.{lt-leb}
use Rattle.sheet.specs.Writes.{has_room_for}
use Rattle.sheet.proofs.Packing.{word_inside}
use Rattle.sheet.proofs.Tests.{OneOfFour, each_width}

-- ---- room for words of s bytes
whole_room : (n : ℕ) → OneOfFour n → n / 8 * (496 / (n / 8)) ≡ 496
whole_room = each_width (λ n. n / 8 * (496 / (n / 8)) ≡ 496) refl refl refl refl

pub some_bytes : (n : ℕ) → OneOfFour n → 0 < n / 8
some_bytes = each_width (λ n. 0 < n / 8) (lit< tt) (lit< tt) (lit< tt) (lit< tt)

pub small_room : (n : ℕ) → OneOfFour n → 496 / (n / 8) ≤ 496
small_room = each_width (λ n. 496 / (n / 8) ≤ 496) (lit≤ tt) (lit≤ tt) (lit≤ tt) (lit≤ tt)

some_size : (s most : ℕ) → s * most ≡ 496 → 0 < s
some_size zero most h = absurd (omega arith)
some_size (suc s) most h = omega arith

module _ (s k most : ℕ) (whole : s * most ≡ 496) where
  inside_room : k ≤ most → 8 + s * k ≤ 504
  inside_room h = omega (arith, mul-le-mul_left s h, whole)

  past_room : most < k → 504 < 8 + s * k
  past_room h = omega (arith, word_inside s k most h, some_size s most whole, whole)

-- ---- so the test of COUNT finds as many words as the width has room for
module _ (n count : ℕ) (four : OneOfFour n) where
  pub has_room : count ≤ 496 / (n / 8) → has_room_for n count ≡ true
  unfolding has_room_for
  has_room h = le-leb (8 + n / 8 * count) 504 (inside_room (n / 8) count (496 / (n / 8)) (whole_room n four) h)

  pub has_no_room : 496 / (n / 8) < count → has_room_for n count ≡ false
  unfolding has_room_for
  has_no_room h = lt-leb (8 + n / 8 * count) 504 (past_room (n / 8) count (496 / (n / 8)) (whole_room n four) h)
