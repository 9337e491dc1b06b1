-- The tests of a block in the paper's order, and what is known of a block that they let through. Assumes nothing.
use Rattle.std.specs.Prelude.{Ok, Err}
use Rattle.std.proofs.Common.{◌≡◌, ℕ, ◌≤◌, eqb, List, length, sym, ap, ◌∙◌, subst, ap₂, eq-eqb, ne_eqb, eqb-true, leb-true}
use Rattle.bounds.specs.declared.refusal.Refusal.{Refusal}
use Rattle.bounds.specs.Refusals.{Answer, passed, ◌then◌, through, refused, room_test}
use Rattle.bounds.proofs.Verdicts.{open_when, both, then_through}
use Rattle.sheet.specs.declared.block.Block.{Block}
use Rattle.sheet.specs.Layout as layout
use Rattle.sheet.specs.Layout.{mark, width, count, block_number, end, A, B, numbers}
use Rattle.sheet.specs.Sums.{sum_a, sum_b}
use Rattle.sheet.specs.Reads.{size_test, mark_test, check_test, block_width_test, count_test, fill_test, block_test, block_read, ReadsBlock}
use Rattle.sheet.proofs.Tests.{OneOfFour, is_width, a_differs}

pub other_size : (block : List ℕ) (places : ℕ) → (length block ≡ 512 → ⊥) → Err Refusal.Size ≡ block_test block places
unfolding block_test size_test
other_size block places h = rw (ne_eqb (length block) 512 h)

pub other_mark : (block : List ℕ) (places : ℕ) → length block ≡ 512 → (mark block ≡ 0x54 → ⊥) → block_test block places ≡ Err Refusal.Mark
unfolding block_test size_test mark_test
other_mark block places h m = rw (eq-eqb (length block) 512 h, ne_eqb (mark block) 0x54 m)

-- a block of 512 bytes with its mark: each later test decides where the ones before it let the block through
module _ (block : List ℕ) (places : ℕ) (sized : length block ≡ 512) (marked : mark block ≡ 0x54) where
  from_check : block_test block places ≡ check_test block then block_width_test block then count_test block then fill_test block then room_test (count block) places
  unfolding block_test size_test mark_test
  from_check = rw (eq-eqb (length block) 512 sized, eq-eqb (mark block) 0x54 marked)

  pub check_refuses : check_test block ≡ Err Refusal.Check → block_test block places ≡ Err Refusal.Check
  check_refuses h = from_check ∙ rw h

  pub other_A : (sum_a (numbers block) ≡ A block → ⊥) → block_test block places ≡ Err Refusal.Check
  other_A a = check_refuses (sym (a_differs block a))

  module _ (checked : check_test block ≡ passed) where
    pub width_refuses : block_width_test block ≡ Err Refusal.Width → block_test block places ≡ Err Refusal.Width
    width_refuses h = from_check ∙ rw (checked, h)

    module _ (wide : block_width_test block ≡ passed) where
      pub count_refuses : count_test block ≡ Err Refusal.Count → block_test block places ≡ Err Refusal.Count
      count_refuses h = from_check ∙ rw (checked, wide, h)

      module _ (counted : count_test block ≡ passed) where
        pub fill_refuses : fill_test block ≡ Err Refusal.Fill → block_test block places ≡ Err Refusal.Fill
        fill_refuses h = from_check ∙ rw (checked, wide, counted, h)

        pub room_decides : fill_test block ≡ passed → block_test block places ≡ room_test (count block) places
        room_decides h = from_check ∙ rw (checked, wide, counted, h)

-- ---- a block that is let through: each test lets it through
pub record PassesEach (block : List ℕ) (places : ℕ) : Type 0 where
  pub size : size_test block ≡ passed
  pub mark : mark_test block ≡ passed
  pub check : check_test block ≡ passed
  pub width : block_width_test block ≡ passed
  pub count : count_test block ≡ passed
  pub fill : fill_test block ≡ passed
  pub room : room_test (layout.count block) places ≡ passed

pub passes_each : (block : List ℕ) (places : ℕ) → block_test block places ≡ passed → PassesEach block places
unfolding block_test
passes_each block places h =
    let to_fill = then_through (size_test block then mark_test block then check_test block then block_width_test block then count_test block then fill_test block) (room_test (layout.count block) places) h in
    let to_count = then_through (size_test block then mark_test block then check_test block then block_width_test block then count_test block) (fill_test block) to_fill.0 in
    let to_width = then_through (size_test block then mark_test block then check_test block then block_width_test block) (count_test block) to_count.0 in
    let to_check = then_through (size_test block then mark_test block then check_test block) (block_width_test block) to_width.0 in
    let to_mark = then_through (size_test block then mark_test block) (check_test block) to_check.0 in
    let to_size = then_through (size_test block) (mark_test block) to_mark.0 in
    record { size = to_size.0; mark = to_size.1; check = to_mark.1; width = to_check.1; count = to_width.1; fill = to_count.1; room = to_fill.1 }

-- what that tells of it
pub record Passes (block : List ℕ) (places : ℕ) : Type 0 where
  pub bytes : length block ≡ 512
  pub marked : layout.mark block ≡ 0x54
  pub a : sum_a (numbers block) ≡ A block
  pub b : sum_b (numbers block) ≡ B block
  pub wide : OneOfFour (layout.width block)
  pub inside : end block ≤ 504
  pub room : layout.count block ≤ places

pub passes : (block : List ℕ) (places : ℕ) → block_test block places ≡ passed → Passes block places
unfolding size_test mark_test check_test block_width_test count_test room_test
passes block places h =
    let each = passes_each block places h in
    let sums = both (eqb (sum_a (numbers block)) (A block)) (eqb (sum_b (numbers block)) (B block)) (open_when _ Refusal.Check each.check) in
    record {
      bytes = eqb-true _ _ (open_when _ Refusal.Size each.size);
      marked = eqb-true _ _ (open_when _ Refusal.Mark each.mark);
      a = eqb-true _ _ sums.0;
      b = eqb-true _ _ sums.1;
      wide = is_width _ (open_when _ Refusal.Width each.width);
      inside = leb-true _ _ (open_when _ Refusal.Count each.count);
      room = leb-true _ _ (open_when _ Refusal.Room each.room);
    }

-- its answer
pub read_as : (block : List ℕ) {w i n : ℕ} → w ≡ width block → i ≡ block_number block → n ≡ count block → block_read w i n ≡ block_read (width block) (block_number block) (count block)
read_as block {n = n} p q r = ap₂ (λ (x y : ℕ). block_read x y n) p q ∙ ap (λ (z : ℕ). block_read (width block) (block_number block) z) r

-- and what such an answer tells
content_of : Answer Block → ℕ × ℕ × ℕ
content_of (Ok b) = (b.width, b.number, b.count)
content_of (Err q) = (0, 0, 0)

GivesBlock : Answer Block → Type 0
GivesBlock (Ok b) = Unit {0}
GivesBlock (Err q) = ⊥

pub was_read : (block : List ℕ) (places w i n : ℕ) → ReadsBlock block places (block_read w i n) → (block_test block places ≡ passed) × (w ≡ width block) × (n ≡ count block) × (i ≡ block_number block)
unfolding ReadsBlock content_of GivesBlock
was_read block places w i n (through h x) =
    let same = ap content_of x in
    (h, ap (λ (p : ℕ × ℕ × ℕ). p.0) same, ap (λ (p : ℕ × ℕ × ℕ). p.2) same, ap (λ (p : ℕ × ℕ × ℕ). p.1) same)
was_read block places w i n (refused h x) = absurd (subst GivesBlock x tt)
