-- The refusals of a column and of a block follow the table. Assumes nothing.
use Rattle.std.specs.Prelude.{Ok, Err}
use Rattle.bounds.specs.declared.refusal.ListRefusal.{ListRefusal}
use mathlib.Core.Path.{◌≡◌, refl, sym, ap, ◌∙◌, subst}
use mathlib.Core.Bool.{Bool, true, false, ◌&&◌, false≢true}
use mathlib.Core.List.{List, [], ◌∷◌}
use mathlib.Core.Logic.{◌⊎◌, inl, inr, ⊎_elim}
use Prim.Native.Nat.{ℕ, suc, ◌+◌, ◌*◌, ◌/◌, ◌≤◌, ◌<◌}
use native.Mathlib.Decide.{dec_lt}
use native.Mathlib.Omega.{arith}
use borrow.Author.Tests.{eqb-true, eqb-false}
use lib.Dec.{eqb}
use lib.ListN.{length, get_or, take, length-take, get_or-eq_default}
use lib.Seq.{slice, get_or-take, get_or-drop}
use Rattle.bounds.specs.declared.refusal.Refusal.{Refusal}
use Rattle.bounds.specs.Refusals.{width_test, room_test, unless, ◌then◌, through, refused, passed, Answer, Verdict, ListAnswer}
use Rattle.bounds.proofs.Powers.{not_more}
use Rattle.bounds.proofs.Verdicts.{both, open_when, width_through, then_through}
use Rattle.round.specs.declared.value.Rule.{Rule}
use Rattle.write.specs.Writes.{Moves}
use Rattle.column.specs.declared.moving.MovedColumn.{MovedColumn}
use Rattle.column.specs.Columns.{Movable, MovableUpTo, IsTried, MovesColumn}
use Rattle.bounds.proofs.Rooms.{room_fits, room_short}
use Rattle.sheet.specs.declared.block.Block.{Block}
use Rattle.sheet.specs.Layout as block
use Rattle.sheet.specs.Sums.{sum_a, sum_b}
use Rattle.sheet.specs.Reads as sheet
use Rattle.sheet.specs.Reads.{is_block_width, all_zero, size_test, mark_test, check_test, count_test, fill_test, block_test, ReadsBlock}
use Rattle.sheet.specs.Writes.{has_room_for}
use Rattle.sheet.proofs.Tests.{OneOfFour, width_is, is_width}
use Rattle.sheet.proofs.Rooms.{has_room, has_no_room}
use Rattle.sheet.proofs.Unused.{part_zero}
use Rattle.promises.specs.Refusals.{FollowsUpTo, Follows, width, room, size, mark, check, block_width, count, fill, move_lines}
use Rattle.promises.proofs.Lines.{Tells, holds, fails, width_tells, parts, follow, verdict_decided, carry, past, good_width}
use Rattle.promises.proofs.WordRefusals.{answer_none, move_follows}

-- ---- the room, of a column and of a block
room_tells : (count places : ℕ) → Tells (room_test count places) Refusal.Room (places < count)
room_tells count places = by (dec_lt places count)
  where
    by : Dec (places < count) → Tells (room_test count places) Refusal.Room (places < count)
    by (yes l) = holds (room_short count places l) l
    by (no f) = fails (room_fits count places (not_more f)) f

pub test_room_follows : (count places : ℕ) (a : Verdict) → a ≡ room_test count places → Follows Err a (room count places ∷ [])
unfolding Follows FollowsUpTo
test_room_follows count places a x = follow Refusal.Room (room_tells count places) (verdict_decided x) (λ e. answer_none tt a)

-- ---- a column
pub column_follows : (n n' : ℕ) (rule : Rule) (words : List ℕ) (places : ℕ) (a : ListAnswer MovedColumn) → MovesColumn n n' rule words places a → Follows (λ q. Err (ListRefusal.Whole q)) a (width n ∷ width n' ∷ room (length words) places ∷ [])
unfolding Follows FollowsUpTo MovesColumn IsTried
column_follows n n' rule words places a x =
    follow Refusal.Width (width_tells n) (parts (parts x)) (λ e y. follow Refusal.Width (width_tells n') y (λ e' z. follow Refusal.Room (room_tells (length words) places) z (λ s t q h. subst (IsTried n n' rule words) h t)))

module _ (n n' : ℕ) (rule : Rule) (words : List ℕ) (places : ℕ) (i : ℕ) (inside : i < length words) where
  -- a position has the lines of its move, where the widths are right
  at_position : (r : Answer ℕ) (a : ListAnswer MovedColumn) → width_test n ≡ passed → width_test n' ≡ passed → ((q : Refusal) → r ≡ Err q → a ≡ Err (ListRefusal.At i q)) → ((q : Refusal) → a ≡ Err (ListRefusal.At i q) → r ≡ Err q)
      → Moves n n' rule (get_or words i 0) r → Follows (λ q. Err (ListRefusal.At i q)) a (move_lines n n' rule (get_or words i 0))
  at_position r a e e' to from m =
      carry Err (λ q. Err (ListRefusal.At i q)) r a _ to from
      (past Err r 1 _ _ (good_width n' (width_through n' e')) (past Err r 1 _ _ (good_width n (width_through n e)) (move_follows n n' rule (get_or words i 0) r m)))

  tried : (a : ListAnswer MovedColumn) → width_test n ≡ passed → width_test n' ≡ passed → ((j : ℕ) (q : Refusal) → j < i → a ≡ Err (ListRefusal.At j q) → ⊥) → IsTried n n' rule words a → Follows (λ q. Err (ListRefusal.At i q)) a (move_lines n n' rule (get_or words i 0))
  unfolding IsTried MovableUpTo Movable
  tried (Ok c) e e' before x =
      let (w', m) = x.1 i (omega (arith, x.0, inside)) in
      at_position (Ok w') (Ok c) e e' (λ q h. cc) (λ q h. cc) m
  tried (Err (ListRefusal.Whole q)) e e' before x = absurd x
  tried (Err (ListRefusal.At p q)) e e' before x = by (dec_lt p i) (dec_lt i p)
    where
      by : Dec (p < i) → Dec (i < p) → Follows {A = ListAnswer MovedColumn} (λ q. Err (ListRefusal.At i q)) (Err (ListRefusal.At p q)) (move_lines n n' rule (get_or words i 0))
      by (yes l) d = absurd (before p q l refl)
      by (no f) (yes l) = let (w', m) = x.lowest i l in at_position (Ok w') (Err (ListRefusal.At p q)) e e' (λ q' h. cc) (λ q' h. let same : p ≡ i = cc in absurd (omega (arith, same, l))) m
      by (no f) (no g) =
          let same : p ≡ i = omega (arith, not_more f, not_more g) in
          at_position (Err q) (Err (ListRefusal.At p q)) e e' (λ q' h. cc) (λ q' h. cc) (subst (λ (k : ℕ). Moves n n' rule (get_or words k 0) (Err q)) same x.is)

  pub position_follows : (a : ListAnswer MovedColumn) → MovesColumn n n' rule words places a → ((q : Refusal) → a ≡ Err (ListRefusal.Whole q) → ⊥) → ((j : ℕ) (q : Refusal) → j < i → a ≡ Err (ListRefusal.At j q) → ⊥) → Follows (λ q. Err (ListRefusal.At i q)) a (move_lines n n' rule (get_or words i 0))
  unfolding MovesColumn
  position_follows a (through h x) f before =
      let t = then_through (width_test n then width_test n') (room_test (length words) places) h in
      let u = then_through (width_test n) (width_test n') t.0 in
      tried a u.0 u.1 before x
  position_follows a (refused {q = q} h e) f before = absurd (f q e)

-- ---- a block
unless_tells : (q : Refusal) (b : Bool) {When : Type 0} → (b ≡ true → When → ⊥) → (b ≡ false → When) → Tells (unless q b) q When
unless_tells q true f g = fails refl (f refl)
unless_tells q false f g = holds refl (g refl)

-- a list with a number that isn't zero
not_zeros : (xs : List ℕ) → all_zero xs ≡ false → (j : ℕ) × (get_or xs j 0 ≡ 0 → ⊥)
unfolding all_zero
not_zeros [] h = absurd (false≢true (sym h))
not_zeros (x ∷ xs) h = by (eqb x 0) refl h (not_zeros xs)
  where
    by : (b : Bool) → eqb x 0 ≡ b → b && all_zero xs ≡ false → (all_zero xs ≡ false → (j : ℕ) × (get_or xs j 0 ≡ 0 → ⊥)) → (j : ℕ) × (get_or (x ∷ xs) j 0 ≡ 0 → ⊥)
    by true e h f = let t = f h in (suc t.0, t.1)
    by false e h f = (0, eqb-false x 0 e)

-- a width that isn't one of the four, and more words than it has room for
pub four_tells : (n : ℕ) → Tells (unless Refusal.Width (is_block_width n)) Refusal.Width ((n ≡ 8 → ⊥) × (n ≡ 16 → ⊥) × (n ≡ 32 → ⊥) × (n ≡ 64 → ⊥))
four_tells n = unless_tells Refusal.Width (is_block_width n) (λ e f. none f (is_width n e)) (λ e. (λ h. no e (inl h), λ h. no e (inr (inl h)), λ h. no e (inr (inr (inl h))), λ h. no e (inr (inr (inr h)))))
  where
    none : (n ≡ 8 → ⊥) × (n ≡ 16 → ⊥) × (n ≡ 32 → ⊥) × (n ≡ 64 → ⊥) → OneOfFour n → ⊥
    none f (inl h) = f.0 h
    none f (inr (inl h)) = f.1 h
    none f (inr (inr (inl h))) = f.2 h
    none f (inr (inr (inr h))) = f.3 h

    no : is_block_width n ≡ false → OneOfFour n → ⊥
    no e h = false≢true (sym e ∙ width_is n h)

pub many_tells : (n count : ℕ) → unless Refusal.Width (is_block_width n) ≡ passed → Tells (unless Refusal.Count (has_room_for n count)) Refusal.Count (496 / (n / 8) < count)
many_tells n count e = by (dec_lt (496 / (n / 8)) count)
  where
    four : OneOfFour n
    four = is_width n (open_when _ Refusal.Width e)

    by : Dec (496 / (n / 8) < count) → Tells (unless Refusal.Count (has_room_for n count)) Refusal.Count (496 / (n / 8) < count)
    by (yes l) = holds (ap (unless Refusal.Count) (has_no_room n count four l)) l
    by (no f) = fails (ap (unless Refusal.Count) (has_room n count four (not_more f))) f

module _ (b : List ℕ) where
  pub size_tells : Tells (size_test b) Refusal.Size (length b ≡ 512 → ⊥)
  unfolding size_test
  size_tells = unless_tells Refusal.Size (eqb (length b) 512) (λ e f. f (eqb-true _ _ e)) (eqb-false _ _)

  mark_tells : Tells (mark_test b) Refusal.Mark (block.mark b ≡ 0x54 → ⊥)
  unfolding mark_test
  mark_tells = unless_tells Refusal.Mark (eqb (block.mark b) 0x54) (λ e f. f (eqb-true _ _ e)) (eqb-false _ _)

  check_tells : Tells (check_test b) Refusal.Check ((sum_a (block.numbers b) ≡ block.A b → ⊥) ⊎ (sum_b (block.numbers b) ≡ block.B b → ⊥))
  unfolding check_test
  check_tells = unless_tells Refusal.Check (eqb (sum_a (block.numbers b)) (block.A b) && eqb (sum_b (block.numbers b)) (block.B b)) agree (differ _ refl)
    where
      agree : eqb (sum_a (block.numbers b)) (block.A b) && eqb (sum_b (block.numbers b)) (block.B b) ≡ true → (sum_a (block.numbers b) ≡ block.A b → ⊥) ⊎ (sum_b (block.numbers b) ≡ block.B b → ⊥) → ⊥
      agree e = let t = both (eqb (sum_a (block.numbers b)) (block.A b)) (eqb (sum_b (block.numbers b)) (block.B b)) e in ⊎_elim (λ f. f (eqb-true _ _ t.0)) (λ f. f (eqb-true _ _ t.1))

      differ : (c : Bool) → eqb (sum_a (block.numbers b)) (block.A b) ≡ c → c && eqb (sum_b (block.numbers b)) (block.B b) ≡ false → (sum_a (block.numbers b) ≡ block.A b → ⊥) ⊎ (sum_b (block.numbers b) ≡ block.B b → ⊥)
      differ true p e = inr (eqb-false _ _ e)
      differ false p e = inl (eqb-false _ _ p)

  width_of_block_tells : Tells (sheet.block_width_test b) Refusal.Width ((block.width b ≡ 8 → ⊥) × (block.width b ≡ 16 → ⊥) × (block.width b ≡ 32 → ⊥) × (block.width b ≡ 64 → ⊥))
  unfolding sheet.block_width_test
  width_of_block_tells = four_tells (block.width b)

  count_tells : sheet.block_width_test b ≡ passed → Tells (count_test b) Refusal.Count (496 / (block.width b / 8) < block.count b)
  unfolding sheet.block_width_test count_test block.end block.word_bytes has_room_for
  count_tells e = many_tells (block.width b) (block.count b) e

  fill_tells : Tells (fill_test b) Refusal.Fill ((i : ℕ) × (8 + block.width b / 8 * block.count b ≤ i) × (i < 504) × (get_or b i 0 ≡ 0 → ⊥))
  unfolding fill_test block.unused block.end block.word_bytes
  fill_tells = unless_tells Refusal.Fill (all_zero (slice end 504 b)) (λ e (i, low, high, f). f (part_zero end 504 b e i low high)) found
    where
      end : ℕ
      end = 8 + block.width b / 8 * block.count b

      inside : (i : ℕ) → i < 504 → get_or b i 0 ≡ get_or (take 504 b) i 0
      inside i h = sym (get_or-take 504 b i 0 h)

      found : all_zero (slice end 504 b) ≡ false → (i : ℕ) × (end ≤ i) × (i < 504) × (get_or b i 0 ≡ 0 → ⊥)
      found e = let t = not_zeros (slice end 504 b) e in by t.0 (dec_lt (end + t.0) 504) (λ h. t.1 (get_or-drop end (take 504 b) t.0 0 ∙ h))
        where
          by : (j : ℕ) → Dec (end + j < 504) → (get_or (take 504 b) (end + j) 0 ≡ 0 → ⊥) → (i : ℕ) × (end ≤ i) × (i < 504) × (get_or b i 0 ≡ 0 → ⊥)
          by j (yes l) f = (end + j, omega arith, l, λ h. f (sym (inside (end + j) l) ∙ h))
          by j (no g) f = absurd (f (get_or-eq_default (take 504 b) 0 (omega (arith, not_more g, length-take 504 b))))

  pub block_follows : (places : ℕ) (a : Answer Block) → ReadsBlock b places a → Follows Err a (size b ∷ mark b ∷ check b ∷ block_width b ∷ count b ∷ fill b ∷ room (block.count b) places ∷ [])
  unfolding Follows FollowsUpTo ReadsBlock block_test
  block_follows places a x =
      follow Refusal.Size size_tells (parts (parts (parts (parts (parts (parts x))))))
      (λ e₁ y₁. follow Refusal.Mark mark_tells y₁
      (λ e₂ y₂. follow Refusal.Check check_tells y₂
      (λ e₃ y₃. follow Refusal.Width width_of_block_tells y₃
      (λ e₄ y₄. follow Refusal.Count (count_tells e₄) y₄
      (λ e₅ y₅. follow Refusal.Fill fill_tells y₅
      (λ e₆ y₆. follow Refusal.Room (room_tells (block.count b) places) y₆ (λ e. answer_none _ a)))))))
