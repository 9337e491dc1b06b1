-- `test` meets its contract: the tests are made in the paper's order, and the first that the block fails refuses it. Assumes nothing.
use Rattle.std.proofs.Common.{◌≡◌, ℕ, ◌-◌, ◌<◌, ◌≤◌, Bool, true, false, not, eqb, ◌&&◌, List, take, drop, refl, sym, ap, ◌∙◌, eq-eqb, ne_eqb, Err}
use Rattle.std.proofs.lemmas.Slice.{between_is}
use Rattle.bounds.specs.declared.refusal.Refusal.{Refusal}
use Rattle.bounds.specs.Refusals.{passed, unless, room_test}
use Rattle.sheet.specs.Layout.{mark, width, end, unused, numbers, A, B}
use Rattle.sheet.specs.Sums.{total, sum_a, sum_b}
use Rattle.sheet.specs.Reads.{is_block_width, check_test, block_width_test, count_test, fill_test}
use Rattle.sheet.proofs.Passing.{other_mark, check_refuses, width_refuses, count_refuses, fill_refuses, room_decides}
use Rattle.sheet.proofs.Tests.{holds, fails, lets_through, refuses, at_most, past}
use Rattle.sheet.proofs.Unused.{zero_when}
use Rattle.sheet.proofs.testing.test.Goals as goal

twice : (b : Bool) → b ≡ not (not b)
twice true = refl
twice false = refl

-- both sums are tested at once
summed : (block : List ℕ) {a b a' b' : ℕ} (differ : Bool) → (a ≡ sum_a (numbers block)) × (b ≡ sum_b (numbers block)) → (a' ≡ A block) × (b' ≡ B block) → differ ≡ not (eqb a a' && eqb b b') → check_test block ≡ unless Refusal.Check (not differ)
unfolding check_test
summed block {a} {b} {a'} {b'} differ p q e = rw (sym p.0, sym p.1, sym q.0, sym q.1, e) (ap (unless Refusal.Check) (twice (eqb a a' && eqb b b')))

agree : (block : List ℕ) {a b a' b' : ℕ} (differ : Bool) → (a ≡ sum_a (numbers block)) × (b ≡ sum_b (numbers block)) → (a' ≡ A block) × (b' ≡ B block) → differ ≡ not (eqb a a' && eqb b b') → differ ≡ false → check_test block ≡ passed
agree block differ p q e h = lets_through Refusal.Check _ (summed block differ p q e) (ap not h)

-- the width that was read is tested
tested : (block : List ℕ) (w : ℕ) (b : Bool) → w ≡ width block → b ≡ is_block_width w → block_width_test block ≡ unless Refusal.Width b
unfolding block_width_test
tested block w b e h = ap (unless Refusal.Width) (sym (h ∙ ap is_block_width e))

counted : (block : List ℕ) (e : ℕ) → e ≡ end block → e ≤ 504 → count_test block ≡ passed
unfolding count_test
counted block e h most = sym (at_most Refusal.Count 504 h most)

miscounted : (block : List ℕ) (e : ℕ) → e ≡ end block → 504 < e → count_test block ≡ Err Refusal.Count
unfolding count_test
miscounted block e h most = sym (past Refusal.Count 504 h most)

-- the bytes that are summed are the unused ones
all_unused : (block : List ℕ) {e sum : ℕ} → e ≡ end block → sum ≡ total (take (504 - e) (drop e block)) → sum ≡ total (unused block)
unfolding unused
all_unused block {e} h s = s ∙ ap total (between_is block e 504 ∙ ap (λ (i : ℕ). drop i (take 504 block)) h)

filled : (block : List ℕ) (sum : ℕ) → sum ≡ total (unused block) → sum ≡ 0 → fill_test block ≡ passed
unfolding fill_test
filled block sum h none = sym (holds Refusal.Fill (zero_when (unused block) ∙ eq-eqb (total (unused block)) 0 (sym h ∙ none)))

unfilled : (block : List ℕ) (sum : ℕ) → sum ≡ total (unused block) → (sum ≡ 0 → ⊥) → fill_test block ≡ Err Refusal.Fill
unfolding fill_test
unfilled block sum h some = sym (fails Refusal.Fill (zero_when (unused block) ∙ ne_eqb (total (unused block)) 0 (λ e. some (h ∙ e))))

-- ---- the tests
pub returns-then-block-ne84 : goal.returns-then-block-ne84
unfolding mark
returns-then-block-ne84 c = sym (other_mark _ _ c.args.block.sized c.if-block-ne84.true)

pub returns-then-ne : goal.returns-then-ne
unfolding mark
returns-then-ne c = sym (check_refuses _ _ c.args.block.sized c.if-block-ne84.false (refuses Refusal.Check _ (summed _ c.ne.result c.sums_of.ensures c.sums_in.ensures c.ne.ensures) (ap not c.if-ne.true)))

pub returns-then-not-is_block_width : goal.returns-then-not-is_block_width
unfolding mark
returns-then-not-is_block_width c =
    let narrow = refuses Refusal.Width c.is_block_width.result (tested c.args.block.all.now c.width.result _ c.width.ensures.0 c.is_block_width.ensures) c.if-not-is_block_width.true in
    sym (width_refuses _ _ c.args.block.sized c.if-block-ne84.false (agree _ c.ne.result c.sums_of.ensures c.sums_in.ensures c.ne.ensures c.if-ne.false) narrow)

pub returns-then-end-gt504 : goal.returns-then-end-gt504
unfolding mark
returns-then-end-gt504 c =
    let wide = lets_through Refusal.Width c.is_block_width.result (tested c.args.block.all.now c.width.result _ c.width.ensures.0 c.is_block_width.ensures) c.if-not-is_block_width.false in
    sym (count_refuses _ _ c.args.block.sized c.if-block-ne84.false (agree _ c.ne.result c.sums_of.ensures c.sums_in.ensures c.ne.ensures c.if-ne.false) wide (miscounted _ c.end-end.result c.end-end.ensures c.if-end-gt504.true))

pub returns-then-sum_of-ne0 : goal.returns-then-sum_of-ne0
unfolding mark
returns-then-sum_of-ne0 c =
    let wide = lets_through Refusal.Width c.is_block_width.result (tested c.args.block.all.now c.width.result _ c.width.ensures.0 c.is_block_width.ensures) c.if-not-is_block_width.false in
    let small = counted _ c.end-end.result c.end-end.ensures c.if-end-gt504.false in
    sym (fill_refuses _ _ c.args.block.sized c.if-block-ne84.false (agree _ c.ne.result c.sums_of.ensures c.sums_in.ensures c.ne.ensures c.if-ne.false) wide small (unfilled _ c.sum_of.result (all_unused _ c.end-end.ensures c.sum_of.ensures) c.if-sum_of-ne0.true))

pub returns : goal.returns
unfolding mark
returns c =
    let wide = lets_through Refusal.Width c.is_block_width.result (tested c.args.block.all.now c.width.result _ c.width.ensures.0 c.is_block_width.ensures) c.if-not-is_block_width.false in
    let small = counted _ c.end-end.result c.end-end.ensures c.if-end-gt504.false in
    let clear = filled _ c.sum_of.result (all_unused _ c.end-end.ensures c.sum_of.ensures) c.if-sum_of-ne0.false in
    c.test_room.ensures ∙ ap (λ (k : ℕ). room_test k c.args.places) c.count.ensures.0
    ∙ sym (room_decides _ _ c.args.block.sized c.if-block-ne84.false (agree _ c.ne.result c.sums_of.ensures c.sums_in.ensures c.ne.ensures c.if-ne.false) wide small clear)
