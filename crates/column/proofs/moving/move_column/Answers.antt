-- `move_column` meets its contract: the tests are made in their order, then every word is tried, and only then is anything written. Assumes nothing.
use mathlib.Core.Path.{◌≡◌, refl, sym, ap, ◌∙◌, subst, subst₂}
use Prim.Native.Nat.{ℕ}
use lib.ListN.{length}
use Rattle.std.specs.Prelude.{Err}
use Rattle.std.proofs.lemmas.Result.{err_from_is_err_and}
use Rattle.bounds.specs.declared.refusal.Refusal.{Refusal}
use Rattle.bounds.specs.Refusals.{passed, width_test, ◌then◌, through, refused, room_test}
use Rattle.bounds.proofs.Goods.{good_through, good_refused}
use Rattle.bounds.proofs.Rooms.{room_through}
use Rattle.column.specs.Columns.{MovableUpTo, AreMoved, IsTried, MovesColumn, Holds}
use Rattle.column.specs.Counts.{Counts, KeepsTheMeaning, CountsExact, HoldsAndCounts}
use Rattle.column.specs.Trials.{TriesWords}
use Rattle.column.proofs.Outcomes.{nothing_written, no_count, tried_refused}
use Rattle.column.proofs.moving.move_column.Goals as goal

-- the tests in a row: the first that refuses, and all that let through
source_refused : (n n' count room : ℕ) {q : Refusal} → width_test n ≡ Err q → width_test n then width_test n' then room_test count room ≡ Err q
source_refused n n' count room h = rw h refl

target_refused : (n n' count room : ℕ) {q : Refusal} → width_test n ≡ passed → width_test n' ≡ Err q → width_test n then width_test n' then room_test count room ≡ Err q
target_refused n n' count room h h' = rw (h, h') refl

room_decides : (n n' count room : ℕ) → width_test n ≡ passed → width_test n' ≡ passed → width_test n then width_test n' then room_test count room ≡ room_test count room
room_decides n n' count room h h' = rw (h, h') refl

pub returns-in_err-good : goal.returns-in_err-good
unfolding MovesColumn
returns-in_err-good c =
    let p = err_from_is_err_and c.from_residual.result c.from_residual.ensures.1 in
    let told = source_refused c.args.from.bits c.args.to.bits (length c.args.words.now) (length c.args.results.now) (good_refused _ _ c.in_err-good.ensures) in
    record { moves_column = refused told (p.1 ∙ ap Err p.2); holds_and_counts = nothing_written _ _ _ _ _ _ (no_count _ _ p.1) }

pub returns-in_err-good-2 : goal.returns-in_err-good-2
unfolding MovesColumn
returns-in_err-good-2 c =
    let p = err_from_is_err_and c.from_residual-in_err-good-2.result c.from_residual-in_err-good-2.ensures.1 in
    let told = target_refused c.args.from.bits c.args.to.bits (length c.args.words.now) (length c.args.results.now) (good_through _ _ c.in_ok-good.ensures).0 (good_refused _ _ c.in_err-good-2.ensures) in
    record { moves_column = refused told (p.1 ∙ ap Err p.2); holds_and_counts = nothing_written _ _ _ _ _ _ (no_count _ _ p.1) }

pub returns-in_err-test_room : goal.returns-in_err-test_room
unfolding MovesColumn
returns-in_err-test_room c =
    let p = err_from_is_err_and c.from_residual-in_err-test_room.result c.from_residual-in_err-test_room.ensures.1 in
    let told = room_decides c.args.from.bits c.args.to.bits (length c.args.words.now) (length c.args.results.now) (good_through _ _ c.in_ok-good.ensures).0 (good_through _ _ c.in_ok-good-2.ensures).0 in
    record { moves_column = refused (told ∙ sym c.in_err-test_room.ensures) (p.1 ∙ ap Err p.2); holds_and_counts = nothing_written _ _ _ _ _ _ (no_count _ _ p.1) }

pub returns-in_err-test_words : goal.returns-in_err-test_words
unfolding MovesColumn
returns-in_err-test_words c =
    let p = err_from_is_err_and c.from_residual-in_err-test_words.result c.from_residual-in_err-test_words.ensures.1 in
    let from = good_through _ _ c.in_ok-good.ensures in
    let to = good_through _ _ c.in_ok-good-2.ensures in
    let told = room_decides c.args.from.bits c.args.to.bits (length c.args.words.now) (length c.args.results.now) from.0 to.0 ∙ sym c.in_ok-test_room.ensures in
    let tried = tried_refused _ _ _ _ _ c.in_err-test_words.ensures in
    record {
      moves_column =
          through told
          (subst (IsTried c.args.from.bits c.args.to.bits c.args.rule c.args.words.now) (sym (p.1 ∙ ap Err p.2))
          (subst₂ (λ (n n' : ℕ). IsTried n n' c.args.rule c.args.words.now (Err c.in_err-test_words.field-0.0)) from.1 to.1 tried));
      holds_and_counts = nothing_written _ _ _ _ _ _ (no_count _ _ p.1);
    }

pub write_words-requires : goal.write_words-requires
unfolding TriesWords
write_words-requires c = record { words_in_bounds = room_through _ _ (sym c.in_ok-test_room.ensures); movable_up_to = c.in_ok-test_words.ensures }

pub returns : goal.returns
unfolding MovesColumn HoldsAndCounts Holds CountsExact IsTried TriesWords
returns c =
    let from = good_through _ _ c.in_ok-good.ensures in
    let to = good_through _ _ c.in_ok-good-2.ensures in
    let told = room_decides c.args.from.bits c.args.to.bits (length c.args.words.now) (length c.args.results.now) from.0 to.0 ∙ sym c.in_ok-test_room.ensures in
    let words = c.args.words.now in
    record {
      moves_column = through told (refl, subst₂ (λ (n n' : ℕ). MovableUpTo n n' c.args.rule words (length words)) from.1 to.1 c.in_ok-test_words.ensures);
      holds_and_counts = (
        subst₂ (λ (n n' : ℕ). AreMoved n n' c.args.rule words (length words) c.args.results.now c.write_words.new.results) from.1 to.1 c.write_words.ensures.are_moved,
        subst₂ (λ (n n' : ℕ). Counts (KeepsTheMeaning n n' words c.write_words.new.results) (length words) c.write_words.result) from.1 to.1 c.write_words.ensures.counts,
      );
    }
