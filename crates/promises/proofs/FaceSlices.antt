-- What the exported calls on lent slices hand over and leave there, from their contracts. Assumes nothing.
use Rattle.std.specs.Prelude.{Ok, Err}
use Rattle.bounds.specs.declared.refusal.ListRefusal.{ListRefusal}
use mathlib.Core.Path.{◌≡◌, refl, sym, ap, subst}
use mathlib.Core.Bool.{Bool}
use mathlib.Core.List.{List, [], ◌∷◌, ◌++◌}
use mathlib.Core.Logic.{◌⊎◌, inl, inr}
use Prim.Native.Nat.{ℕ, ◌≤◌, ◌<◌}
use lib.ListN.{length, get_or, drop}
use Rattle.bounds.specs.declared.refusal.Refusal.{Refusal}
use Rattle.bounds.specs.Refusals.{number_of, width_test, room_test, ◌then◌, passed, Answer, ListAnswer}
use Rattle.bounds.proofs.Verdicts.{width_through, then_through, answered}
use Rattle.write.specs.Writes.{Moves}
use Rattle.column.specs.declared.moving.MovedColumn.{MovedColumn}
use Rattle.column.specs.Columns.{Movable, MovableUpTo, IsTried, MovesColumn, Holds}
use Rattle.column.specs.Counts.{Counts, KeepsTheMeaning, CountsExact, HoldsAndCounts}
use Rattle.sheet.specs.declared.block.Block.{Block}
use Rattle.sheet.specs.Layout as block
use Rattle.sheet.specs.Reads.{ReadsBlock, FillsResults}
use Rattle.ledusprig.specs.declared.handed.columns.HandedBlock.{HandedBlock}
use Rattle.ledusprig.specs.declared.handed.columns.HandedColumn.{HandedColumn}
use Rattle.ledusprig.specs.Handed.{HandsOver, MovesTheColumn, rule_of, column_handed, block_handed}
use Rattle.promises.specs.Refusals.{Follows, width, room, size, mark, check, block_width, count, fill}
use Rattle.promises.specs.Slices.{ARefusedBlockWritesNothing}
use Rattle.promises.specs.Face.{NoneHolds, word_lines, MovedAll, RefusedAtPosition, HandsColumn, HandsBlock}
use Rattle.promises.proofs.FaceLaws.{handed_so, hands, unrefused, none_holds, numbered}
use Rattle.promises.proofs.FaceNumbers.{moved_word, moved_follows}
use Rattle.promises.proofs.Lines.{past, good_width}
use Rattle.promises.proofs.Refusals.{refusals_follow_the_table}
use Rattle.promises.proofs.Slices.{a_refused_block_writes_nothing}
use Rattle.promises.proofs.WordRefusals.{answer_none}

-- ---- a column
module _ (n n' : ℕ) (strict : Bool) (words before after : List ℕ) where
  -- at widths that are right, a word of the column has its own lines only
  at_word : (a : Answer ℕ) (w : ℕ) → width_test n ≡ passed → width_test n' ≡ passed → Moves n n' (rule_of (numbered strict)) w a → Follows Err a (word_lines n n' strict w)
  at_word a w e e' m = past Err a 1 _ _ (good_width n' (width_through n' e')) (past Err a 1 _ _ (good_width n (width_through n e)) (moved_follows n n' strict w a m))

  none_at : (w w' : ℕ) → width_test n ≡ passed → width_test n' ≡ passed → Moves n n' (rule_of (numbered strict)) w (Ok w') → NoneHolds (word_lines n n' strict w)
  none_at w w' e e' m = none_holds Err (Ok w') (word_lines n n' strict w) (answer_none w' _ refl) (at_word (Ok w') w e e' m)

  tried : (a : ListAnswer MovedColumn) → width_test n ≡ passed → width_test n' ≡ passed → IsTried n n' (rule_of (numbered strict)) words a → Holds n n' (rule_of (numbered strict)) words before a after → CountsExact n n' words after a → MovedAll n n' strict words before after (column_handed a) ⊎ RefusedAtPosition n n' strict words before after (column_handed a)
  unfolding IsTried Holds CountsExact MovableUpTo Movable
  tried (Ok c) e e' x y z =
      inl (record {
        refusal = refl;
        position = refl;
        moved = x.0;
        exact = subst (λ (j : ℕ). Counts (KeepsTheMeaning n n' words after) j c.exact) x.0 z;
        none = λ i l. none_at (get_or words i 0) (get_or after i 0) e e' (y.moved i (inside i l));
        results = λ i l. moved_word n n' strict (get_or words i 0) (get_or after i 0) (y.moved i (inside i l));
        others = λ i l. y.others i (subst (λ (k : ℕ). k ≤ i) (sym x.0) l);
        as_long = y.room;
      })
    where
      inside : (i : ℕ) → i < length words → i < c.moved
      inside i l = subst (λ (k : ℕ). i < k) (sym x.0) l
  tried (Err (ListRefusal.Whole q)) e e' x y z = absurd x
  tried (Err (ListRefusal.At p q)) e e' x y z =
      inr (record {
        inside = x.inside;
        lowest = λ i l. let (w', m) = x.lowest i l in none_at (get_or words i 0) w' e e' m;
        is = handed_so {A = Answer ℕ} Err (Err q) (number_of q) (word_lines n n' strict (get_or words p 0)) _ _ (λ q' h. (ap number_of (same q' h), (refl, refl, y))) (λ none. none q refl) (at_word (Err q) (get_or words p 0) e e' x.is);
      })
    where
      same : (q' : Refusal) → ◌≡◌ {A = Answer ℕ} (Err q) (Err q') → q ≡ q'
      same q' h = cc

  pub column_hands : (r : HandedColumn) → HandsOver column_handed (MovesTheColumn n n' (rule_of (numbered strict)) words before after) r → HandsColumn n n' strict words before after r
  unfolding HandsColumn MovesTheColumn MovesColumn HoldsAndCounts Holds
  column_hands =
      hands (λ q. Err (ListRefusal.Whole q)) (λ r. r.refusal) (λ r. (r.position ≡ 0) × (r.moved ≡ 0) × (r.exact ≡ 0) × (after ≡ before)) Tried (width n ∷ width n' ∷ room (length words) (length before) ∷ []) (λ q x. (refl, (refl, refl, refl, x.1.0))) by
      (λ a x. refusals_follow_the_table.move_column n n' (rule_of (numbered strict)) words (length before) a x.0)
    where
      Tried : HandedColumn → Type 0
      Tried r = MovedAll n n' strict words before after r ⊎ RefusedAtPosition n n' strict words before after r

      by : (a : ListAnswer MovedColumn) → MovesTheColumn n n' (rule_of (numbered strict)) words before after a → ((q : Refusal) → a ≡ Err (ListRefusal.Whole q) → ⊥) → Tried (column_handed a)
      by a x none =
          let t = unrefused none x.0 in
          let u = then_through (width_test n then width_test n') (room_test (length words) (length before)) t.0 in
          let v = then_through (width_test n) (width_test n') u.0 in
          tried a v.0 v.1 t.1 x.1.0 x.1.1

-- ---- a block
module _ (b before after : List ℕ) where
  pub block_hands : (r : HandedBlock) → HandsOver block_handed (ReadsBlock b (length before)) r → FillsResults b before after → HandsBlock b before after r
  unfolding HandsBlock ReadsBlock FillsResults ARefusedBlockWritesNothing
  block_hands r h f =
      hands Err (λ r. r.refusal) (λ r. (r.width ≡ 0) × (r.number ≡ 0) × (r.count ≡ 0) × (after ≡ before)) Read
      (size b ∷ mark b ∷ check b ∷ block_width b ∷ count b ∷ fill b ∷ room (block.count b) (length before) ∷ [])
      (λ q x. (refl, (refl, refl, refl, a_refused_block_writes_nothing b before after q x f))) by (refusals_follow_the_table.read_block b (length before)) r h
    where
      Read : HandedBlock → Type 0
      Read r = (r.refusal ≡ 0) × ((r.width ≡ block.width b) × (r.number ≡ block.block_number b) × (r.count ≡ block.count b) × (after ≡ block.words b ++ drop (block.count b) before))

      by : (a : Answer Block) → ReadsBlock b (length before) a → ((q : Refusal) → a ≡ Err q → ⊥) → Read (block_handed a)
      by a x none = let t = unrefused none x in subst (λ (c : Answer Block). Read (block_handed c)) (sym t.1) (refl, (refl, refl, refl, answered t.0 f))
