-- What is printed for a block that was read, or refused, is what the listing has for it, and what is answered tells why it is refused. Assumes nothing.
use Rattle.std.specs.Prelude.{Ok, Err, Some, None}
use Rattle.std.proofs.Common.{◌≡◌, ℕ, ◌≤◌, List, length, take, drop, sym, ap, ◌∙◌, subst, le_trans, le_of_eq}
use mathlib.Core.Path.{subst₃}
use lib.Seq.{take_at}
use Rattle.bounds.specs.declared.refusal.Refusal.{Refusal}
use Rattle.bounds.specs.Refusals.{Answer, Verdict, passed, through, refused}
use Rattle.sheet.specs.declared.block.Block.{Block}
use Rattle.sheet.specs.Layout.{width, words}
use Rattle.sheet.specs.Reads.{block_test, ReadsBlock, FillsResults}
use Rattle.sheet.proofs.Passing.{passes, was_read}
use Rattle.sheet.proofs.Results.{words_length, holds}
use Rattle.sheet.proofs.Sizes.{width_of_words}
use Rattle.listing.specs.Listing.{most, ListsBlock, refusal_of}
use Rattle.listing.specs.Text.{AreLines, IsRefusedLine}

-- a block that was read
module _ (block before after : List ℕ) (b : Block) (room : length before ≡ most) (r : ReadsBlock block (length before) (Ok b)) (f : FillsResults block before after) where
  pub narrow : b.width ≤ 64
  narrow =
      let t = was_read block (length before) b.width b.number b.count r in
      subst (λ (x : ℕ). x ≤ 64) (sym t.1) (width_of_words (width block) (passes block (length before) t.0).wide).1

  pub few : b.count ≤ most
  few =
      let t = was_read block (length before) b.width b.number b.count r in
      le_trans (le_of_eq t.2) (le_trans (passes block (length before) t.0).room (le_of_eq room))

  let_through : block_test block most ≡ passed
  let_through = subst (λ (m : ℕ). block_test block m ≡ passed) room (was_read block (length before) b.width b.number b.count r).0

  pub lines_listed : (place : ℕ) (t : List ℕ) → AreLines b.number b.width 0 (take b.count after) t → ListsBlock block place t
  unfolding ListsBlock
  lines_listed place t x =
      let k = was_read block (length before) b.width b.number b.count r in
      let all = ap (take b.count) (holds block before after b.width b.number b.count r f) ∙ take_at (words block) (drop b.count before) b.count (words_length block ∙ sym k.2) in
      through let_through (subst₃ (λ (x y : ℕ) (ws : List ℕ). AreLines x y 0 ws t) k.3 k.1 all x)

  pub not_refused : None ≡ refusal_of (block_test block most)
  unfolding refusal_of
  not_refused = sym (ap refusal_of let_through)

-- a block that was refused
module _ (block : List ℕ) (places : ℕ) (q : Refusal) (room : places ≡ most) (r : ReadsBlock block places (Err q)) where
  by : ReadsBlock block places (Err q) → block_test block places ≡ Err q
  unfolding ReadsBlock
  by (refused h e) = h ∙ sym (same e)
    where
      same : {p q : Refusal} → ◌≡◌ {A = Answer Block} (Err p) (Err q) → ◌≡◌ {A = Verdict} (Err p) (Err q)
      same e = ap (λ (r : Refusal). Err r) (cc)
  by (through h e) = cc

  stopped : block_test block most ≡ Err q
  stopped = subst (λ (m : ℕ). block_test block m ≡ Err q) room (by r)

  pub refused_listed : (place : ℕ) (t : List ℕ) → IsRefusedLine place q t → ListsBlock block place t
  unfolding ListsBlock
  refused_listed place t x = refused stopped x

  pub is_why : Some q ≡ refusal_of (block_test block most)
  unfolding refusal_of
  is_why = sym (ap refusal_of stopped)
