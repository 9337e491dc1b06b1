-- A walk of a column, one word further: what has been tried, what has been written, and how many are exact. Assumes nothing.
use mathlib.Core.Bool.{true, false}
use Rattle.std.specs.Prelude.{Ok, Err, IsOk}
use Rattle.bounds.specs.declared.refusal.ListRefusal.{ListRefusal}
use Rattle.bounds.specs.declared.answer.Written.{Written}
use Rattle.bounds.specs.declared.saying.Saying.{Saying}
use Rattle.bounds.specs.Refusals.{Answer, passed, Verdict}
use Rattle.bounds.specs.Sayings.{says_exact}
use Rattle.bounds.proofs.Answers.{is_exact}
use mathlib.Core.Path.{◌≡◌, refl, sym, ◌∙◌, subst}
use mathlib.Core.List.{List}
use Prim.Native.Nat.{ℕ, ◌+◌, ◌≤◌, ◌<◌}
use native.Mathlib.Omega.{arith}
use mir.Val.{bool_byte}
use borrow.Author.Count.{below_none, below_more}
use lib.ListN.{length, get_or, set, length-set}
use lib.Seq.{get_or-set_same, get_or-set_other}
use Rattle.bounds.specs.declared.refusal.Refusal.{Refusal}
use Rattle.word.specs.Takum.{takum}
use Rattle.round.specs.declared.value.Rule.{Rule}
use Rattle.write.specs.Writes.{Moves}
use Rattle.write.specs.Sayings.{SaysMoved, MovesAndSays}
use Rattle.write.proofs.Sayings.{exact_means, not_exact}
use Rattle.column.specs.Columns.{Movable, MovableUpTo, AreMoved}
use Rattle.column.specs.Counts.{Counts, KeepsTheMeaning}
use Rattle.column.specs.Trials.{TriesWord, TriesWords}
use Rattle.column.proofs.Counts.{counts_alike, counts_further}
use Rattle.column.proofs.Trials.{not_refused}

module _ (n n' : ℕ) (rule : Rule) (words : List ℕ) where
  -- ---- trying
  pub none_tried : MovableUpTo n n' rule words 0
  unfolding MovableUpTo
  none_tried = below_none (λ i. Movable n n' rule (get_or words i 0))

  -- the word at i has been tried, with the verdict v
  module _ (i : ℕ) (v : Verdict) (tried : TriesWord n n' rule (get_or words i 0) v) (before : MovableUpTo n n' rule words i) where
    pub one_more_tried : v ≡ passed → MovableUpTo n n' rule words (i + 1)
    unfolding MovableUpTo TriesWord
    one_more_tried h = below_more (λ i. Movable n n' rule (get_or words i 0)) i before (subst (TriesWord n n' rule (get_or words i 0)) h tried)

  pub first_refused : (i : ℕ) (q : Refusal) → i < length words → TriesWord n n' rule (get_or words i 0) (Err q) → MovableUpTo n n' rule words i → TriesWords n n' rule words (Err (ListRefusal.At i q))
  unfolding TriesWords TriesWord
  first_refused i q inside is before = record { inside = inside; lowest = before; is = is }

  pub all_tried : (i : ℕ) → length words ≤ i → MovableUpTo n n' rule words i → MovableUpTo n n' rule words (length words)
  unfolding MovableUpTo
  all_tried i hi x k h = x k (omega (arith, h, hi))

  -- ---- writing
  pub none_written : (before : List ℕ) → AreMoved n n' rule words 0 before before
  none_written before = record { room = refl; moved = below_none (λ i. Moves n n' rule (get_or words i 0) (Ok (get_or before i 0))); others = λ i h. refl }

  pub one_more_written : (i w' : ℕ) (before after : List ℕ) → i < length before → AreMoved n n' rule words i before after → Moves n n' rule (get_or words i 0) (Ok w') → AreMoved n n' rule words (i + 1) before (set after i w')
  one_more_written i w' before after inside x m =
      record {
        room = length-set after i w' ∙ x.room;
        moved =
            below_more (λ k. Moves n n' rule (get_or words k 0) (Ok (get_or (set after i w') k 0))) i
            (λ k h. subst (λ (v : ℕ). Moves n n' rule (get_or words k 0) (Ok v)) (sym (get_or-set_other after i k w' 0 (λ q. omega (arith, h, q)))) (x.moved k h))
            (subst (λ (v : ℕ). Moves n n' rule (get_or words i 0) (Ok v)) (sym (get_or-set_same after i w' 0 (omega (arith, inside, x.room)))) m);
        others = λ k h. get_or-set_other after i k w' 0 (λ q. omega (arith, h, q)) ∙ x.others k (omega (arith, h));
      }

-- the word that w is moved to, and whether it means the same
pub record MovesWord (n n' : ℕ) (rule : Rule) (w : ℕ) (m : Written) : Type 0 where
  pub moves : Moves n n' rule w (Ok m.word)
  pub same : says_exact m.saying ≡ true → takum n' m.word ≡ takum n w
  pub other : says_exact m.saying ≡ false → takum n' m.word ≡ takum n w → ⊥

module _ (n n' : ℕ) (rule : Rule) (w : ℕ) where
  pub moves_word : (m : Written) → MovesAndSays n n' rule w (Ok m) → MovesWord n n' rule w m
  unfolding MovesAndSays
  moves_word m x =
      let says = x.says m.word m.saying refl in
      record {
        moves = x.answers;
        same = λ q. exact_means n n' rule _ _ x.answers (subst (λ (u : Saying). SaysMoved n' (takum n w) m.word u) (is_exact m.saying q) says);
        other = λ q. not_exact n n' rule _ _ _ x.answers says q;
      }

  -- a word that is moved to some word is not refused
  pub not_an_error : (a : Answer Written) → Movable n n' rule w → MovesAndSays n n' rule w a → IsOk a
  unfolding MovesAndSays
  not_an_error (Ok m) h x = refl
  not_an_error (Err q) h x = absurd (not_refused n n' w rule (Err q) x.answers q h refl)

-- the positions that were counted keep their results
pub still_counted : (n n' : ℕ) (words after : List ℕ) (i w' exact : ℕ) → Counts (KeepsTheMeaning n n' words after) i exact → Counts (KeepsTheMeaning n n' words (set after i w')) i exact
unfolding KeepsTheMeaning
still_counted n n' words after i w' exact x =
    counts_alike (λ k h q. subst (λ (v : ℕ). takum n' v ≡ takum n (get_or words k 0)) (sym (same k h)) q) (λ k h q. subst (λ (v : ℕ). takum n' v ≡ takum n (get_or words k 0)) (same k h) q) x
  where
    same : (k : ℕ) → k < i → get_or (set after i w') k 0 ≡ get_or after k 0
    same k h = get_or-set_other after i k w' 0 (λ q. omega (arith, h, q))

-- one word further: it has been moved to w', and a flag tells whether that means the same
pub one_more_counted : (n n' : ℕ) (rule : Rule) (words after : List ℕ) (i exact : ℕ) (m : Written) → i < length after → Counts (KeepsTheMeaning n n' words after) i exact → MovesWord n n' rule (get_or words i 0) m → (more : ℕ) → more ≡ exact + bool_byte (says_exact m.saying) → Counts (KeepsTheMeaning n n' words (set after i m.word)) (i + 1) more
unfolding KeepsTheMeaning
one_more_counted n n' rule words after i exact m inside x y more q =
    counts_further i exact (says_exact m.saying) (still_counted n n' words after i m.word exact x) (λ e. subst (λ (v : ℕ). takum n' v ≡ takum n (get_or words i 0)) (sym here) (y.same e)) (λ e z. y.other e (subst (λ (v : ℕ). takum n' v ≡ takum n (get_or words i 0)) here z)) more q
  where
    here : get_or (set after i m.word) i 0 ≡ m.word
    here = get_or-set_same after i m.word 0 inside
