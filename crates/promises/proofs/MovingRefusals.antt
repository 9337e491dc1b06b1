-- The refusals of the laws of moving, as functions, follow the table: what one call gives is a word for the next, which can refuse only what is new to it, a
-- width or the second word. Assumes nothing.
use Rattle.std.specs.Prelude.{Ok, Err}
use Rattle.std.specs.declared.cmp.Ordering.{Ordering}
use mathlib.Core.Path.{sym, ap, subst}
use mathlib.Core.List.{[], ◌∷◌}
use mathlib.Core.Logic.{◌⊎◌}
use Prim.Native.Nat.{ℕ, ◌^◌, ◌≤◌, ◌<◌}
use native.Mathlib.Omega.{arith}
use Rattle.bounds.specs.declared.answer.Written.{Written}
use Rattle.bounds.specs.Refusals.{IsWord, through, refused, Answer}
use Rattle.bounds.specs.Sayings.{plain}
use Rattle.bounds.proofs.Answers.{word_of, plain_refused}
use Rattle.bounds.proofs.Verdicts.{word_through}
use Rattle.word.specs.Orders.{negated}
use Rattle.word.proofs.Values.{negated_word}
use Rattle.order.specs.Orders.{Negates}
use Rattle.round.specs.declared.value.Rule.{Rule}
use Rattle.write.specs.Writes.{Moves}
use Rattle.write.specs.Sayings.{MovesAndSays}
use Rattle.promises.specs.Moving.{GoesOutAndBack, GoesNegated, GoesCompared}
use Rattle.promises.specs.Refusals.{FollowsUpTo, Follows, width, stray, move_lines}
use Rattle.promises.proofs.Lines.{carry, so_too, past, good_width}
use Rattle.promises.proofs.Sayings.{moved_words}
use Rattle.promises.proofs.WordRefusals.{of_word, after_the_first, answer_none, rounded_strict, compare_follows, move_follows}

-- a word of the width has no stray bit
no_stray : (n w : ℕ) → IsWord n w → 2 ^ n ≤ w → ⊥
no_stray n w i h = omega (arith, h, i.fits)

-- and the width is one
no_width : (n w : ℕ) → IsWord n w → (n < 2) ⊎ (64 < n) → ⊥
no_width n w i = good_width n (i.least, i.most)

-- a rounded move has no line of INEXACT
rounded_follows : (a b w : ℕ) (r : Answer ℕ) → Moves a b Rule.Rounded w r → Follows Err r (width a ∷ width b ∷ stray a w ∷ [])
unfolding Follows FollowsUpTo move_lines
rounded_follows a b w r x = so_too Err r (width a ∷ width b ∷ stray a w ∷ []) _ _ (past Err r 4 _ [] (λ h. rounded_strict h.0)) (move_follows a b Rule.Rounded w r x)

-- and of a word it can refuse only the target's width
only_width : (a b w : ℕ) (r : Answer ℕ) → IsWord a w → Moves a b Rule.Rounded w r → Follows Err r (width b ∷ [])
unfolding Follows FollowsUpTo
only_width a b w r i x = so_too Err r (width b ∷ []) _ _ (past Err r 2 _ [] (no_stray a w i)) (past Err r 1 _ (width b ∷ stray a w ∷ []) (no_width a w i) (rounded_follows a b w r x))

-- what negation gives is a word
opposite_word : (n w o : ℕ) → Negates n w (Ok o) → IsWord n o
unfolding Negates word_of
opposite_word n w o (through h e) = subst (IsWord n) (sym (ap word_of e)) (negated_word n w (word_through n w h))
opposite_word n w o (refused h e) = absurd cc

-- ---- the three functions
pub out_and_back_follows : (a b c w : ℕ) (r : Answer ℕ) → GoesOutAndBack a b c Rule.Rounded w r → Follows Err r (width a ∷ width b ∷ stray a w ∷ width c ∷ [])
unfolding GoesOutAndBack Follows FollowsUpTo
out_and_back_follows a b c w r = after_the_first _ _ (width a ∷ width b ∷ stray a w ∷ []) _ r (rounded_follows a b w) (λ u m.
    let i = (moved_words a b Rule.Rounded w u m).1 in
    after_the_first _ _ (width c ∷ []) _ r (λ x. only_width b c u x i) (λ v m' back. past Err r 1 _ [] (no_width b u i) (only_width c b v r (moved_words b c Rule.Rounded u v m').1 back)))

pub move_negated_follows : (a b w : ℕ) (r : Answer Written) → GoesNegated a b w r → Follows Err r (width a ∷ stray a w ∷ width b ∷ [])
unfolding GoesNegated Negates MovesAndSays Follows FollowsUpTo
move_negated_follows a b w r = after_the_first _ _ (width a ∷ stray a w ∷ []) _ r (λ x. of_word a w (answer_none (negated a w) x)) (λ o n y.
    carry Err Err (plain r) r (width b ∷ []) (plain_refused r) (λ q. ap plain) (only_width a b o (plain r) (opposite_word a w o n) y.answers))

pub compare_moved_follows : (a b x y : ℕ) (r : Answer Ordering) → GoesCompared a b x y r → Follows Err r (width a ∷ width b ∷ stray a x ∷ stray a y ∷ [])
unfolding GoesCompared Follows FollowsUpTo
compare_moved_follows a b x y r = after_the_first _ _ (width a ∷ width b ∷ stray a x ∷ []) _ r (rounded_follows a b x) (λ u m.
    let i = moved_words a b Rule.Rounded x u m in
    after_the_first _ _ (stray a y ∷ []) _ r
    (λ z n. past Err z 1 _ (stray a y ∷ []) (no_width b u i.1) (past Err z 1 _ (width b ∷ stray a y ∷ []) (no_width a x i.0) (rounded_follows a b y z n)))
    (λ v m' c.
    let j = (moved_words a b Rule.Rounded y v m').1 in
    past Err r 2 _ [] (no_stray b v j) (past Err r 2 _ (stray b v ∷ []) (no_stray b u i.1) (past Err r 1 _ (stray b u ∷ stray b v ∷ []) (no_width b u i.1) (compare_follows b u v r c)))))
