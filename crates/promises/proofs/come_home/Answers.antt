-- `come_home` meets its contract: each width is one move further, and a refusal ends the chain. Assumes nothing.
use Rattle.std.specs.Prelude.{Ok, Err}
use Rattle.bounds.specs.Refusals.{Answer}
use mathlib.Core.Path.{refl, sym, subst}
use mathlib.Core.List.{List}
use mathlib.Core.Logic.{inl, inr}
use Prim.Native.Nat.{ℕ, ◌+◌, ◌≤◌, ◌<◌}
use native.Mathlib.Numerals.{add-one}
use lib.ListN.{length, get_or, drop, drop_of_length-le}
use lib.Seq.{drop-cons}
use Rattle.bounds.specs.declared.refusal.Refusal.{Refusal}
use Rattle.round.specs.declared.value.Rule.{Rule}
use Rattle.write.specs.Writes.{Moves}
use Rattle.write.specs.Sayings.{MovesAndSays}
use Rattle.promises.specs.Writing.{Goes}
use Rattle.promises.proofs.Moving.{handed}
use Rattle.promises.proofs.Writing.{goes_home}
use Rattle.promises.proofs.come_home.Goals as goal

-- one width further: the move is made, or is refused and ends the chain
further : (home n w : ℕ) (ns : List ℕ) (i w' : ℕ) (r : Answer ℕ) → i < length ns → Moves n (get_or ns i 0) Rule.Strict w (Ok w') → Goes home (get_or ns i 0) w' (drop (i + 1) ns) r → Goes home n w (drop i ns) r
unfolding Goes
further home n w ns i w' r l m x =
    subst (λ (l : List ℕ). Goes home n w l r) (sym (drop-cons ns i 0 l)) (inl (w', m, subst (λ (j : ℕ). Goes home (get_or ns i 0) w' (drop j ns) r) (add-one i) x))

stopped : (home n w : ℕ) (ns : List ℕ) (i : ℕ) (q : Refusal) → i < length ns → Moves n (get_or ns i 0) Rule.Strict w (Err q) → Goes home n w (drop i ns) (Err q)
unfolding Goes
stopped home n w ns i q l m = subst (λ (l : List ℕ). Goes home n w l (Err q)) (sym (drop-cons ns i 0 l)) (inr (q, m, refl))

ended : (home n w : ℕ) (ns : List ℕ) (i : ℕ) (r : Answer ℕ) → length ns ≤ i → Moves n home Rule.Strict w r → Goes home n w (drop i ns) r
unfolding Goes
ended home n w ns i r l m = subst (λ (l : List ℕ). Goes home n w l r) (sym (drop_of_length-le ns l)) m

pub returns-in_err-carried : goal.returns-in_err-carried
unfolding MovesAndSays
returns-in_err-carried c =
    goes_home _ _ _ _ (c.loop-bits.invariant _ (subst (Goes _ _ _ _) (sym (handed _ _ c.from_residual.ensures.1)) (stopped _ _ _ _ _ _ c.loop-bits-test.true c.in_err-carried.ensures.answers)))

pub loop-bits-preserved : goal.loop-bits-preserved
unfolding MovesAndSays
loop-bits-preserved c =
    λ r x. c.loop-bits.invariant r (further _ _ _ _ _ _ r c.loop-bits-test.true c.in_ok-carried.ensures.answers x)

pub returns-in_err-move_word : goal.returns-in_err-move_word
unfolding MovesAndSays
returns-in_err-move_word c =
    goes_home _ _ _ _ (c.loop-bits.invariant _ (ended _ _ _ _ _ _ c.loop-bits-test.false (subst (Moves _ _ Rule.Strict _) (sym (handed _ _ c.from_residual-in_err-move_word.ensures.1)) c.in_err-move_word.ensures.answers)))

pub returns : goal.returns
unfolding MovesAndSays
returns c = goes_home _ _ _ _ (c.loop-bits.invariant _ (ended _ _ _ _ _ _ c.loop-bits-test.false c.in_ok-move_word.ensures.answers))
