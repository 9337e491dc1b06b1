-- `negate` meets its contract: zero stays, any other word is 2^n less the word. Assumes nothing.
use mathlib.Core.Path.{◌≡◌, refl, sym, ap, ◌∙◌}
use Prim.Native.Nat.{ℕ, ◌+◌, ◌-◌, ◌^◌}
use native.Mathlib.Omega.{arith}
use native.Mathlib.Nat.{pos_of_ne-zero}
use Rattle.std.specs.Prelude.{Ok}
use Rattle.bounds.specs.Refusals.{IsWord, through}
use Rattle.bounds.proofs.Goods.{good_refused, word_good, word_refused}
use Rattle.bounds.proofs.Verdicts.{handed_on}
use Rattle.word.specs.Orders.{negated}
use Rattle.word.proofs.Signed.{negated_zero, negated_other}
use Rattle.order.specs.Orders.{Negates}
use Rattle.order.proofs.order.negate.Goals as goal

less : (n w all : ℕ) → all ≡ 2 ^ n - 1 → (w ≡ 0 → ⊥) → IsWord n w → all - w + 1 ≡ negated n w
less n w all e f i = omega (arith, e, i.fits, pos_of_ne-zero f) ∙ sym (negated_other n w (pos_of_ne-zero f) i.fits)

pub returns-in_err-good : goal.returns-in_err-good
unfolding Negates
returns-in_err-good c = handed_on _ _ c.from_residual.ensures.1 (rw (good_refused _ _ c.in_err-good.ensures) refl)

pub returns-in_err-test_word : goal.returns-in_err-test_word
unfolding Negates
returns-in_err-test_word c = handed_on _ _ c.from_residual-in_err-test_word.ensures.1 (word_refused _ _ _ _ c.in_ok-good.ensures c.in_err-test_word.ensures)

pub returns-then-word-eq0 : goal.returns-then-word-eq0
unfolding Negates
returns-then-word-eq0 c = let t = word_good _ _ _ c.in_ok-good.ensures c.in_ok-test_word.ensures in
    rw (← t.2) (through t.1 (ap Ok (sym (ap (negated _) c.if-word-eq0.true ∙ negated_zero _))))

pub overflow_sub-result : goal.overflow_sub-result
overflow_sub-result c = omega (arith, c.ones.ensures, (word_good _ _ _ c.in_ok-good.ensures c.in_ok-test_word.ensures).0.fits)

pub returns : goal.returns
unfolding Negates
returns c = let t = word_good _ _ _ c.in_ok-good.ensures c.in_ok-test_word.ensures in
    rw (← t.2) (through t.1 (ap Ok (less _ _ _ c.ones.ensures c.if-word-eq0.false t.0)))
