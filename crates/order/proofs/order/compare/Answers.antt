-- `compare` meets its contract: the first test that refuses is the answer, and words that both pass are followed by the order of their numbers. Assumes nothing.
use mathlib.Core.Path.{refl, sym, ap, ap₂, ◌∙◌}
use Prim.Native.Nat.{ℕ}
use mir.Facts.{to_z-of_z}
use mir.Syntax.{w64}
use borrow.Author.Rules.{rules, sfits_of}
use Rattle.std.specs.Prelude.{Ok}
use Rattle.std.specs.Ordering.{int_cmp}
use Rattle.bounds.specs.Refusals.{through}
use Rattle.bounds.proofs.Goods.{good_refused, word_good, word_refused}
use Rattle.bounds.proofs.Verdicts.{handed_on}
use Rattle.word.specs.Orders.{signed}
use Rattle.order.specs.Orders.{Compares}
use Rattle.order.proofs.order.compare.Goals as goal

pub returns-in_err-good : goal.returns-in_err-good
unfolding Compares
returns-in_err-good c = handed_on _ _ c.from_residual.ensures.1 (rw (good_refused _ _ c.in_err-good.ensures) refl)

pub returns-in_err-test_word : goal.returns-in_err-test_word
unfolding Compares
returns-in_err-test_word c = handed_on _ _ c.from_residual-in_err-test_word.ensures.1 (rw (word_refused _ _ _ _ c.in_ok-good.ensures c.in_err-test_word.ensures) refl)

pub returns-in_err-test_word-2 : goal.returns-in_err-test_word-2
unfolding Compares
returns-in_err-test_word-2 c = let t = word_good _ _ _ c.in_ok-good.ensures c.in_ok-test_word.ensures in
    handed_on _ _ c.from_residual-in_err-test_word-2.ensures.1 (rw (← t.2, t.1) (sym c.in_err-test_word-2.ensures))

-- both are words, whichever is asked for: words in the wrong order would be refused where the answer is given and not here
pub as_signed-requires : goal.as_signed-requires
as_signed-requires c = let x = (word_good _ _ _ c.in_ok-good.ensures c.in_ok-test_word.ensures).0 in
    let y = (word_good _ _ _ c.in_ok-good.ensures c.in_ok-test_word-2.ensures).0 in
    search rules

pub as_signed-requires-2 : goal.as_signed-requires-2
as_signed-requires-2 c = let x = (word_good _ _ _ c.in_ok-good.ensures c.in_ok-test_word.ensures).0 in
    let y = (word_good _ _ _ c.in_ok-good.ensures c.in_ok-test_word-2.ensures).0 in
    search rules

pub returns : goal.returns
unfolding Compares
returns c = let t = word_good _ _ _ c.in_ok-good.ensures c.in_ok-test_word.ensures in
    through (rw (← t.2, t.1) (sym c.in_ok-test_word-2.ensures)) (ap Ok (c.cmp.ensures ∙ ap₂ int_cmp (to_z-of_z {w = w64} (sfits_of c.as_signed.type_inv) ∙ c.as_signed.ensures ∙ ap (λ (n : ℕ). signed n c.args.x) t.2) (to_z-of_z {w = w64} (sfits_of c.as_signed-2.type_inv) ∙ c.as_signed-2.ensures ∙ ap (λ (n : ℕ). signed n c.args.y) t.2)))
