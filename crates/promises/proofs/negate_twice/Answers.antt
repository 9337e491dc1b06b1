-- `negate_twice` meets its contract, by the contract of `negate` and the laws of words. Assumes nothing.
use Rattle.std.specs.Prelude.{Ok, Err}
use mathlib.Core.Path.{◌≡◌, sym, ap, ◌∙◌, subst}
use Prim.Native.Nat.{ℕ}
use Rattle.word.specs.Orders.{negated}
use Rattle.order.specs.Orders.{Negates}
use Rattle.word.proofs.Values.{negated_word, negated_twice}
use Rattle.promises.specs.Demands.{ComesBack}
use Rattle.bounds.specs.declared.refusal.Refusal.{Refusal}
use Rattle.bounds.proofs.Verdicts.{word_through, word_passes, answered, handed_on}
use Rattle.bounds.specs.Refusals.{IsWord, word_test, through, refused, Answer}
use Rattle.promises.proofs.negate_twice.Goals as goal

back : (n w o : ℕ) (a : Answer ℕ) → Negates n w (Ok o) → Negates n o a → ComesBack n w a
unfolding Negates ComesBack
back n w o a (through v h) x = through v (answered (word_passes n o word) x ∙ ap Ok (ap (negated n) same ∙ negated_twice n w (word_through n w v)))
  where
    same : o ≡ negated n w
    same = cc

    word : IsWord n o
    word = subst (λ (y : ℕ). IsWord n y) (sym same) (negated_word n w (word_through n w v))
back n w o a (refused v h) x = absurd cc

refusal : (n w : ℕ) (q : Refusal) → Negates n w (Err q) → word_test n w ≡ Err q
unfolding Negates
refusal n w q (through v h) = absurd cc
refusal n w q (refused {q = p} v h) = let same : p ≡ q = cc in v ∙ ap Err same

pub returns-in_err-opposite : goal.returns-in_err-opposite
unfolding ComesBack
returns-in_err-opposite c = handed_on _ _ c.from_residual.ensures.1 (refusal _ _ _ c.in_err-opposite.ensures)

pub returns : goal.returns
returns c = back _ _ _ _ c.in_ok-opposite.ensures c.negate-2.ensures
