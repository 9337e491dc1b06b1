-- `read_size` meets its contract: the refusals, zero and NaR, and the size of any other word's string. Assumes nothing.
use mathlib.Core.Path.{refl, sym, ap, ◌∙◌, subst}
use Prim.Native.Nat.{ℕ}
use Rattle.bounds.specs.Refusals.{through}
use Rattle.bounds.proofs.Verdicts.{handed_on}
use Rattle.bounds.proofs.Goods.{good_refused, word_good, word_refused}
use Rattle.word.specs.Takum.{takum}
use Rattle.sizes.specs.Sizes.{Sizes, IsWordSize, ReadsSize}
use Rattle.word.proofs.Words.{takum_zero, takum_NaR}
use Rattle.word.proofs.Top.{shifted_is, NaR_at_top, at_top_NaR}
use Rattle.sizes.proofs.Tops.{word_number}
use Rattle.sizes.proofs.size.read_size.Goals as goal

pub returns-in_err-good : goal.returns-in_err-good
unfolding ReadsSize
returns-in_err-good c = handed_on _ _ c.from_residual.ensures.1 (rw (good_refused _ _ c.in_err-good.ensures) refl)

pub returns-in_err-test_word : goal.returns-in_err-test_word
unfolding ReadsSize
returns-in_err-test_word c = handed_on _ _ c.from_residual-in_err-test_word.ensures.1 (word_refused _ _ _ _ c.in_ok-good.ensures c.in_err-test_word.ensures)

pub returns-then-word-eq0 : goal.returns-then-word-eq0
unfolding ReadsSize IsWordSize
returns-then-word-eq0 c = let t = word_good _ _ _ c.in_ok-good.ensures c.in_ok-test_word.ensures in
    rw (← t.2) (through t.1 (_, refl, ap (takum _) c.if-word-eq0.true ∙ takum_zero _))

pub returns-then-string : goal.returns-then-string
unfolding ReadsSize IsWordSize
returns-then-string c = let t = word_good _ _ _ c.in_ok-good.ensures c.in_ok-test_word.ensures in
    let i = t.0 in
    rw (← t.2) (through t.1 (_, refl, takum_NaR _ _ i.least i.most (NaR_at_top _ _ i (sym c.string-string.ensures ∙ c.if-string.true))))

pub returns : goal.returns
unfolding ReadsSize IsWordSize
returns c = let t = word_good _ _ _ c.in_ok-good.ensures c.in_ok-test_word.ensures in
    let i = t.0 in
    rw (← t.2) (through t.1 (_, refl, word_number _ _ i c.if-word-eq0.false (λ q. c.if-string.false (c.string-string.ensures ∙ at_top_NaR _ _ i q)) _ (subst (λ (t : ℕ). Sizes t c.size_of.result) (c.string-string.ensures ∙ shifted_is _ _ i) c.size_of.ensures)))
