-- `nearest` meets its contract: the width, and the nearest word of the size with its top bit set. Assumes nothing.
use mathlib.Core.Path.{◌≡◌, refl, sym, subst, subst₂}
use Prim.Native.Nat.{ℕ, ◌+◌, ◌%◌, ◌^◌}
use lib.IntN.{ℤ}
use mir.Facts.{to_z-of_z}
use Rattle.bounds.specs.declared.saying.Saying.{Saying}
use Rattle.bounds.specs.Refusals.{passed, width_test, through}
use Rattle.bounds.specs.Sayings.{written}
use Rattle.bounds.proofs.Verdicts.{handed_on}
use Rattle.bounds.proofs.Answers.{word_said, decided_said}
use Rattle.bounds.proofs.Goods.{good_through, good_refused}
use Rattle.bounds.specs.declared.answer.Written.{Written}
use Rattle.nearest.specs.declared.size.Rest.{Rest}
use Rattle.nearest.specs.Offers.{FindsNearest}
use Rattle.nearest.specs.Parts.{IsNear, with_sign, signed_saying}
use Rattle.nearest.specs.Sayings.{SaysOffered, SaysFound, FindsAndSays}
use Rattle.nearest.proofs.OneOutcome.{rest_one}
use Rattle.nearest.proofs.Sayings.{is_positive}
use Rattle.nearest.proofs.Signs.{class_signed, class_said}
use Rattle.nearest.proofs.size.nearest.Goals as goal

pub returns-in_err-good : goal.returns-in_err-good
unfolding FindsAndSays FindsNearest
returns-in_err-good c = decided_said _ _ (handed_on _ _ c.from_residual.ensures.1 (good_refused _ _ c.in_err-good.ensures))

pub with_sign-requires : goal.with_sign-requires
with_sign-requires c = is_positive _ c.in_ok-good.good.least c.in_ok-good.good.most _ _ _ _ c.nearest_word-near.ensures.is

-- the word that is found, at the exponent that was given
near : (n : ℕ) (z h : ℤ) (m : ℕ) (rest : Rest) (x : Written) → z ≡ h → IsNear n z m rest x → IsNear n h m rest x
near n z h m rest x same is = subst (λ (z : ℤ). IsNear n z m rest x) same is

pub returns : goal.returns
unfolding FindsAndSays FindsNearest SaysFound
returns c =
    let width = c.in_ok-good.good in
    let n = width.bits in
    let good = good_through c.args.width.bits width c.in_ok-good.ensures in
    let full = 2 ^ 63 + c.args.m % 2 ^ 63 in
    let found = c.nearest_word-near.result in
    let x = near n _ c.args.h full c.from.result found (to_z-of_z c.ranges.h) c.nearest_word-near.ensures in
    subst₂ (λ (v : ℕ) (q : Saying). FindsAndSays c.args.width.bits c.args.negative c.args.h c.args.m c.args.below (written v q)) (sym c.with_sign.ensures) (sym c.said.ensures)
    (subst (λ (k : ℕ). FindsAndSays k c.args.negative c.args.h c.args.m c.args.below (written (with_sign n c.args.negative found.word) (signed_saying c.args.negative found.saying))) good.1
    (word_said _ _ (through (subst (λ (k : ℕ). width_test k ≡ passed) (sym good.1) good.0) (with_sign n c.args.negative found.word, refl, c.from.result, c.from.ensures, class_signed _ width.least width.most _ _ _ _ x.is c.args.negative))
    (λ rest is. subst (λ (rest : Rest). SaysOffered n c.args.negative c.args.h full rest (with_sign n c.args.negative found.word) (signed_saying c.args.negative found.saying)) (rest_one c.args.below c.from.result rest c.from.ensures is) (class_said _ width.least width.most _ _ _ _ x.is c.args.negative _ x.lies))))
