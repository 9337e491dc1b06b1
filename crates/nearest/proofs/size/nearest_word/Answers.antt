-- `nearest_word` meets its contract: past the ends the end words, inside the cut decides. Assumes nothing.
use Rattle.std.proofs.Common.{rules}
use mathlib.Core.Path.{sym, ◌∙◌, subst, subst₂}
use Prim.Native.Nat.{ℕ, ◌^◌, ◌<◌}
use lib.IntN.{ℤ}
use lib.Signed.{mag}
use mir.Syntax.{w64}
use mir.Facts.{to_z-of_z}
use Rattle.bounds.specs.Widths.{largest}
use Rattle.word.proofs.Casts.{not_negative, is_negative, tested}
use Rattle.nearest.specs.Offers.{IsNearest}
use Rattle.nearest.specs.Parts.{IsNear}
use Rattle.nearest.proofs.Hub.{past_last, before_first}
use Rattle.nearest.proofs.Sayings.{outside_said}
use Rattle.nearest.proofs.size.nearest_word.Goals as goal

pub returns-in-Some : goal.returns-in-Some
returns-in-Some c = subst (λ (z : ℤ). IsNear c.args.width.bits z c.args.amount.m c.args.amount.rest c.nearest_inside.result) (c.in-Some.ensures ∙ to_z-of_z c.ranges.h) c.nearest_inside.ensures

pub returns-then-h-lt0 : goal.returns-then-h-lt0
returns-then-h-lt0 c =
    let width = c.args.width in
    let amount = c.args.amount in
    let top : amount.m < 2 ^ 64 = search rules in
    let far : 254 < mag c.args.h = subst (λ (z : ℤ). 254 < mag z) (to_z-of_z c.ranges.h) c.in_default.ensures in
    let h = is_negative c.args.h (tested w64 tt c.ranges.h c.if-h-lt0.true) in
    subst (IsNear _ _ _ _) (sym c.end_word.ensures)
    (record {
      is = subst (λ (z : ℤ). IsNearest width.bits z amount.m amount.rest 1) (sym h) (before_first width.bits width.least width.most (mag c.args.h) amount.m amount.rest far amount.normal top);
      lies = outside_said width.bits width.least width.most c.args.h amount.m amount.rest 1 far amount.normal top;
    })

pub returns : goal.returns
unfolding largest
returns c =
    let width = c.args.width in
    let amount = c.args.amount in
    let top : amount.m < 2 ^ 64 = search rules in
    let far : 254 < mag c.args.h = subst (λ (z : ℤ). 254 < mag z) (to_z-of_z c.ranges.h) c.in_default.ensures in
    let h = not_negative c.args.h (tested w64 tt c.ranges.h c.if-h-lt0.false) in
    subst (IsNear _ _ _ _) (sym c.end_word-2.ensures)
    (record {
      is = subst₂ (λ (z : ℤ) (w : ℕ). IsNearest width.bits z amount.m amount.rest w) (sym h) (sym c.largest.ensures) (past_last width.bits width.least width.most (mag c.args.h) amount.m amount.rest far amount.normal);
      lies = outside_said width.bits width.least width.most c.args.h amount.m amount.rest _ far amount.normal top;
    })
