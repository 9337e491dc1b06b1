-- `put_shown` meets its contract. Assumes nothing.
use Rattle.bounds.specs.Refusals.{Answer}
use Rattle.std.proofs.Common.{ℤ, sym, subst, arith}
use mir.Facts.{to_z-of_z}
use mir.Syntax.{w64}
use mir.Val.{SFits}
use borrow.Author.Rules.{rules}
use Rattle.listing.specs.Text.{IsSigned, IsShown}
use Rattle.listing.proofs.lines.put_shown.Goals as goal

pub returns-in-Ok : goal.returns-in-Ok
unfolding IsShown
returns-in-Ok c =
    let d = c.put_signed.ensures in
    let fits : SFits w64 c.in-Ok.x = search rules in
    let x = subst (λ (z : ℤ). IsSigned z d.text) (to_z-of_z fits) d.is in
    record { text = d.text; is = subst (λ (a : Answer ℤ). IsShown a d.text) (sym c.in-Ok.is) x; short = d.short; adds = d.adds }

pub returns-in-Err : goal.returns-in-Err
unfolding IsShown
returns-in-Err c =
    let p = c.put_refusal.ensures in
    record { text = p.text; is = subst (λ (a : Answer ℤ). IsShown a p.text) (sym c.in-Err.is) p.is; short = omega (arith, p.short); adds = p.adds }
