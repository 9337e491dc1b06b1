-- `put_refusal` meets its contract: refusal 5 is `over`, another `nar`. Assumes nothing.
use Rattle.std.proofs.Common.{◌≡◌, sym, ap, ◌∙◌, lit≤, true≢false, rules}
use denote.Enum.Bare.{same_true, sameb}
use Rattle.bounds.specs.contracts.refusal.Refusal.{the_type}
use Rattle.bounds.specs.declared.refusal.Refusal.{Refusal}
use Rattle.listing.specs.Text.{nar, over}
use Rattle.listing.proofs.Refusals.{is_over, isn't_over}
use Rattle.listing.proofs.lines.put_refusal.Goals as goal

pub returns-then-eq : goal.returns-then-eq
unfolding over
returns-then-eq c =
    let same : c.args.q ≡ Refusal.Over = same_true the_type (search rules) c.args.q Refusal.Over (sym c.if-eq.ensures) in
    record { text = _; is = sym (is_over c.args.q same); short = lit≤ tt; adds = c.put_text.ensures }

pub returns : goal.returns
unfolding nar
returns c =
    let other : c.args.q ≡ Refusal.Over → ⊥ = λ e. true≢false (sym (c.if-eq.ensures ∙ ap (λ (q : Refusal). sameb the_type q Refusal.Over) e)) in
    record { text = _; is = sym (isn't_over c.args.q other); short = lit≤ tt; adds = c.put_text-2.ensures }
