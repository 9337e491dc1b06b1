-- `by_rule` meets its contract, rule by rule. Assumes nothing.
use mathlib.Core.Path.{sym, ap}
use Rattle.std.specs.Prelude.{Ok}
use Rattle.round.specs.declared.value.Rule.{Rule}
use Rattle.round.specs.Offers.{settled}
use Rattle.round.proofs.writing.by_rule.Goals as goal

pub returns-in-Rounded : goal.returns-in-Rounded
unfolding settled
returns-in-Rounded c = sym (ap (λ (rule : Rule). settled rule (Ok c.args.found)) c.in-Rounded.is)
