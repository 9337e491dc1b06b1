-- `below_half` meets its contract: each rule in its own case. Assumes nothing.
use mathlib.Core.Path.{sym, ap}
use mathlib.Core.Bool.{false}
use lib.IntN.{pos}
use Rattle.whole.specs.declared.taking.Taking.{Taking}
use Rattle.whole.specs.Parts.{by_rule}
use Rattle.whole.proofs.taking.below_half.Goals as goal

pub returns-in-Nearest : goal.returns-in-Nearest
unfolding by_rule
returns-in-Nearest c = sym (ap (λ (r : Taking). by_rule r false (pos 0)) c.in-Nearest.is)

pub returns-in-Strict : goal.returns-in-Strict
unfolding by_rule
returns-in-Strict c = sym (ap (λ (r : Taking). by_rule r false (pos 0)) c.in-Strict.is)
