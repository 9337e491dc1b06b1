-- `strictly` meets its contract: a word that is exact, and one that isn't. Assumes nothing.
use mathlib.Core.Bool.{Bool, cond}
use mathlib.Core.Path.{◌≡◌, sym, ap, ◌∙◌}
use Rattle.std.specs.Prelude.{Ok, Err}
use Rattle.bounds.specs.declared.answer.Written.{Written}
use Rattle.bounds.specs.declared.refusal.Refusal.{Refusal}
use Rattle.bounds.specs.Sayings.{says_exact}
use Rattle.round.specs.declared.value.Rule.{Rule}
use Rattle.round.specs.Offers.{settled}
use Rattle.round.proofs.writing.strictly.Goals as goal

-- what the strict rule makes of a word
made : (found : Written) (e : Bool) → says_exact found.saying ≡ e → cond e (Ok found) (Err Refusal.Inexact) ≡ settled Rule.Strict (Ok found)
unfolding settled
made found e q = sym (ap (λ (b : Bool). cond b (Ok found) (Err Refusal.Inexact)) q)

pub returns-then-is_exact : goal.returns-then-is_exact
returns-then-is_exact c = made _ _ (sym c.is_exact.ensures ∙ c.if-is_exact.true)

pub returns : goal.returns
returns c = made _ _ (sym c.is_exact.ensures ∙ c.if-is_exact.false)
