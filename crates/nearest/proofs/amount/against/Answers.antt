-- `against` meets its contract: only where the two are equal does the rest decide. Assumes nothing.
use mathlib.Core.Path.{◌≡◌, sym, ap, ◌∙◌, subst}
use Rattle.std.proofs.Common.{rules}
use Rattle.std.proofs.lemmas.Cmp.{ranked}
use Rattle.std.specs.Ordering.{ordering_then}
use Rattle.nearest.specs.Parts.{TellsHalf}
use Rattle.nearest.proofs.Halves.{some_side, half_then}
use Rattle.nearest.proofs.amount.against.Goals as goal

pub returns : goal.returns
returns c =
    let rest_is : c.cmp-2.result ≡ some_side c.args.rest = search rules in
    subst (TellsHalf _ _ _) (sym (c.then.ensures ∙ ap (ordering_then c.cmp.result) rest_is)) (half_then c.args.beyond c.args.half c.args.rest c.cmp.result (ranked _ _ _ c.cmp.ensures))
