-- `whole_until` meets its contract. Assumes nothing.
use Rattle.std.proofs.Common.{eq-eqb, ne_eqb}
use Rattle.lister.specs.Arrived.{until}
use Rattle.lister.proofs.pieces.whole_until.Goals as goal

pub returns-then-got-eq0 : goal.returns-then-got-eq0
unfolding until
returns-then-got-eq0 c = rw (eq-eqb c.args.got 0 c.if-got-eq0.true)

pub returns : goal.returns
unfolding until
returns c = rw (ne_eqb c.args.got 0 c.if-got-eq0.false)
