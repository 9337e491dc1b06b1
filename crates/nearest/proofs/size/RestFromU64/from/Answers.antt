-- What lies below a unit has its rest: none, or by its order beside a half. Assumes nothing.
use native.Mathlib.Nat.{pos_of_ne-zero}
use Rattle.std.proofs.lemmas.Cmp.{ranked}
use Rattle.nearest.specs.Offers.{IsRest}
use Rattle.nearest.proofs.size.RestFromU64.from.Goals as goal

pub returns-then-below-eq0 : goal.returns-then-below-eq0
unfolding IsRest
returns-then-below-eq0 c = c.if-below-eq0.true

pub returns-in-Less : goal.returns-in-Less
unfolding IsRest
returns-in-Less c = (pos_of_ne-zero c.if-below-eq0.false, ranked _ _ _ c.in-Less.ensures)

pub returns-in-Equal : goal.returns-in-Equal
unfolding IsRest
returns-in-Equal c = ranked _ _ _ c.in-Equal.ensures

pub returns-in-Greater : goal.returns-in-Greater
unfolding IsRest
returns-in-Greater c = ranked _ _ _ c.in-Greater.ensures
