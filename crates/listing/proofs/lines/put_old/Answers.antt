-- `put_old` meets its contract: ` old` where the width is retired, nothing where it isn't. Assumes nothing.
use Rattle.std.proofs.Common.{sym, zero-le, lit≤, arith}
use Rattle.listing.specs.Text.{space, old}
use Rattle.listing.proofs.Old.{is_old, isn't_old}
use Rattle.listing.proofs.Placed.{nothing_added}
use Rattle.listing.proofs.lines.put_old.Goals as goal

pub returns-then-width-eq-RETIRED : goal.returns-then-width-eq-RETIRED
unfolding old space
returns-then-width-eq-RETIRED c = record { text = _; is = sym (is_old _ c.if-width-eq-RETIRED.true); short = lit≤ tt; adds = c.put_text.ensures }

pub returns-else-width-eq-RETIRED : goal.returns-else-width-eq-RETIRED
returns-else-width-eq-RETIRED c = record { text = _; is = sym (isn't_old _ c.if-width-eq-RETIRED.false); short = zero-le; adds = nothing_added _ (omega arith) }
