-- `is_block_width` meets its contract. Assumes nothing.
use Rattle.std.proofs.Common.{sym, arith}
use Rattle.sheet.proofs.Tests.{width_is, width_isn't}
use Rattle.sheet.proofs.testing.is_block_width.Goals as goal

pub returns-in-8 : goal.returns-in-8
returns-in-8 c = sym (width_is _ c.in-8.is)

pub returns-in_default : goal.returns-in_default
returns-in_default c = sym (width_isn't _ (λ e. grind arith))
