-- `seal` meets its contract: the sums are of bytes that the puts of A and B leave as they are. Assumes nothing.
use Rattle.sheet.proofs.Puts.{sealed}
use Rattle.sheet.proofs.parts.seal.Goals as goal

pub returns : goal.returns
returns c = sealed c.sums_of-sums.ensures.0 c.sums_of-sums.ensures.1 c.put.ensures c.put-2.ensures
