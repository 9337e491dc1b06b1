-- `put_header` meets its contract. Assumes nothing.
use Rattle.sheet.proofs.Puts.{headed}
use Rattle.sheet.proofs.parts.put_header.Goals as goal

pub returns : goal.returns
returns c = headed c.requires.0 c.put.ensures c.put-2.ensures c.put-3.ensures c.put-4.ensures
