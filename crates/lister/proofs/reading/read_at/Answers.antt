-- `read_at` meets its contract. Assumes nothing.
use Rattle.std.proofs.Common.{rules}
use Rattle.std.proofs.lemmas.Option.{IfSome_then}
use Rattle.lister.proofs.Told.{within}
use Rattle.lister.proofs.reading.read_at.Goals as goal

pub returns : goal.returns
returns c = IfSome_then c.told_by.result (within _ _ _ c.told_by.ensures) (λ count few. search rules)
