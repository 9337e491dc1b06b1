-- `to_53_digits` meets its contract: what it adds carries into the digits kept exactly where the digits cut ask for it. Assumes nothing.
use Rattle.binary64.proofs.Closest.{cut_rounded}
use Rattle.binary64.proofs.taking.to_53_digits.Goals as goal

pub returns : goal.returns
returns c = cut_rounded c.args.m c.requires
