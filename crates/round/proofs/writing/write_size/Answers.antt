-- `write_size` meets its contract: the exponent of the significand's last place. Assumes nothing.
use borrow.Author.Rules.{rules}
use Rattle.round.specs.Sayings.{WritesSizeAndSays}
use Rattle.round.proofs.writing.write_size.Goals as goal

pub returns : goal.returns
unfolding WritesSizeAndSays
returns c = search rules
