-- `write` meets its contract: it is what the hub writes for one number. Assumes nothing.
use borrow.Author.Rules.{rules}
use Rattle.round.specs.Writes.{WritesShort}
use Rattle.round.specs.Sayings.{WritesShortAndSays}
use Rattle.write.specs.Writes.{Writes}
use Rattle.write.specs.Sayings.{WritesAndSays}
use Rattle.write.proofs.writing.write.Goals as goal

pub returns : goal.returns
unfolding WritesAndSays Writes WritesShortAndSays WritesShort
returns c = let v = c.args.value in
    let x : WritesShortAndSays c.args.width.bits c.args.rule v.negative v.m v.k c.write_short.result = search rules in
    x
