-- `sum_of` meets its contract. Assumes nothing.
use Rattle.std.proofs.Common.{◌≡◌, sym, ◌∙◌, rules}
use Rattle.std.specs.List.{sum}
use Rattle.std.proofs.iter.runs.Made.{chains}
use Rattle.sheet.proofs.Unused.{total_is}
use Rattle.sheet.proofs.testing.sum_of.Goals as goal

mirrored : (c : goal.After-sum) → c.sum.result ≡ sum c.args.bytes.now
mirrored c = search (rules, chains)

pub returns : goal.returns
returns c = mirrored c ∙ sym (total_is c.args.bytes.now)
