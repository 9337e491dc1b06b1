-- `number` meets its contract: the bytes are taken from the highest down. Assumes nothing.
use Rattle.std.proofs.Common.{◌≡◌, ◌+◌, ◌-◌, take, drop, rules, arith}
use mathlib.Core.List.{reverse}
use Rattle.std.specs.List.{fold}
use Rattle.std.proofs.iter.runs.Made.{chains}
use Rattle.sheet.proofs.LittleEndian.{below_next, number_from_the_top}
use Rattle.sheet.proofs.numbers.number.Given as given
use Rattle.sheet.proofs.numbers.number.Goals as goal

mirrored : (g : given.Over) (c : goal.After-fold g) → c.fold.result ≡ fold below_next 0 (reverse (take (c.args.at + g.row.N - c.args.at) (drop c.args.at c.args.bytes.now)))
mirrored g c = search (rules, chains)

pub returns : goal.returns
returns g c = number_from_the_top _ _ _ c.requires.0 c.requires.1 (λ j. omega (arith, c.type_inv.bytes j)) (mirrored g c)
