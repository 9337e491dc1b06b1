-- `unpack_by` meets its contract. Assumes nothing.
use Rattle.std.proofs.Common.{ℕ, List, ◌++◌, drop, ap, arith}
use Rattle.sheet.proofs.Packing.{unpacked_more, unpacked_all}
use Rattle.sheet.proofs.words.unpack_by.Goals as goal

pub loop-i-preserved : goal.loop-i-preserved
loop-i-preserved g c =
    let long = c.loop-i.invariant.0 in
    (long, unpacked_more g.row.N c.args.count c.args.block.now _ _ _ _ (omega (arith, c.loop-i-test.true, long)) (omega (arith, long)) c.number.ensures.0 c.loop-i.invariant.1)

pub returns : goal.returns
returns g c =
    let long = c.loop-i.invariant.0 in
    ap (λ (l : List ℕ). l ++ drop c.args.count c.args.results.now) (unpacked_all g.row.N c.args.count c.args.block.now _ _ _ (omega (arith, c.loop-i-test.false, long)) c.loop-i-test.false c.loop-i.invariant.1)
