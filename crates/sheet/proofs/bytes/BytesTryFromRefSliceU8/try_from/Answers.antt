-- `Bytes::try_from` meets its contract. Assumes nothing.
use Rattle.std.proofs.Common.{refl, length, eq-eqb, ne_eqb}
use Rattle.bounds.specs.Refusals.{through, refused}
use Rattle.sheet.specs.Whole.{IsBytes}
use Rattle.sheet.specs.Reads.{size_test}
use Rattle.sheet.proofs.bytes.BytesTryFromRefSliceU8.try_from.Goals as goal

pub returns-then-block-ne512 : goal.returns-then-block-ne512
unfolding IsBytes size_test
returns-then-block-ne512 c = refused (rw (ne_eqb (length c.args.block.now) 512 c.if-block-ne512.true)) refl

pub returns : goal.returns
unfolding IsBytes size_test
returns c = through (rw (eq-eqb (length c.args.block.now) 512 c.if-block-ne512.false)) (_, refl, refl)
