-- `put_block` meets its contract: what its four parts leave is the block that has the content. Assumes nothing.
use Rattle.std.proofs.Common.{arith}
use Rattle.sheet.specs.Layout.{AreBytes}
use Rattle.sheet.proofs.Contents.{fitting, small_count, fit_bytes}
use Rattle.sheet.proofs.Making.{is_block_of}
use Rattle.sheet.proofs.Sizes.{sized, more_than_one, width_of_words}
use Rattle.sheet.proofs.writing.put_block.Goals as goal

pub overflow_cast-words : goal.overflow_cast-words
overflow_cast-words c =
    let f = fitting _ _ _ c.requires.passes in
    omega (arith, small_count _ _ _ f)

pub put_header-requires : goal.put_header-requires
put_header-requires c =
    let f = fitting _ _ _ c.requires.passes in
    (omega (arith, f.size), omega (arith, width_of_words _ f.wide), omega (arith, small_count _ _ _ f))

pub pack-requires : goal.pack-requires
pack-requires c =
    let f = fitting _ _ _ c.requires.passes in
    (sized _ f.wide, more_than_one _ f.wide f.made, omega (arith, f.inside, f.size), fit_bytes _ _ f.wide c.requires.fit_up_to)

pub overflow_mul-size : goal.overflow_mul-size
overflow_mul-size c =
    let f = fitting _ _ _ c.requires.passes in
    record { fits = omega (arith, f.inside) }

pub overflow_add-size : goal.overflow_add-size
overflow_add-size c =
    let f = fitting _ _ _ c.requires.passes in
    record { fits = omega (arith, f.inside) }

pub clear-requires : goal.clear-requires
clear-requires c =
    let f = fitting _ _ _ c.requires.passes in
    (f.inside, omega (arith, f.size))

pub seal-requires : goal.seal-requires
seal-requires c =
    let f = fitting _ _ _ c.requires.passes in
    omega (arith, f.size)

pub returns : goal.returns
unfolding AreBytes
returns c =
    let f = fitting _ _ _ c.requires.passes in
    is_block_of _ _ _ _ _ _ _ _ c.put_header.ensures c.pack.ensures c.clear.ensures c.seal.ensures f.size f.inside (λ j. omega (arith, c.type_inv.buffer j))
