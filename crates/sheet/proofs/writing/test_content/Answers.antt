-- `test_content` meets its contract: the tests are made in the paper's order. Assumes nothing.
use Rattle.std.proofs.Common.{sym, arith}
use Rattle.sheet.proofs.Contents.{is_wide, isn't_wide, other_width, old_width, too_many, other_buffer, content_passes}
use Rattle.sheet.proofs.Rooms.{some_bytes}
use Rattle.sheet.proofs.Tests.{is_width}
use Rattle.sheet.proofs.writing.test_content.Goals as goal

pub returns-then-not-is_block_width : goal.returns-then-not-is_block_width
returns-then-not-is_block_width c =
    sym (other_width _ _ _ (isn't_wide _ c.is_block_width.result c.is_block_width.ensures c.if-not-is_block_width.true))

pub returns-then-n-eq-RETIRED : goal.returns-then-n-eq-RETIRED
returns-then-n-eq-RETIRED c =
    sym (old_width _ _ _ (is_wide _ c.is_block_width.result c.is_block_width.ensures c.if-not-is_block_width.false) (omega arith))

pub nonzero_div-n-2 : goal.nonzero_div-n-2
nonzero_div-n-2 c = some_bytes _ (is_width _ (is_wide _ c.is_block_width.result c.is_block_width.ensures c.if-not-is_block_width.false))

pub returns-then-count-n : goal.returns-then-count-n
returns-then-count-n c =
    let wide = is_wide _ c.is_block_width.result c.is_block_width.ensures c.if-not-is_block_width.false in
    sym (too_many _ _ _ wide (λ e. omega (arith, e)) (omega arith))

pub returns-then-buffer-ne512 : goal.returns-then-buffer-ne512
returns-then-buffer-ne512 c =
    let wide = is_wide _ c.is_block_width.result c.is_block_width.ensures c.if-not-is_block_width.false in
    sym (other_buffer _ _ _ wide (λ e. omega (arith, e)) (omega arith) (λ e. omega (arith, e)))

pub returns : goal.returns
returns c =
    let wide = is_wide _ c.is_block_width.result c.is_block_width.ensures c.if-not-is_block_width.false in
    sym (content_passes _ _ _ wide (λ e. omega (arith, e)) (omega arith) (omega arith))
