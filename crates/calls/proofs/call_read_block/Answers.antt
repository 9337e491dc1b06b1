-- `call_read_block` meets its contract, by that of `takum_read_block`. Assumes nothing.
use Rattle.promises.proofs.FaceSlices.{block_hands}
use Rattle.calls.proofs.call_read_block.Goals as goal

pub returns : goal.returns
returns c = block_hands _ _ _ _ c.takum_read_block.ensures.hands_over c.takum_read_block.ensures.fills_results
