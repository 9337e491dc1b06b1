-- `call_write_block` meets its contract, by that of `takum_write_block`. Assumes nothing.
use Rattle.promises.proofs.FaceSheets.{written_hands}
use Rattle.calls.proofs.call_write_block.Goals as goal

pub returns : goal.returns
returns c = written_hands _ _ _ _ _ _ c.takum_write_block.ensures
