-- `direction` meets its contract: the second bit from the top. Assumes nothing.
use Rattle.word.specs.Takum.{D}
use Rattle.word.proofs.fields.direction.Goals as goal

pub returns : goal.returns
unfolding D
returns c = c.low_bits.ensures
