-- `regime_of` meets its contract: the three bits after the direction, as the direction takes them. Assumes nothing.
use mathlib.Core.Path.{ap₂, ◌∙◌}
use Rattle.word.specs.Takum as Takum
use Rattle.word.specs.Takum.{regime_of, R}
use Rattle.word.proofs.fields.regime_of.Goals as goal

pub returns : goal.returns
unfolding Takum.r R
returns c = c.regime.ensures ∙ ap₂ regime_of c.direction.ensures c.low_bits.ensures
