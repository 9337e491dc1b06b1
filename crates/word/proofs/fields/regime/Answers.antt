-- `regime` meets its contract, by the direction bit. Assumes nothing.
use mathlib.Core.Path.{sym}
use borrow.Author.Tests.{eq-eqb, ne_eqb}
use Rattle.word.specs.Takum.{regime_of}
use Rattle.word.proofs.fields.regime.Goals as goal

pub returns-then-direction-eq1 : goal.returns-then-direction-eq1
unfolding regime_of
returns-then-direction-eq1 c = sym (rw (eq-eqb _ 1 c.if-direction-eq1.true))

pub returns : goal.returns
unfolding regime_of
returns c = sym (rw (ne_eqb _ 1 c.if-direction-eq1.false))
