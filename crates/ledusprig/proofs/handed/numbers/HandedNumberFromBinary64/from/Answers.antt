-- The NaN of `HandedNumber::from` is what it gives: 0 divided by 0 is the NaN. The other cases are found by themselves. Assumes nothing.
use mathlib.Core.Path.{refl}
use lib.Ieee.{of_bits, div}
use Rattle.ledusprig.proofs.handed.numbers.HandedNumberFromBinary64.from.Goals as goal

pub returns-in-Nar : goal.returns-in-Nar
unfolding div of_bits
returns-in-Nar c = rw c.in-Nar.is refl
