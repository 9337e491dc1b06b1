-- How the listing ends. Assumes nothing.
use Rattle.std.specs.declared.io.ErrorKind.{ErrorKind}
use Rattle.lister.specs.declared.pieces.Ending.{Ending}
use Rattle.lister.specs.Endings.{IsEnding, CutBy, unread, failed}

-- a listing that is cut is not said to be complete
pub cut_ends : {kind : ErrorKind} {ending : Ending} → CutBy kind ending → IsEnding ending
unfolding IsEnding
cut_ends (unread e) = tt
cut_ends (failed f) = tt
