-- How the listing goes on after a read, and how it ends.
use Rattle.std.specs.Prelude.{◌≡◌, ℕ, ◌/◌, ◌^◌, ◌<◌, ◌≤◌}
use Rattle.std.specs.declared.io.ErrorKind.{ErrorKind}
use Rattle.std.specs.declared.io.ErrorKind.TheVariants.{BrokenPipe}
use Rattle.std.specs.declared.ops.ControlFlow.{ControlFlow}
use Rattle.std.specs.declared.ops.ControlFlow.TheVariants.{Continue, Break}
use Rattle.lister.specs.declared.pieces.Ending.{Ending}
use Rattle.lister.specs.declared.pieces.Ending.TheVariants.{Complete, Failed, Unread, TooLong}
use Rattle.lister.specs.declared.pieces.SoFar.{SoFar}
use Rattle.lister.specs.Runs.{blocks}

-- a listing is complete only with the place behind the last block of all the bytes, and only 2^60 bytes are too many
unfoldable pub IsEnding : Ending → Type 0
IsEnding (Complete bytes n) = n ≡ blocks bytes
IsEnding (TooLong bytes) = 2 ^ 60 ≤ bytes
IsEnding Failed = Unit {0}
IsEnding Unread = Unit {0}

-- it goes on only where more bytes came, and with the place behind the last whole block of all that have come
unfoldable pub GoesOn : ℕ → ControlFlow Ending SoFar → Type 0
GoesOn total (Continue so_far) = (total < so_far.bytes) × (so_far.blocks ≡ so_far.bytes / 512)
GoesOn total (Break ending) = IsEnding ending

-- where a text can't be written, by the kind of the error: nobody reads it, or it failed otherwise
pub data CutBy (kind : ErrorKind) : Ending → Type 0 where
  unread : kind ≡ BrokenPipe → CutBy kind Unread
  failed : (kind ≡ BrokenPipe → ⊥) → CutBy kind Failed
