-- What writing a binary64 number says (paper 02, Wish 4): what is written is as in Writes.antt, and which way it went as in
-- crates/nearest/specs/Sayings.antt.
use Rattle.std.specs.Prelude.{◌≡◌, ℕ, ◌*◌, ◌^◌, Float}
use Rattle.std.specs.Float.{nan, inf, fin}
use Rattle.std.specs.Float.Ieee.{up, down}
use Rattle.bounds.specs.declared.answer.Written.{Written}
use Rattle.bounds.specs.declared.saying.Saying.{Saying}
use Rattle.bounds.specs.declared.saying.Saying.TheVariants.{Exact}
use Rattle.bounds.specs.Refusals.{Answer}
use Rattle.bounds.specs.Sayings.{AndSays}
use Rattle.nearest.specs.Sayings.{Says}
use Rattle.round.specs.declared.value.Rule.{Rule}
use Rattle.binary64.specs.Writes.{WritesBinary64}

-- what is said of the word w of n bits beside a number; NaN and both infinities become NaR, which is exact
unfoldable pub SaysBinary64 : ℕ → Float → ℕ → Saying → Type 0
SaysBinary64 n nan w s = s ≡ Exact
SaysBinary64 n (inf t) w s = s ≡ Exact
SaysBinary64 n (fin t m e) w s = Says n t (m * up e * 2 ^ 307) (down e) w s

-- ---- what the call answers, and says
unfoldable pub WritesBinary64AndSays : ℕ → Rule → Float → Answer Written → Type 0
WritesBinary64AndSays n rule x r = AndSays (WritesBinary64 n rule x) (SaysBinary64 n x) r
