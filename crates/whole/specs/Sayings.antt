-- What writing a whole number says (paper 02, Wish 4): what is written is as in Wholes.antt, and which way it went as in
-- crates/nearest/specs/Sayings.antt.
use Rattle.std.specs.Prelude.{ℕ, ◌*◌, ◌^◌, ℤ, nat_abs}
use Rattle.bounds.specs.declared.answer.Written.{Written}
use Rattle.bounds.specs.Refusals.{Answer}
use Rattle.bounds.specs.Sayings.{AndSays}
use Rattle.nearest.specs.Sayings.{Says}
use Rattle.round.specs.declared.value.Rule.{Rule}
use Rattle.write.specs.Writes.{is_negative}
use Rattle.whole.specs.Wholes.{WritesWhole}

-- ---- what the call answers, and says
unfoldable pub WritesWholeAndSays : ℕ → Rule → ℤ → Answer Written → Type 0
WritesWholeAndSays n rule x r = AndSays (WritesWhole n rule x) (Says n (is_negative x) (nat_abs x * 2 ^ 307) 1) r
