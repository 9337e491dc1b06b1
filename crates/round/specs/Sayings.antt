-- What the hub says beside a word (paper 02, Wish 4): what is written is as in Writes.antt, and which way it went as in crates/nearest/specs/Sayings.antt.
use Rattle.std.specs.Prelude.{ℕ, ◌+◌, ◌*◌, ◌^◌, Bool, ℤ, pos, ◌+ℤ◌, ◌-ℤ◌}
use Rattle.bounds.specs.declared.answer.Written.{Written}
use Rattle.bounds.specs.Refusals.{Answer}
use Rattle.bounds.specs.Sayings.{AndSays}
use Rattle.sizes.specs.declared.size.Size.{Size}
use Rattle.word.specs.Reads.{num, den}
use Rattle.nearest.specs.Sayings.{Says}
use Rattle.round.specs.declared.value.Rule.{Rule}
use Rattle.round.specs.declared.value.LongValue.{LongValue}
use Rattle.round.specs.Writes.{WritesShort}

-- ---- what the calls answer, and say
-- m * 2^k with its sign, as `WritesShort` has it, and which way it went
unfoldable pub WritesShortAndSays : ℕ → Rule → Bool → ℕ → ℤ → Answer Written → Type 0
WritesShortAndSays n rule negative m k r = AndSays (WritesShort n rule negative m k) (Says n negative (m * num (k +ℤ pos 307)) (den (k +ℤ pos 307))) r

-- the same of a size as a word is read in
unfoldable pub WritesSizeAndSays : ℕ → Rule → Size → Answer Written → Type 0
WritesSizeAndSays n rule s r = WritesShortAndSays n rule s.negative s.m (s.h -ℤ pos 63) r

-- the same of two numbers in a row
unfoldable pub WritesLongAndSays : ℕ → Rule → LongValue → Answer Written → Type 0
WritesLongAndSays n rule v r = WritesShortAndSays n rule v.negative (v.high * 2 ^ 64 + v.low) v.k r
