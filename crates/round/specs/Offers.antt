-- Serves private functions only: what is written for zero and for what goes past 64 bits, and what a rule makes of the nearest word.
use Rattle.std.specs.Prelude.{Ok, Err, ◌≡◌, cond, ℕ, ◌+◌, ◌-◌, ◌*◌, ◌/◌, ◌^◌}
use Rattle.bounds.specs.declared.answer.Written.{Written}
use Rattle.bounds.specs.declared.refusal.Refusal.{Refusal}
use Rattle.bounds.specs.declared.saying.Saying.TheVariants.{Exact}
use Rattle.bounds.specs.Refusals.{Answer, width_test, Decided}
use Rattle.bounds.specs.Sayings.{says_exact, written}
use Rattle.round.specs.declared.value.Rule.{Rule}

-- what is written for zero
unfoldable pub WritesZero : ℕ → Answer Written → Type 0
WritesZero n r = Decided (width_test n) (λ q. r ≡ Err q) (r ≡ written 0 Exact)

-- the first 64 bits of two numbers in a row, after so many zeros
unfoldable pub top_bits : ℕ → ℕ → ℕ → ℕ
top_bits high low zeros = high * 2 ^ zeros + low / 2 ^ (64 - zeros)

-- what the rule makes of the nearest word
unfoldable pub settled : Rule → Answer Written → Answer Written
settled Rule.Rounded found = found
settled Rule.Strict (Ok a) = cond (says_exact a.saying) (Ok a) (Err Refusal.Inexact)
settled Rule.Strict (Err q) = Err q
