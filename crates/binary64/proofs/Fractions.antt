-- What is written, and what is said of it, turns on the value alone, and not on the fraction that it is offered as. Assumes nothing.
use Rattle.bounds.specs.Refusals.{Answer}
use mathlib.Core.Path.{◌≡◌, subst₂}
use mathlib.Core.Bool.{Bool}
use Prim.Native.Nat.{ℕ, ◌*◌, ◌<◌}
use native.Mathlib.Nat.{mul_comm}
use Rattle.bounds.specs.declared.saying.Saying.{Saying}
use Rattle.nearest.specs.Sayings.{Says}
use Rattle.round.specs.declared.value.Rule.{Rule}
use Rattle.round.specs.Writes.{IsWritten}
use Rattle.round.proofs.Sayings.{says_times, says_reduced}
use Rattle.round.proofs.Scales.{written_times, written_reduced}

-- whatever is so of a fraction whose parts are multiplied by one number, and of one that is reduced
same_value : (P : ℕ → ℕ → Type 0) → ((a b d : ℕ) → 0 < d → P a b → P (a * d) (b * d)) → ((a b d : ℕ) → 0 < d → P (a * d) (b * d) → P a b) → (a b a' b' : ℕ) → 0 < b → 0 < b' → a * b' ≡ a' * b → P a b → P a' b'
same_value P times reduced a b a' b' some some' same x = reduced a' b' b some (subst₂ P same (mul_comm b b') (times a b b' some' x))

pub written_same : (n : ℕ) (rule : Rule) (r : Answer ℕ) (s : Bool) (a b a' b' : ℕ) → 0 < b → 0 < b' → a * b' ≡ a' * b → IsWritten n rule s a b r → IsWritten n rule s a' b' r
written_same n rule r s = same_value (λ (a b : ℕ). IsWritten n rule s a b r) (λ a b d some. written_times n s a b d some rule r) (λ a b d some. written_reduced n s a b d some rule r)

pub said_same : (n w : ℕ) (q : Saying) (s : Bool) (a b a' b' : ℕ) → 0 < b → 0 < b' → a * b' ≡ a' * b → Says n s a b w q → Says n s a' b' w q
said_same n w q s = same_value (λ (a b : ℕ). Says n s a b w q) (λ a b d some. says_times n s a b d some w q) (λ a b d some. says_reduced n s a b d some w q)
