-- The shortest word for a count (paper 02, Wish 9), as a property of the width that is given.
use Rattle.std.specs.Prelude.{Ok, Err, ◌≡◌, ℕ, ◌*◌, ◌^◌, ◌≤◌, ◌<◌, ℤ, nat_abs}
use Rattle.bounds.specs.declared.refusal.Refusal.{Refusal}
use Rattle.bounds.specs.declared.width.Width.{Width}
use Rattle.bounds.specs.Refusals.{Answer}
use Rattle.nearest.specs.Nearest.{HasValue}
use Rattle.write.specs.Writes.{is_negative}

-- a word of n bits has the value of the whole number x, which is x * 2^307 * 2^-307
unfoldable pub HasWord : ℕ → ℤ → Type 0
HasWord n x = (w : ℕ) × HasValue n (is_negative x) (nat_abs x * 2 ^ 307) w

-- n is the least width from 2 to 64 at which x has a word
pub record IsShortest (x : ℤ) (n : ℕ) : Type 0 where
  pub least : 2 ≤ n
  pub most : n ≤ 64
  pub has : HasWord n x
  pub none_shorter : (k : ℕ) → 2 ≤ k → k < n → HasWord k x → ⊥

-- ---- what the call answers: that width, or INEXACT exactly where x has a word at no width from 2 to 64
unfoldable pub GivesShortest : ℤ → Answer Width → Type 0
GivesShortest x (Ok width) = IsShortest x width.bits
GivesShortest x (Err q) = (q ≡ Refusal.Inexact) × ((n : ℕ) → 2 ≤ n → n ≤ 64 → HasWord n x → ⊥)
