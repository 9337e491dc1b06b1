-- What the width adds to a line: ` old` where it is retired, and nothing where it isn't. Assumes nothing.
use mathlib.Core.Path.{◌≡◌, ap}
use mathlib.Core.Bool.{Bool, cond}
use mathlib.Core.List.{[]}
use Prim.Native.Nat.{ℕ}
use borrow.Author.Tests.{eq-eqb, ne_eqb}
use Rattle.sheet.specs.Writes.{is_retired}
use Rattle.listing.specs.Text.{old, old_text}

pub is_old : (n : ℕ) → n ≡ 8 → old_text n ≡ old
unfolding old_text is_retired
is_old n e = ap (λ (b : Bool). cond b old []) (eq-eqb n 8 e)

pub isn't_old : (n : ℕ) → (n ≡ 8 → ⊥) → old_text n ≡ []
unfolding old_text is_retired
isn't_old n f = ap (λ (b : Bool). cond b old []) (ne_eqb n 8 f)
