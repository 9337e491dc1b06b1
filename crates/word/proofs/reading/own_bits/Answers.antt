-- `own_bits` meets its contract: what sign, direction, regime and characteristic leave. Assumes nothing.
use mathlib.Core.Path.{◌≡◌, sym, ap, ◌∙◌, subst}
use Prim.Native.Nat.{ℕ, ◌+◌, ◌-◌, ◌≤◌}
use native.Mathlib.Omega.{arith}
use lib.IntN.{pos, ◌-ℤ◌}
use Rattle.word.specs.Takum.{r, or_zero}
use Rattle.word.proofs.Cut.{regime_le}
use Rattle.word.proofs.Own.{or_zero_lem}
use Rattle.word.proofs.reading.own_bits.Goals as goal

regime_small : (c : goal.After-regime_of-others) → c.regime_of-others.result ≤ 7
regime_small c = subst (λ (x : ℕ). x ≤ 7) (sym c.regime_of-others.ensures) (regime_le _ _)

left : (c : goal.After-regime_of-others) → or_zero (pos c.args.n -ℤ pos (r 64 c.args.t) -ℤ pos 5) ≡ c.args.n - (c.regime_of-others.result + 5)
left c = or_zero_lem _ _ ∙ ap (λ (k : ℕ). c.args.n - (k + 5)) (sym c.regime_of-others.ensures)

pub overflow_add-others : goal.overflow_add-others
overflow_add-others c = record { fits = omega (arith, regime_small c) }

pub returns : goal.returns
returns c = c.saturating_sub.ensures ∙ sym (left c.before)
