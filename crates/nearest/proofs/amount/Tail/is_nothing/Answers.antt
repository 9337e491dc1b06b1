-- `Tail::is_nothing` meets its contract: the bits cut off, and then the rest. Assumes nothing.
use mathlib.Core.Bool.{true≢false}
use mathlib.Core.Logic.{inl, inr}
use mathlib.Core.Path.{◌≡◌, refl, sym, ap, subst}
use Prim.Native.Nat.{ℕ}
use native.Mathlib.Nat.{pos_of_ne-zero}
use Rattle.std.proofs.lemmas.Bool.{ne_eqb}
use Rattle.nearest.specs.declared.size.Rest.{Rest}
use Rattle.nearest.specs.Parts.{is_none, TellsNothing}
use Rattle.nearest.proofs.amount.Tail.is_nothing.Goals as goal

-- the test of the rest
tells : (cut : ℕ) → cut ≡ 0 → (rest : Rest) → TellsNothing cut rest (is_none rest)
unfolding TellsNothing
tells cut q Rest.Nothing = (q, refl)
tells cut q Rest.UnderHalf = inr (λ e. true≢false (sym (ap is_none e)))
tells cut q Rest.Half = inr (λ e. true≢false (sym (ap is_none e)))
tells cut q Rest.OverHalf = inr (λ e. true≢false (sym (ap is_none e)))

pub returns-then-self-eq0 : goal.returns-then-self-eq0
returns-then-self-eq0 c = subst (TellsNothing c.args.self.bits c.args.self.rest) (sym c.is_nothing.ensures) (tells c.args.self.bits c.if-self-eq0.true c.args.self.rest)

pub returns-else-self-eq0 : goal.returns-else-self-eq0
unfolding TellsNothing
returns-else-self-eq0 c = subst (TellsNothing c.args.self.bits c.args.self.rest) (sym (ne_eqb _ _ c.if-self-eq0.false)) (inl (pos_of_ne-zero c.if-self-eq0.false))
