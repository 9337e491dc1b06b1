-- `Amount::take_far` meets its contract: from 2^63 on only -2^63 itself falls inside 64 bits. Assumes nothing.
use Rattle.std.specs.Prelude.{Ok, Err}
use mathlib.Core.Path.{◌≡◌, sym, ap, ap₂, ◌∙◌, subst}
use mathlib.Core.Bool.{Bool, true, false}
use Prim.Native.Nat.{◌^◌, ◌<◌}
use native.Mathlib.Decide.{dec_lt}
use native.Mathlib.Omega.{arith}
use lib.Arith.{lt_of_le-ne}
use lib.IntN.{ℤ, pos, ◌-ℤ◌}
use Rattle.bounds.specs.declared.refusal.Refusal.{Refusal}
use Rattle.bounds.proofs.Powers.{not_more}
use Rattle.word.specs.Reads.{signed_size}
use Rattle.whole.specs.declared.taking.Amount.{Amount}
use Rattle.whole.specs.declared.taking.Taking.{Taking}
use Rattle.whole.specs.Wholes.{over_test}
use Rattle.whole.specs.Parts.{TakesSize, TakesByEitherRule}
use Rattle.whole.proofs.Answers.{least_inside, outside, outside_above}
use Rattle.whole.proofs.Takings.{takes_past, takes_outside, takes_inside}
use Rattle.whole.proofs.taking.Amount.take_far.Goals as goal
use Rattle.whole.proofs.taking.Amount.take_far.Goals.{else-self-via-then-self+then-self-eq64+else-self-2, else-self-via-then-self+else-self-eq64, else-self-via-else-self}

-- without a sign all is outside
positive : (rule : Taking) (a : Amount) → 63 < a.k → a.negative ≡ false → TakesSize rule a.negative (pos a.k -ℤ pos 1) a.m (Err Refusal.Over)
positive rule a far plus = by (dec_lt 64 a.k)
  where
    by : Dec (64 < a.k) → TakesSize rule a.negative (pos a.k -ℤ pos 1) a.m (Err Refusal.Over)
    by (yes h) = takes_past rule a.negative a.m a.full a.k far h
    by (no f) = takes_outside rule a.negative a.m a.full a.k far (not_more f) (ap (λ (b : Bool). over_test (signed_size b a.m)) plus ∙ outside_above a.m a.full)

pub returns-then-self-2 : goal.returns-then-self-2
unfolding TakesByEitherRule signed_size
returns-then-self-2 c rule =
    let a = c.args.self in
    let is : signed_size a.negative a.m ≡ signed_size true (2 ^ 63) = ap₂ signed_size c.if-self.true c.if-self-2.true in
    subst (λ (x : ℤ). TakesSize rule a.negative (pos a.k -ℤ pos 1) a.m (Ok x)) is
    (takes_inside rule a.negative a.m a.full a.k c.requires (omega (arith, c.if-self-eq64.true)) (ap over_test is ∙ least_inside))

pub returns : goal.returns
unfolding TakesByEitherRule
returns c rule =
    let a = c.args.self in
    elim c.else-self.branch [
      | else-self-via-then-self+then-self-eq64+else-self-2 t ↦ takes_outside rule a.negative a.m a.full a.k c.requires (omega (arith, t.if-self-eq64.true)) (outside a.negative a.m (lt_of_le-ne a.full (λ q. t.if-self-2.false (sym q))))
      | else-self-via-then-self+else-self-eq64 t ↦ takes_past rule a.negative a.m a.full a.k c.requires (lt_of_le-ne c.requires (λ q. t.if-self-eq64.false (sym q)))
      | else-self-via-else-self t ↦ positive rule a c.requires t.if-self.false
    ]
