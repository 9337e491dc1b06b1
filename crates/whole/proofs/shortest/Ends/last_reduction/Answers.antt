-- `Ends::last_reduction` meets its contract: the zeros that 8 + log ends in, where number and v are powers of two, and else nothing. Assumes nothing.
use mathlib.Core.Path.{◌≡◌, refl, sym, ap, ap₂, ◌∙◌}
use mathlib.Core.Bool.{Bool, true, false, ◌&&◌}
use Prim.Native.Nat.{ℕ, ◌+◌, ◌*◌, ◌%◌, ◌^◌, ◌≤◌, ◌<◌}
use native.Mathlib.Omega.{arith}
use borrow.Author.Tests.{eq-eqb, ne_eqb}
use lib.Count.{count_trailing_zeros}
use lib.Dec.{eqb}
use Rattle.bounds.proofs.Powers.{one_shl}
use Rattle.whole.specs.Lengths.{when}
use Rattle.whole.specs.Parts.{IsLastReduction}
use Rattle.whole.proofs.OddParts.{last_zeros}
use Rattle.whole.proofs.shortest.Ends.last_reduction.Goals as goal
use Rattle.whole.proofs.shortest.Ends.last_reduction.Goals.{then-self-via-then-self, then-self-via-else-self+then-self-2}

-- where v is no power of two nothing is taken off, whatever the number is
nothing : (p : Bool) (a : ℕ) → when (p && false) a ≡ 0
nothing true a = refl
nothing false a = refl

-- the number is a power of two
one_bit : (v w : ℕ) → w + 1 ≤ v → v ≤ w + 1 → eqb (w + 1) v ≡ true
one_bit v w some left = eq-eqb (w + 1) v (omega (arith, left, some))

shifted : (log : ℕ) → log < 8 → 1 * 2 ^ log % 2 ^ 32 ≡ 2 ^ log
shifted log few = one_shl 32 log (omega (arith, few))

pub returns-then-self : goal.returns-then-self
unfolding IsLastReduction
returns-then-self c =
    let e = c.args.self in
    let zeros = count_trailing_zeros 32 (8 + e.log) in (
      zeros,
      last_zeros e.log e.few,
      sym (elim c.then-self.branch [
        | then-self-via-then-self t ↦ ap (λ (b : Bool). when (b && eqb e.v (2 ^ e.log)) zeros) (ne_eqb (e.w + 1) e.v (λ q. omega (arith, q)))
        | then-self-via-else-self+then-self-2 t ↦ ap (λ (b : Bool). when (eqb (e.w + 1) e.v && b) zeros) (ne_eqb e.v (2 ^ e.log) (λ q. omega (arith, q, shifted e.log e.few))) ∙ nothing (eqb (e.w + 1) e.v) zeros
      ]),
    )

pub returns : goal.returns
unfolding IsLastReduction
returns c =
    let e = c.args.self in
    let zeros = count_trailing_zeros 32 (8 + e.log) in
    (zeros, last_zeros e.log e.few, sym (ap₂ (λ (p b : Bool). when (p && b) zeros) (one_bit e.v e.w e.apart (omega arith)) (eq-eqb e.v (2 ^ e.log) (omega (arith, shifted e.log e.few, e.log_is.low)))))
