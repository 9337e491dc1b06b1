-- `cut` meets its contract: behind the first five bits the characteristic's, cut from the top, and the fraction shifted there. Assumes nothing.
use mathlib.Core.Path.{◌≡◌, sym, ap, ap₂, ◌∙◌, subst}
use Prim.Native.Nat.{ℕ, ◌+◌, ◌-◌, ◌*◌, ◌/◌, ◌%◌, ◌^◌, ◌≤◌, ◌<◌}
use native.Mathlib.Nat.{mul_assoc, mod-lt}
use native.Mathlib.Omega.{arith}
use borrow.Author.Rules.{sfits_of}
use lib.Pow.{pow_pos, shl-shr, shr-shr, field, mod-mod-pow}
use mir.Facts.{to_z-of_z}
use mir.Syntax.{w32}
use Rattle.word.specs.Takum as Takum
use Rattle.word.specs.Takum.{characteristic_of, C, F}
use Rattle.bounds.proofs.Powers.{pow_sum, shl_out}
use Rattle.word.proofs.Cut.{regime_le}
use Rattle.word.proofs.fields.cut.Goals as goal
use Rattle.word.proofs.fields.cut.Goals.{After-regime_of-r}

regime_small : (c : After-regime_of-r) → c.regime_of-r.result ≤ 7
regime_small c = subst (λ (x : ℕ). x ≤ 7) (sym c.regime_of-r.ensures) (regime_le _ _)

module _ (t r : ℕ) (h : r ≤ 7) where
  -- the characteristic's bits
  bits : t * 2 ^ 5 % 2 ^ 64 / 2 ^ 1 / 2 ^ (63 - r) ≡ t / 2 ^ (64 - r - 5) % 2 ^ r
  bits =
      let low : 1 + (63 - r) ≡ 64 - r = omega (arith, h) in
      let all : 64 ≡ r + (64 - r) = omega (arith, h) in
      let far : 64 - r ≡ 5 + (64 - r - 5) = omega (arith, h) in
      shr-shr (t * 2 ^ 5 % 2 ^ 64) 1 (63 - r) ∙ ap₂ (λ (i j : ℕ). t * 2 ^ 5 % 2 ^ i / 2 ^ j) all low ∙ field (t * 2 ^ 5) r (64 - r)
      ∙ ap (λ (x : ℕ). x % 2 ^ r) (ap (λ (j : ℕ). t * 2 ^ 5 / 2 ^ j) far ∙ sym (shr-shr (t * 2 ^ 5) 5 (64 - r - 5)) ∙ ap (λ (x : ℕ). x / 2 ^ (64 - r - 5)) (shl-shr t 5))

  -- what is shifted out of 64 bits is what stands above the fraction
  shifted : t * 2 ^ 5 % 2 ^ 64 * 2 ^ r % 2 ^ 64 ≡ t % 2 ^ (64 - r - 5) * 2 ^ (64 - (64 - r - 5))
  shifted =
      let rest : 64 - (5 + r) ≡ 64 - r - 5 = omega (arith, h) in
      let first : 64 - 5 ≡ r + (64 - r - 5) = omega (arith, h) in
      let top : 5 + r ≡ 64 - (64 - r - 5) = omega (arith, h) in
      ap (λ (x : ℕ). x * 2 ^ r % 2 ^ 64) (shl_out t 5 (omega arith)) ∙ ap (λ (x : ℕ). x % 2 ^ 64) (mul_assoc (t % 2 ^ (64 - 5)) (2 ^ 5) (2 ^ r) ∙ ap (λ (x : ℕ). t % 2 ^ (64 - 5) * x) (pow_sum 5 r (5 + r) (omega arith)))
      ∙ shl_out (t % 2 ^ (64 - 5)) (5 + r) (omega (arith, h)) ∙ ap₂ (λ (i j : ℕ). t % 2 ^ i % 2 ^ j * 2 ^ (5 + r)) first rest
      ∙ ap (λ (x : ℕ). x * 2 ^ (5 + r)) (mod-mod-pow t r (64 - r - 5)) ∙ ap (λ (j : ℕ). t % 2 ^ (64 - r - 5) * 2 ^ j) top

pub overflow_sub-r : goal.overflow_sub-r
overflow_sub-r c = omega (arith, regime_small c.before)

pub characteristic-requires : goal.characteristic-requires
characteristic-requires c = (regime_small c.before, subst (λ (x : ℕ). x < 2 ^ c.regime_of-r.result) (sym (bits c.args.t c.regime_of-r.result (regime_small c.before))) (mod-lt _ (pow_pos c.regime_of-r.result)))

pub overflow_shl-result : goal.overflow_shl-result
overflow_shl-result c = omega (arith, regime_small c.before.before)

pub returns : goal.returns
unfolding Takum.c C F Takum.p
returns c =
    let t = c.args.t in
    let r = c.regime_of-r.ensures in
    record {
      characteristic =
          to_z-of_z {w = w32} (sfits_of c.characteristic.type_inv) ∙ c.characteristic.ensures
          ∙ ap (characteristic_of c.direction.result c.regime_of-r.result) (bits t c.regime_of-r.result (regime_small c.before.before))
          ∙ ap₂ (λ (d x : ℕ). characteristic_of d x (t / 2 ^ (64 - x - 5) % 2 ^ x)) c.direction.ensures r;
      fraction = shifted t c.regime_of-r.result (regime_small c.before.before) ∙ ap (λ (x : ℕ). t % 2 ^ (64 - x - 5) * 2 ^ (64 - (64 - x - 5))) r;
    }
