-- `size_of` meets its contract: the fields of the string without its sign, the fraction below the top bit. Assumes nothing.
use mathlib.Core.Path.{◌≡◌, refl, sym, ap, ◌∙◌, subst}
use Prim.Native.Nat.{ℕ, ◌+◌, ◌-◌, ◌*◌, ◌/◌, ◌^◌, ◌≤◌}
use native.Mathlib.Nat.{mul_assoc, mul-div_cancel, zero-lt-suc}
use native.Mathlib.Omega.{arith}
use borrow.Author.Rules.{rules}
use mir.Facts.{to_z-of_z}
use mir.Syntax.{w32}
use mir.Val.{SFits}
use Rattle.word.specs.Cuts.{Cuts}
use Rattle.sizes.specs.Sizes.{without_sign}
use Rattle.word.specs.Takum as Takum
use Rattle.bounds.proofs.Powers.{pow_sum}
use Rattle.sizes.proofs.size.size_of.Goals as goal

few : (t : ℕ) → Takum.p 64 t ≤ 63
unfolding Takum.p
few t = omega arith

-- the fraction one place down, below the top bit
halved : (f k : ℕ) → k ≤ 63 → f * 2 ^ (64 - k) / 2 ≡ f * 2 ^ (63 - k)
halved f k h =
    ap (λ (x : ℕ). f * x / 2) (sym (pow_sum (63 - k) 1 (64 - k) (omega (arith, h)))) ∙ ap (λ (x : ℕ). x / 2) (sym (mul_assoc f (2 ^ (63 - k)) 2))
    ∙ mul-div_cancel (f * 2 ^ (63 - k)) (zero-lt-suc 1)

pub returns : goal.returns
returns c =
    let t = without_sign (2 ^ 63) c.args.t in
    let x : Cuts t c.cut-fields.result = subst (λ (y : ℕ). Cuts y c.cut-fields.result) c.without_sign.ensures c.cut-fields.ensures in
    let fits : SFits w32 c.cut-fields.result.c = search rules in
    record {
      sign = refl;
      characteristic = to_z-of_z fits ∙ x.characteristic;
      significand = ap (λ (f : ℕ). 2 ^ 63 + f / 2) x.fraction ∙ ap (λ (y : ℕ). 2 ^ 63 + y) (halved (Takum.F 64 t) (Takum.p 64 t) (few t));
    }
