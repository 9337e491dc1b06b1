-- `exponent` meets its contract: the characteristic of the word at the top. Assumes nothing.
use mathlib.Core.Path.{◌≡◌, sym, ap, ◌∙◌, subst}
use Prim.Native.Nat.{ℕ, ◌-◌, ◌*◌, ◌%◌, ◌^◌, ◌≤◌, ◌<◌}
use native.Mathlib.Omega.{arith}
use lib.IntN.{ℤ}
use lib.Pow.{shl_exact}
use lib.Signed.{mag}
use mir.Facts.{to_z-of_z}
use mir.Syntax.{w32, w64}
use mir.Val.{SFits, to_z, of_z}
use Rattle.word.specs.Takum as Takum
use Rattle.word.proofs.Numbers.{characteristic_of_string}
use Rattle.nearest.specs.Parts.{IsRaised}
use Rattle.nearest.proofs.size.exponent.Goals as goal

-- the exponent, as the machine holds it
module _ (h h' : ℤ) (same : h ≡ h') (small : mag h' ≤ 254) where
  little : mag h ≤ 254
  little = subst (λ (z : ℤ). mag z ≤ 254) (sym same) small

  narrow : SFits w32 h
  narrow = record { sfits = omega (arith, little) }

  wide : SFits w64 h
  wide = record { sfits = omega (arith, little) }

  is : to_z w64 (of_z w64 (to_z w32 (of_z w32 h))) ≡ h'
  is = ap (λ (z : ℤ). to_z w64 (of_z w64 z)) (to_z-of_z narrow) ∙ to_z-of_z wide ∙ same

-- the word at the top loses nothing
module _ (n word : ℕ) (least : 2 ≤ n) (most : n ≤ 64) (short : word < 2 ^ (n - 1)) (t : ℕ) (is_top : t ≡ word * 2 ^ (64 - n) % 2 ^ 64) (h : ℤ) (cut : h ≡ Takum.c 64 t) where
  at_top : h ≡ Takum.c 64 (word * 2 ^ (64 - n))
  at_top = cut ∙ ap (Takum.c 64) (is_top ∙ shl_exact (n - 1) (64 - n) 64 short (omega (arith, least, most)))

little_at_top : (n word : ℕ) → mag (Takum.c 64 (word * 2 ^ (64 - n))) ≤ 254
little_at_top n word = characteristic_of_string 64 (word * 2 ^ (64 - n))

pub invariant_of-raised : goal.invariant_of-raised
invariant_of-raised c =
    let n = c.args.width.bits in
    let same = at_top n c.args.word c.args.width.least c.args.width.most c.requires.1 c.string.result c.string.ensures c.cut.result.c c.cut.ensures.characteristic in
    let small = little_at_top n c.args.word in
    record { inside = subst (λ (z : ℤ). mag z ≤ 254) (sym (is c.cut.result.c _ same small)) small }

pub returns : goal.returns
returns c =
    let n = c.args.width.bits in
    let same = at_top n c.args.word c.args.width.least c.args.width.most c.requires.1 c.string.result c.string.ensures c.cut.result.c c.cut.ensures.characteristic in
    subst (λ (z : ℤ). IsRaised z c.raised.result) (is c.cut.result.c _ same (little_at_top n c.args.word)) c.raised.ensures
