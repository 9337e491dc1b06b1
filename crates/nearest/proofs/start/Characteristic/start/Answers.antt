-- `Characteristic::start` meets its contract: a characteristic, its side of zero and its size. Assumes nothing.
use mathlib.Core.Path.{◌≡◌, sym, ap, ◌∙◌, subst, subst₂}
use Prim.Native.Nat.{ℕ, ◌+◌, ◌-◌, ◌^◌, ◌≤◌}
use native.Mathlib.Omega.{arith}
use native.Mathlib.Nat.{add-sub_cancel}
use lib.IntN.{ℤ, pos, negsuc}
use lib.Signed.{mag}
use mir.Syntax.{w64}
use Rattle.word.proofs.Casts.{not_negative, is_negative, tested}
use Rattle.bounds.proofs.Powers.{Log}
use Rattle.nearest.specs.declared.start.Start.{Start}
use Rattle.nearest.specs.Parts.{Begins, StartsAbove, IsTurned}
use Rattle.nearest.proofs.Exponents.{small_fits}
use Rattle.nearest.proofs.Starts.{upper_begins, lower_begins, upper_turned}
use Rattle.nearest.proofs.start.Characteristic.start.Goals as goal

-- the start above zero, made from the size, and the one below
module _ (size : ℕ) (above : Start) (is : StartsAbove size above) (most : size ≤ 255) where
  log : Log above.r size
  log = record { low = is.low; high = is.high }

  upper : Begins (pos (size - 1)) above.bits above.r
  upper = subst (λ (x : ℕ). Begins (pos (size - 1)) x above.r) (sym is.bits) (upper_begins above.r size log most)

  lower : (below : Start) → IsTurned above below → Begins (negsuc (size - 1)) below.bits below.r
  lower below t =
      subst₂ (λ (x y : ℕ). Begins (negsuc (size - 1)) x y) (sym (t.bits ∙ ap (λ (x : ℕ). 2 ^ (4 + above.r) - 1 - x) is.bits ∙ upper_turned above.r size log most)) (sym t.r)
      (lower_begins above.r size log most)

-- the size is one more than the characteristic without its sign, and stays small where this does
back : (c : ℤ) (x : ℕ) → x ≡ mag c + 1 → x - 1 ≡ mag c
back c x is = ap (λ (x : ℕ). x - 1) is ∙ add-sub_cancel (mag c) 1

most : (c : ℤ) (x : ℕ) → mag c ≤ 254 → x ≡ mag c + 1 → x ≤ 255
most c x inside is = omega (arith, is, inside)

pub returns-then-self-lt0 : goal.returns-then-self-lt0
returns-then-self-lt0 c =
    let h = c.args.self.c in
    let size = c.size.result in
    subst (λ (z : ℤ). Begins z c.turned.result.bits c.turned.result.r) (ap negsuc (back h size c.size.ensures) ∙ sym (is_negative _ (tested w64 tt (small_fits h c.args.self.inside) c.if-self-lt0.true)))
    (lower size c.above-above.result c.above-above.ensures (most h size c.args.self.inside c.size.ensures) c.turned.result c.turned.ensures)

pub returns : goal.returns
returns c =
    let h = c.args.self.c in
    let size = c.size.result in
    subst (λ (z : ℤ). Begins z c.above-above.result.bits c.above-above.result.r) (ap pos (back h size c.size.ensures) ∙ sym (not_negative _ (tested w64 tt (small_fits h c.args.self.inside) c.if-self-lt0.false)))
    (upper size c.above-above.result c.above-above.ensures (most h size c.args.self.inside c.size.ensures))
