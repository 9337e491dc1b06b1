-- `Amount::ends_at` meets its contract: the string, the significand behind it, and then the rest. Assumes nothing.
use mathlib.Core.Bool.{Bool, true, false}
use mathlib.Core.Logic.{inl, inr}
use mathlib.Core.Path.{◌≡◌, sym, ap, ◌∙◌, subst}
use Prim.Native.Nat.{ℕ, zero, ◌+◌, ◌-◌, ◌*◌, ◌%◌, ◌^◌, ◌≤◌, ◌<◌}
use native.Mathlib.Nat.{lt_irrefl, pos_of_ne-zero, eq_of_mul-eq-mul_right, zero-mul}
use native.Mathlib.Omega.{arith}
use Rattle.std.proofs.lemmas.Bool.{ne_eqb}
use lib.Pow.{pow_pos, shl_exact}
use Rattle.bounds.proofs.Powers.{shl_out}
use Rattle.nearest.specs.Parts.{TellsEnd, TellsNothing}
use Rattle.nearest.proofs.amount.Amount.ends_at.Goals as goal

-- low loses nothing at the top
at : (n low : ℕ) → 2 ≤ n → n ≤ 64 → low < 2 ^ (n - 1) → low * 2 ^ (64 - n) % 2 ^ 64 ≡ low * 2 ^ (64 - n)
at n low least most small = shl_exact (n - 1) (64 - n) 64 small (omega (arith, least, most))

module _ (m r : ℕ) (few : r ≤ 7) where
  -- what the shift leaves are the lowest bits
  left : m * 2 ^ (60 - r) % 2 ^ 64 ≡ m % 2 ^ (4 + r) * 2 ^ (60 - r)
  left = shl_out m (60 - r) (omega arith) ∙ ap (λ (j : ℕ). m % 2 ^ j * 2 ^ (60 - r)) (omega (arith, few))

  none : m * 2 ^ (60 - r) % 2 ^ 64 ≡ 0 → m % 2 ^ (4 + r) ≡ 0
  none q = eq_of_mul-eq-mul_right (2 ^ (60 - r)) (pow_pos (60 - r)) _ 0 (sym left ∙ q ∙ sym (zero-mul (2 ^ (60 - r))))

  some : zero < m * 2 ^ (60 - r) % 2 ^ 64 → zero < m % 2 ^ (4 + r)
  some h = pos_of_ne-zero (λ (q : m % 2 ^ (4 + r) ≡ 0). lt_irrefl 0 (subst (λ (x : ℕ). zero < x) (left ∙ ap (λ (x : ℕ). x * 2 ^ (60 - r)) q ∙ zero-mul (2 ^ (60 - r))) h))

pub returns-then-bits-string : goal.returns-then-bits-string
unfolding TellsEnd TellsNothing
returns-then-bits-string c = by c.is_nothing.result c.is_nothing.ensures
  where
    by : (b : Bool) → TellsNothing (c.args.self.m * 2 ^ (60 - c.args.start.r) % 2 ^ 64) c.args.self.rest b → TellsEnd c.args.width.bits c.args.low c.args.bits c.args.start.r c.args.self.m c.args.self.rest b
    by true t = (c.if-bits-string.true ∙ c.string.ensures ∙ at c.args.width.bits c.args.low c.args.width.least c.args.width.most c.requires, none c.args.self.m c.args.start.r c.args.start.seven t.0, t.1)
    by false (inl h) = inr (inl (some c.args.self.m c.args.start.r c.args.start.seven h))
    by false (inr f) = inr (inr f)

pub returns-else-bits-string : goal.returns-else-bits-string
unfolding TellsEnd
returns-else-bits-string c =
    subst (TellsEnd c.args.width.bits c.args.low c.args.bits c.args.start.r c.args.self.m c.args.self.rest) (sym (ne_eqb _ _ c.if-bits-string.false))
    (inl (λ q. c.if-bits-string.false (q ∙ sym (c.string.ensures ∙ at c.args.width.bits c.args.low c.args.width.least c.args.width.most c.requires))))
