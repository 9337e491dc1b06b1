-- `Start::first_bits` meets its contract: the shifts lose nothing but the leading one. Assumes nothing.
use mathlib.Core.Path.{◌≡◌, sym, ap, ap₂, ◌∙◌}
use Prim.Native.Nat.{ℕ, ◌+◌, ◌-◌, ◌*◌, ◌/◌, ◌%◌, ◌^◌, ◌≤◌, ◌<◌}
use Rattle.std.proofs.Common.{rules}
use native.Mathlib.Nat.{lt_of_le_of_lt}
use native.Mathlib.Omega.{arith}
use lib.Pow.{shl_exact, shr_le, shr-shr, shl-shr}
use Rattle.nearest.specs.declared.start.Start.{Start}
use Rattle.bounds.proofs.Powers.{shl_below}
use Rattle.nearest.specs.Parts.{first_bits}
use Rattle.nearest.proofs.start.Start.first_bits.Goals as goal

moved : (s : Start) → s.r ≤ 7 → s.bits < 2 ^ (4 + s.r) → s.bits * 2 ^ (59 - s.r) % 2 ^ 64 ≡ s.bits * 2 ^ (59 - s.r)
moved s seven b = shl_exact (4 + s.r) (59 - s.r) 64 b (omega arith)

moved_lt : (s : Start) → s.r ≤ 7 → s.bits < 2 ^ (4 + s.r) → s.bits * 2 ^ (59 - s.r) < 2 ^ 63
moved_lt s seven b = shl_below (4 + s.r) (59 - s.r) 63 b (omega arith)

fraction : (r m : ℕ) → r ≤ 7 → 2 ^ 63 ≤ m → m < 2 ^ 64 → m * 2 % 2 ^ 64 / 2 ^ (5 + r) ≡ (m - 2 ^ 63) / 2 ^ (4 + r)
fraction r m seven full top =
    ap (λ (x : ℕ). x / 2 ^ (5 + r)) cut ∙ ap (λ (k : ℕ). (m - 2 ^ 63) * 2 / 2 ^ k) more ∙ sym (shr-shr ((m - 2 ^ 63) * 2) 1 (4 + r)) ∙ ap (λ (x : ℕ). x / 2 ^ (4 + r)) (shl-shr (m - 2 ^ 63) 1)
  where
    cut : m * 2 % 2 ^ 64 ≡ (m - 2 ^ 63) * 2
    cut = omega (arith, full, top)

    more : 5 + r ≡ 1 + (4 + r)
    more = omega arith

fraction_lt : (r m : ℕ) → r ≤ 7 → m < 2 ^ 64 → (m - 2 ^ 63) / 2 ^ (4 + r) < 2 ^ 63
fraction_lt r m seven top = lt_of_le_of_lt (shr_le (m - 2 ^ 63) (4 + r)) (omega arith)

pub overflow_add-result-2 : goal.overflow_add-result-2
overflow_add-result-2 c = let top : c.args.amount.m < 2 ^ 64 = search rules in
    record { fits = omega (arith, moved c.args.self c.args.self.seven c.args.self.room, moved_lt c.args.self c.args.self.seven c.args.self.room, fraction _ _ c.args.self.seven c.args.amount.normal top, fraction_lt _ _ c.args.self.seven top) }

pub returns : goal.returns
unfolding first_bits
returns c = let top : c.args.amount.m < 2 ^ 64 = search rules in
    ap₂ (λ (x y : ℕ). x + y) (moved c.args.self c.args.self.seven c.args.self.room) (fraction _ _ c.args.self.seven c.args.amount.normal top)
