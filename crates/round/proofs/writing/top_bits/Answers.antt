-- `top_bits` meets its contract: the bits of both numbers side by side. Assumes nothing.
use mathlib.Core.Path.{◌≡◌, sym, ap, ap₂, ◌∙◌, subst}
use Prim.Native.Nat.{ℕ, ◌+◌, ◌-◌, ◌*◌, ◌/◌, ◌%◌, ◌^◌, ◌<◌}
use native.Mathlib.Nat.{mod-eq_of_lt}
use native.Mathlib.Omega.{arith}
use lib.Pow.{shr-shr}
use Rattle.round.specs.Offers.{top_bits}
use Rattle.round.proofs.Long.{high_room}
use Rattle.round.proofs.writing.top_bits.Goals as goal

module _ (s : goal.Start) where
  abbrev zeros : ℕ
  zeros = s.args.zeros

  -- one shift by one, and one by the others, are one shift by all
  low_bits : s.args.low / 2 ^ 1 / 2 ^ (63 - zeros) ≡ s.args.low / 2 ^ (64 - zeros)
  low_bits = shr-shr s.args.low 1 (63 - zeros) ∙ ap (λ (k : ℕ). s.args.low / 2 ^ k) together
    where
      together : 1 + (63 - zeros) ≡ 64 - zeros
      together = omega (arith, s.requires.0)

  sum_fits : s.args.high * 2 ^ zeros + s.args.low / 2 ^ (64 - zeros) < 2 ^ 64
  sum_fits = high_room s.args.high s.args.low zeros s.requires.0 s.requires.1 s.ranges.low.fits

  high_bits : s.args.high * 2 ^ zeros % 2 ^ 64 ≡ s.args.high * 2 ^ zeros
  high_bits = mod-eq_of_lt s.requires.1

pub overflow_add-result : goal.overflow_add-result
overflow_add-result c = record { fits = subst (λ (x : ℕ). x < 2 ^ 64) (ap₂ (λ (x y : ℕ). x + y) (sym (high_bits c)) (sym (low_bits c))) (sum_fits c) }

pub returns : goal.returns
unfolding top_bits
returns c = ap₂ (λ (x y : ℕ). x + y) (high_bits c) (low_bits c)
