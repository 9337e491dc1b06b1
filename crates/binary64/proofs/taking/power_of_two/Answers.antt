-- `power_of_two` meets its contract: its pattern is a sign and a field with no digits. Assumes nothing.
use mathlib.Core.Path.{◌≡◌, sym, ◌∙◌, subst}
use mathlib.Core.Bool.{Bool, true, false, not}
use Prim.Native.Nat.{ℕ, ◌+◌, ◌*◌, ◌%◌, ◌^◌, ◌≤◌, ◌<◌}
use native.Mathlib.Omega.{arith}
use borrow.Author.Tests.{le-ltb}
use lib.Dec.{T}
use mir.Val.{bool_byte}
use lib.Ieee.{binary64, of_bits, nan_bits}
use lib.Ieee.Bits.{nan_bits_above}
use lib.Ieee.Exact.{HasValue}
use Rattle.binary64.proofs.Rows.{signed, power_pattern}
use Rattle.binary64.proofs.taking.power_of_two.Goals as goal

no_nan : (b : ℕ) → b % 2 ^ 63 ≤ 2047 * 2 ^ 52 → T (not (nan_bits binary64 b))
no_nan b h = subst (λ (t : Bool). T (not t)) (sym (nan_bits_above binary64 b ∙ le-ltb (2047 * 2 ^ 52) (b % 2 ^ 63) h)) tt

-- the pattern as the machine makes it
shifted : (negative : Bool) (j : ℕ) → j < 2047 → signed negative (j * 2 ^ 52) ≡ bool_byte negative * 2 ^ 63 % 2 ^ 64 + j * 2 ^ 52 % 2 ^ 64
shifted false j h = omega (arith, h)
shifted true j h = omega (arith, h)

pub float_from_bits-result : goal.float_from_bits-result
float_from_bits-result c = no_nan _ (omega (arith, c.requires.1))

pub returns : goal.returns
returns c =
    let s = c.args.negative in
    let j = c.args.j in
    subst (λ (b : ℕ). HasValue (of_bits binary64 b) s (2 ^ j) (2 ^ 1023)) (shifted s j c.requires.1) (power_pattern s j c.requires.0 c.requires.1)
