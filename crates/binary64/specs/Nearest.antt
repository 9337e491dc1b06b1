-- What "the nearest binary64, ties to even" means (paper 01, "Whole numbers and binary64"), as a property of the number. No contract needs it: the
-- promise about numbers out does (crates/promises/specs/Nearest.antt).
use Rattle.std.specs.Prelude.{◌≡◌, Bool, ◌⊎◌, ℕ, ◌*◌, ◌%◌, ◌^◌, ◌≤◌, ◌<◌, ℤ, pos, nat_abs, ◌-ℤ◌, ◌*ℤ◌, Float}
use Rattle.std.specs.Float.{fin, binary64}
use Rattle.std.specs.Float.Ieee.{up, down, of_bits}
use Rattle.word.specs.Reads.{signed_size}
use Rattle.write.specs.Writes.{is_negative}

-- the bit pattern b stands for a finite binary64, plus or minus m * 2^e: the fraction m * up e / down e
pub record IsFinite (b : ℕ) (negative : Bool) (m : ℕ) (e : ℤ) : Type 0 where
  pub pattern : b < 2 ^ 64
  pub number : of_bits binary64 b ≡ fin negative m e

-- How far it is from z * 2^-307: both are whole numbers over the denominator 2^307 * down e, and this is their difference without its sign.
unfoldable pub apart : ℤ → Bool → ℕ → ℤ → ℕ
apart z negative m e = nat_abs (z *ℤ pos (down e) -ℤ signed_size negative (m * up e * 2 ^ 307))

-- x is finite and has the sign of z, zero being positive. Of all finite binary64 numbers none is nearer to z * 2^-307, and of two that are equally
-- near it is the one whose last digit, the lowest bit of its pattern, is 0. Both distances are brought to one denominator.
pub record NearestBinary64 (z : ℤ) (x : Float) : Type 0 where
  pub b : ℕ
  pub m : ℕ
  pub e : ℤ
  pub is : IsFinite b (is_negative z) m e
  pub same : x ≡ of_bits binary64 b
  pub nearest : (b' : ℕ) (s : Bool) (m' : ℕ) (e' : ℤ) → IsFinite b' s m' e' → apart z (is_negative z) m e * down e' ≤ apart z s m' e' * down e
  pub even : (b' : ℕ) (s : Bool) (m' : ℕ) (e' : ℤ) → IsFinite b' s m' e' → apart z (is_negative z) m e * down e' ≡ apart z s m' e' * down e → (b' ≡ b) ⊎ (b % 2 ≡ 0)
