-- An exact size with more bits than a long value has, cut to 128 bits: the lowest one is set for whatever lies below.
use Rattle.std.specs.Prelude.{ℕ, ◌+◌, ◌*◌, ◌/◌, ◌<◌, ℤ, pos, ◌+ℤ◌}
use Rattle.word.specs.Reads.{num, den}

-- the exact size a / b, counted in 2^-307, lies between x * 2^k and (x + 1) * 2^k and is neither; all are multiplied by b and by the denominator of 2^(k + 307)
pub record Between (x : ℕ) (k : ℤ) (a b : ℕ) : Type 0 where
  pub low : x * (num (k +ℤ pos 307) * b) < a * den (k +ℤ pos 307)
  pub high : a * den (k +ℤ pos 307) < (x + 1) * (num (k +ℤ pos 307) * b)

-- x with its lowest bit set
unfoldable pub jammed : ℕ → ℕ
jammed x = x / 2 * 2 + 1
