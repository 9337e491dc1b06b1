-- The order of words of one width, and their negation (paper 01).
use Rattle.std.specs.Prelude.{cond, ℕ, ◌-◌, ◌%◌, ◌^◌, ltb, ℤ, pos, negsuc, neg_ℤ, ◌-ℤ◌}
use Rattle.std.specs.Int.Signed.{lt_z}
use Rattle.word.specs.Takum.{Takum, real, NaR}

-- the word as an n-bit two's complement number
unfoldable pub signed : ℕ → ℕ → ℤ
signed n w = cond (ltb w (2 ^ (n - 1))) (pos w) (pos w -ℤ pos (2 ^ n))

-- -1, 0 or 1
unfoldable pub order : ℤ → ℤ → ℤ
order x y = cond (lt_z x y) (negsuc 0) (cond (lt_z y x) (pos 1) (pos 0))

-- two's complement negation in n bits
unfoldable pub negated : ℕ → ℕ → ℕ
negated n w = (2 ^ n - w) % 2 ^ n

-- the value that negation is to give; NaR has none and stays
unfoldable pub opposite : Takum → Takum
opposite (real z) = real (neg_ℤ z)
opposite NaR = NaR
