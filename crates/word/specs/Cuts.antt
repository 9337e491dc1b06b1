-- The fields of a string of 64 bits, as the call gives them.
use Rattle.std.specs.Prelude.{◌≡◌, ℕ, ◌-◌, ◌*◌, ◌^◌}
use Rattle.word.specs.declared.fields.Fields.{Fields}
use Rattle.word.specs.Takum.{p, F, c}

-- ---- what the call answers: the characteristic, and the fraction F / 2^p as f * 2^-64
pub record Cuts (T : ℕ) (x : Fields) : Type 0 where
  pub characteristic : x.c ≡ c 64 T
  pub fraction : x.f ≡ F 64 T * 2 ^ (64 - p 64 T)
