-- What the nearest word is (paper 01, "Writing a value"), as a property of the word that is given.
use Rattle.std.specs.Prelude.{◌≡◌, Bool, ◌⊎◌, ℕ, ◌-◌, ◌*◌, ◌%◌, ◌≤◌, ◌<◌, max, min}
use Rattle.bounds.specs.Refusals.{IsWord}
use Rattle.word.specs.Takum.{real, takum}
use Rattle.word.specs.Reads.{signed_size}

-- w is a word of n bits, and its value is the size z * 2^-307 with the sign
pub record HasValue (n : ℕ) (negative : Bool) (z w : ℕ) : Type 0 where
  pub word : IsWord n w
  pub means : takum n w ≡ real (signed_size negative z)

-- how far apart two whole numbers are
unfoldable pub distance : ℕ → ℕ → ℕ
distance a b = max a b - min a b

-- A size is offered as the fraction a / b of whole numbers, counted in 2^-307; both sides of a comparison are multiplied by b.
-- Of the nonzero words of the value's own sign, w is the nearest, and of two that are equally near the one whose lowest bit is 0.
pub record Nearest (n : ℕ) (negative : Bool) (a b w : ℕ) : Type 0 where
  pub z : ℕ
  pub some : 0 < z
  pub is : HasValue n negative z w
  pub nearest : (z' w' : ℕ) → 0 < z' → HasValue n negative z' w' → distance a (z * b) ≤ distance a (z' * b)
  pub even : (z' w' : ℕ) → 0 < z' → HasValue n negative z' w' → distance a (z * b) ≡ distance a (z' * b) → (w' ≡ w) ⊎ (w % 2 ≡ 0)
