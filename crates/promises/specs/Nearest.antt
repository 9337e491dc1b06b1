-- What "the nearest binary64, ties to even" (paper 01) promises of a number that is taken out, as statements about what the public contract allows.
use Rattle.std.specs.Prelude.{◌≡◌, ℕ, ℤ, Float}
use Rattle.word.specs.Takum.{real, takum}
use Rattle.binary64.specs.declared.taking.Binary64.{Binary64}
use Rattle.binary64.specs.Takes.{TakesBinary64}
use Rattle.binary64.specs.Nearest.{NearestBinary64}

-- at every width: it is finite, no finite binary64 is nearer to the word's value, at a tie its last digit is 0, and zero is positive zero
unfoldable pub TheNumberOutIsTheNearest : Type 0
TheNumberOutIsTheNearest = (n w : ℕ) (x : Float) → TakesBinary64 n w (Binary64.Number x) → (z : ℤ) × (takum n w ≡ real z) × NearestBinary64 z x

-- and that is one number: for no value are there two
unfoldable pub OneNumberIsTheNearest : Type 0
OneNumberIsTheNearest = (z : ℤ) (x y : Float) → NearestBinary64 z x → NearestBinary64 z y → x ≡ y
