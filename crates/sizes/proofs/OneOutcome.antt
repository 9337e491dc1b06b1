-- Two outcomes that the contract of `read_size` allows are equal. Assumes nothing.
use mathlib.Core.Path.{◌≡◌}
use Prim.Native.Nat.{ℕ}
use Rattle.bounds.specs.Refusals.{Answer}
use Rattle.word.specs.Takum.{takum}
use Rattle.sizes.specs.declared.size.WordSize.{WordSize}
use Rattle.sizes.specs.Sizes.{IsWordSize, ReadsSize}
use Rattle.bounds.proofs.Verdicts.{value_of_one}
use Rattle.sizes.proofs.Normal.{word_size_one}

pub reads_size_one : (n w : ℕ) (a b : Answer WordSize) → ReadsSize n w a → ReadsSize n w b → a ≡ b
unfolding ReadsSize
reads_size_one n w a b = value_of_one (IsWordSize (takum n w)) (word_size_one (takum n w)) a b
