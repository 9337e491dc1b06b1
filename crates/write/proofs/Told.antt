-- What a word's size tells, once it was read. Assumes nothing.
use mathlib.Core.Path.{◌≡◌, subst}
use Prim.Native.Nat.{ℕ}
use Rattle.std.specs.Prelude.{Ok}
use Rattle.bounds.specs.Refusals.{passed, word_test}
use Rattle.bounds.proofs.Verdicts.{ok_tells}
use Rattle.sizes.specs.declared.size.WordSize.{WordSize}
use Rattle.sizes.specs.Sizes.{IsWordSize, ReadsSize}
use Rattle.word.specs.Takum.{takum}

pub told : (n w : ℕ) {a b : WordSize} → ReadsSize n w (Ok a) → a ≡ b → (word_test n w ≡ passed) × IsWordSize (takum n w) b
unfolding ReadsSize
told n w {a} h q = let t = ok_tells (IsWordSize (takum n w)) a h in (t.0, subst (IsWordSize (takum n w)) q t.1)
