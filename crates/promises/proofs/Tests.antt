-- Tests of words that are computed, and what follows from them. Assumes nothing.
use mathlib.Core.Path.{◌≡◌, refl, ap}
use mathlib.Core.Bool.{Bool, true, false, ◌&&◌, ◌||◌}
use mathlib.Core.Logic.{◌⊎◌, inl, inr}
use Prim.Native.Nat.{ℕ, ◌^◌}
use lib.Dec.{T, leb, ltb, leb→le, ltb→lt}
use lib.IntN.{pos, nat_abs}
use Rattle.word.specs.Takum.{Takum, real, NaR, takum}
use Rattle.bounds.specs.Refusals.{IsWord}
use Rattle.word.specs.Reads.{signed_size}
use Rattle.word.proofs.Heads.{both}
use Rattle.word.proofs.Integers.{same_integer, same_integer_is}
use Rattle.nearest.specs.Nearest.{HasValue}

-- the size of a meaning
unfoldable pub size_of : Takum → ℕ
size_of (real z) = nat_abs z
size_of NaR = 0

-- two meanings are the same
unfoldable pub same : Takum → Takum → Bool
same (real a) (real b) = same_integer a b
same (real a) NaR = false
same NaR (real b) = false
same NaR NaR = true

pub same_is : (t u : Takum) → T (same t u) → t ≡ u
unfolding same
same_is (real a) (real b) t = ap real (same_integer_is a b t)
same_is (real a) NaR t = absurd t
same_is NaR (real b) t = absurd t
same_is NaR NaR t = refl

-- one of two tests holds
pub either : (a b : Bool) → T (a || b) → T a ⊎ T b
either true b t = inl tt
either false b t = inr t

-- the test that w is a word of n bits
unfoldable pub is_word : ℕ → ℕ → Bool
is_word n w = leb 2 n && (leb n 64 && ltb w (2 ^ n))

pub word_is : (n w : ℕ) → T (is_word n w) → IsWord n w
unfolding is_word
word_is n w t =
    let x = both (leb 2 n) (leb n 64 && ltb w (2 ^ n)) t in
    let y = both (leb n 64) (ltb w (2 ^ n)) x.1 in
    record { least = leb→le 2 n x.0; most = leb→le n 64 y.0; fits = ltb→lt w (2 ^ n) y.1 }

-- the test that the word w of n bits has the value z * 2^-307
unfoldable pub has : ℕ → ℕ → ℕ → Bool
has n z w = is_word n w && same (takum n w) (real (pos z))

pub has_is : (n z w : ℕ) → T (has n z w) → HasValue n false z w
unfolding has signed_size
has_is n z w t = let x = both (is_word n w) (same (takum n w) (real (pos z))) t in record { word = word_is n w x.0; means = same_is (takum n w) (real (pos z)) x.1 }
