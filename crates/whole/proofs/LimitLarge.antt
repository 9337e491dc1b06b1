-- From 2^55 on the value of every word, at any width, is an even whole number: with zeros appended it is a word of 64 bits, where 2^55 is the limit.
-- Assumes nothing.
use mathlib.Core.Path.{◌≡◌, refl, sym, ap, ◌∙◌, subst}
use mathlib.Core.Bool.{Bool}
use Prim.Native.Nat.{ℕ, ◌+◌, ◌-◌, ◌*◌, ◌^◌, ◌≤◌}
use native.Mathlib.Nat.{le_trans}
use native.Mathlib.Omega.{arith}
use lib.Dec.{lit≤}
use lib.IntN.{ℤ, pos, ◌-ℤ◌}
use Rattle.bounds.specs.Refusals.{IsWord}
use Rattle.bounds.specs.Widths.{IsLimit}
use Rattle.bounds.proofs.Limits.{no_more}
use Rattle.bounds.proofs.Powers.{shl_below}
use Rattle.word.specs.Takum.{real, takum}
use Rattle.word.specs.Reads.{signed_size, IsNumber}
use Rattle.word.proofs.Binades.{value_one}
use Rattle.word.proofs.Words.{zeros_appended}
use Rattle.nearest.specs.Nearest.{HasValue}
use Rattle.whole.specs.Parts.{WholeWhereLarge}
use Rattle.whole.proofs.LimitEvens.{even_from_the_limit}

limit_of_64 : IsLimit 64 (2 ^ 55)
limit_of_64 = record { v = 55; is = no_more 64 5 (omega arith) (omega arith) (omega arith) (omega arith); limit = refl }

-- with zeros appended a word has the same value
pub wider : (n N : ℕ) (s : Bool) (z w : ℕ) → n ≤ N → N ≤ 64 → HasValue n s z w → HasValue N s z (w * 2 ^ (N - n))
wider n N s z w h hi x =
    record {
      word = record { least = le_trans x.word.least h; most = hi; fits = shl_below n (N - n) N x.word.fits (sym long) };
      means = ap (λ (m : ℕ). takum m (w * 2 ^ (N - n))) long ∙ zeros_appended n (N - n) w x.word.least (omega (arith, h, hi)) x.word.fits ∙ x.means;
    }
  where
    long : N ≡ n + (N - n)
    long = omega (arith, h)

pub large_is_even : (n w : ℕ) (s : Bool) (z : ℕ) → HasValue n s z w → 2 ^ 55 * 2 ^ 307 ≤ z → (j : ℕ) × (z ≡ 2 * j * 2 ^ 307)
large_is_even n w s z x large = even_from_the_limit 64 (2 ^ 55) (lit≤ tt) (lit≤ tt) limit_of_64 s z (w * 2 ^ (64 - n)) (wider n 64 s z w x.word.most (lit≤ tt) x) large

-- as the size of what a word means is told
pub whole_where_large : (n w : ℕ) (s : Bool) (h : ℤ) (m : ℕ) → IsWord n w → IsNumber (takum n w) 63 s h m 63 → WholeWhereLarge h m
unfolding WholeWhereLarge
whole_where_large n w s h m i x v counted large =
    let t = large_is_even n w s v (record { word = i; means = subst (λ (y : ℕ). takum n w ≡ real (signed_size s y)) (value_one m (h -ℤ pos 63) x.v v x.size counted) x.means }) large in
    (2 * t.0, t.1)
