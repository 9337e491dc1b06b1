-- `of_word` meets its contract: a word has a small exponent and few fraction bits, and a significand few factors two. Assumes nothing.
use mathlib.Core.Path.{◌≡◌, ap, ◌∙◌, subst}
use mathlib.Core.Bool.{Bool}
use Prim.Native.Nat.{ℕ, ◌≤◌}
use native.Mathlib.Omega.{arith}
use borrow.Author.Differences.{ints}
use lib.IntN.{ℤ, pos}
use lib.Signed.{mag}
use Rattle.std.proofs.Common.{rules}
use Rattle.bounds.specs.Refusals.{IsWord}
use Rattle.bounds.proofs.Verdicts.{word_through, ok_tells}
use Rattle.word.specs.declared.reading.Kind.{Kind}
use Rattle.word.specs.Takum.{p, N, takum, fraction_bits, own_fraction_bits}
use Rattle.word.specs.Reads.{IsNumber, IsKind, IsReading, Reads}
use Rattle.word.proofs.Words.{takum_zero, takum_NaR}
use Rattle.word.proofs.Readings.{Holds, holds}
use Rattle.word.proofs.Binades.{kind_one, number_not_zero, number_not_NaR}
use Rattle.census_words.proofs.size.Size.of_word.Goals as goal

exponent : Kind → ℤ
exponent Kind.Zero = pos 0
exponent Kind.Nar = pos 0
exponent (Kind.Number s h m l) = h

-- a word that is a number has an exponent from -255 to 255, and at most 59 fraction bits
module _ (n w : ℕ) (i : IsWord n w) (s : Bool) (h : ℤ) (m l : ℕ) (x : IsNumber (takum n w) (fraction_bits n w) s h m l) where
  held : Holds n w
  held =
      holds n w i (λ q. number_not_zero (takum n w) (fraction_bits n w) s h m l x (ap (takum n) q ∙ takum_zero n))
      (λ q. number_not_NaR (takum n w) (fraction_bits n w) s h m l x (takum_NaR n w i.least i.most q))

  same : Kind.Number held.sign held.h held.m (fraction_bits n w) ≡ Kind.Number s h m l
  unfolding IsKind
  same = kind_one (takum n w) (fraction_bits n w) (Kind.Number held.sign held.h held.m (fraction_bits n w)) (Kind.Number s h m l) held.number x

  small : mag h ≤ 255
  unfolding exponent
  small = subst (λ (z : ℤ). mag z ≤ 255) (ap exponent same) held.small

  few : l ≤ 59
  unfolding fraction_bits p N
  few = omega (arith, x.count, i.most)

pub returns-in-Ok-Number : goal.returns-in-Ok-Number
unfolding Reads IsKind
returns-in-Ok-Number c =
    let n = c.args.width.bits in
    let w = c.args.word in
    let told = ok_tells (IsReading (takum n w) (fraction_bits n w) (own_fraction_bits n w)) c.in-Ok-Number.field-0 c.in-Ok-Number.ensures in
    let kind : (s : Bool) × (c.in-Ok-Number.field-0.kind ≡ Kind.Number s c.in-Ok-Number.h c.in-Ok-Number.m c.in-Ok-Number.p) = search rules in
    let number = subst (λ (k : Kind). IsKind (takum n w) (fraction_bits n w) k) kind.1 told.1.what in
    let i = word_through n w told.0 in
    grind (arith, ints, small n w i _ _ _ _ number, few n w i _ _ _ _ number, c.odd.ensures, c.saturating_sub_unsigned.ensures)
