-- The size in the normal form is the kind of a reading with 63 fraction bits: what a word means has one, and its exponent is from -255 to 254. Assumes nothing.
use mathlib.Core.Path.{◌≡◌, refl, sym, ap, ◌∙◌, subst}
use Prim.Native.Nat.{ℕ, ◌+◌, ◌-◌, ◌*◌, ◌^◌, ◌≤◌}
use lib.Dec.{ltb}
use lib.IntN.{ℤ, pos}
use lib.Signed.{mag}
use Rattle.bounds.specs.Refusals.{IsWord}
use Rattle.word.specs.declared.reading.Kind.{Kind}
use Rattle.sizes.specs.declared.size.Size.{Size}
use Rattle.sizes.specs.declared.size.WordSize.{WordSize}
use Rattle.word.specs.Takum.{Takum, takum, p, F, c}
use Rattle.word.specs.Reads.{IsNumber, IsKind}
use Rattle.sizes.specs.Sizes.{without_sign, IsWordSize}
use Rattle.word.proofs.Words.{takum_zero, takum_NaR}
use Rattle.word.proofs.Numbers.{characteristic_of_string}
use Rattle.sizes.proofs.Tops.{word_number}
use Rattle.word.proofs.Binades.{kind_one, number_not_zero, number_not_NaR}

-- there and back
kind_of : WordSize → Kind
kind_of WordSize.Zero = Kind.Zero
kind_of WordSize.Nar = Kind.Nar
kind_of (WordSize.Number s) = Kind.Number s.negative s.h s.m 63

size_of : Kind → WordSize
size_of Kind.Zero = WordSize.Zero
size_of Kind.Nar = WordSize.Nar
size_of (Kind.Number negative h m p) = WordSize.Number (record { negative = negative; h = h; m = m })

back : (a : WordSize) → size_of (kind_of a) ≡ a
unfolding kind_of size_of
back WordSize.Zero = refl
back WordSize.Nar = refl
back (WordSize.Number s) = refl

reads : (t : Takum) (a : WordSize) → IsWordSize t a → IsKind t 63 (kind_of a)
unfolding IsWordSize IsKind kind_of
reads t WordSize.Zero x = x
reads t WordSize.Nar x = x
reads t (WordSize.Number s) x = x

-- two sizes of one meaning are the same
pub word_size_one : (t : Takum) (a b : WordSize) → IsWordSize t a → IsWordSize t b → a ≡ b
word_size_one t a b x y = sym (back a) ∙ ap size_of (kind_one t 63 (kind_of a) (kind_of b) (reads t a x) (reads t b y)) ∙ back b

-- the exponent is a characteristic
exponent : WordSize → ℤ
exponent WordSize.Zero = pos 0
exponent WordSize.Nar = pos 0
exponent (WordSize.Number s) = s.h

module _ (n w : ℕ) (i : IsWord n w) (s : Size) (x : IsNumber (takum n w) 63 s.negative s.h s.m 63) where
  T : ℕ
  T = w * 2 ^ (64 - n)

  cut : Size
  cut = record { negative = ltb (2 ^ 63) T; h = c 64 (without_sign (2 ^ 63) T); m = 2 ^ 63 + F 64 (without_sign (2 ^ 63) T) * 2 ^ (63 - p 64 (without_sign (2 ^ 63) T)) }

  pub exponent_small : mag s.h ≤ 254
  unfolding IsWordSize T cut exponent
  exponent_small =
      subst (λ (z : ℤ). mag z ≤ 254)
      (sym (ap exponent (word_size_one (takum n w) (WordSize.Number s) (WordSize.Number cut) x (word_number n w i not_zero not_nar cut (record { sign = refl; characteristic = refl; significand = refl })))))
      (characteristic_of_string 64 (without_sign (2 ^ 63) T))
    where
      not_zero : w ≡ 0 → ⊥
      not_zero q = number_not_zero (takum n w) 63 s.negative s.h s.m 63 x (ap (takum n) q ∙ takum_zero n)

      not_nar : w ≡ 2 ^ (n - 1) → ⊥
      not_nar q = number_not_NaR (takum n w) 63 s.negative s.h s.m 63 x (takum_NaR n w i.least i.most q)
