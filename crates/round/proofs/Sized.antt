-- A word that has a size, with either sign, has it at the top of 64 bits in the normal form. Assumes nothing.
use mathlib.Core.Path.{◌≡◌, refl, sym, ap, ◌∙◌, subst}
use mathlib.Core.Bool.{Bool}
use Prim.Native.Nat.{ℕ, zero, ◌+◌, ◌-◌, ◌*◌, ◌^◌, ◌≤◌, ◌<◌}
use native.Mathlib.Omega.{arith}
use lib.Dec.{ltb}
use lib.IntN.{ℤ, pos, nat_abs, ◌-ℤ◌}
use Rattle.sizes.specs.declared.size.Size.{Size}
use Rattle.word.specs.Reads.{IsSize, signed_size}
use Rattle.sizes.specs.Sizes.{without_sign, Sizes}
use Rattle.word.specs.Takum.{takum, real, p, F, c}
use Rattle.sizes.proofs.Tops.{word_number}
use Rattle.word.proofs.Values.{real_inj, absolute, no_sign, not_NaR}
use Rattle.word.proofs.Words.{takum_zero, takum_NaR}
use Rattle.nearest.specs.Nearest.{HasValue}

module _ (n : ℕ) (lo : 2 ≤ n) (hi : n ≤ 64) (negative : Bool) (z w : ℕ) (nonzero : zero < z) (value : HasValue n negative z w) where
  -- two sizes of what it means are the same
  size_of_it : (s : Bool) (v : ℕ) → takum n w ≡ real (signed_size s v) → v ≡ z
  size_of_it s v q = sym (absolute s v) ∙ ap nat_abs (real_inj (sym q ∙ value.means)) ∙ absolute negative z

  not_zero : w ≡ 0 → ⊥
  not_zero q = omega (arith, nonzero, size_of_it negative 0 (ap (takum n) q ∙ takum_zero n ∙ ap real (sym (no_sign negative))))

  not_NaR_word : w ≡ 2 ^ (n - 1) → ⊥
  not_NaR_word q = not_NaR (signed_size negative z) (sym value.means ∙ takum_NaR n w lo hi q)

  pub has_form : (s : Size) → Sizes (w * 2 ^ (64 - n)) s → (2 ^ 63 ≤ s.m) × IsSize s.m (s.h -ℤ pos 63) z
  has_form s x =
      let y = word_number n w value.word not_zero not_NaR_word s x in
      (y.low, subst (IsSize s.m (s.h -ℤ pos 63)) (size_of_it s.negative y.v y.means) y.size)

  -- there is one, and its significand takes 64 bits
  pub form : (e : ℤ) × (M : ℕ) × (2 ^ 63 ≤ M) × (M < 2 ^ 64) × IsSize M (e -ℤ pos 63) z
  form =
      let T = without_sign (2 ^ 63) (w * 2 ^ (64 - n)) in
      let s : Size = record { negative = ltb (2 ^ 63) (w * 2 ^ (64 - n)); h = c 64 T; m = 2 ^ 63 + F 64 T * 2 ^ (63 - p 64 T) } in
      let x : Sizes (w * 2 ^ (64 - n)) s = record { sign = refl; characteristic = refl; significand = refl } in
      (s.h, s.m, (has_form s x).0, (word_number n w value.word not_zero not_NaR_word s x).high, (has_form s x).1)
