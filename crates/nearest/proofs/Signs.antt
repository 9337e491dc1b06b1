-- The nearest positive word with a sign is the nearest word of that sign, and what is said of it is said with the sign. Assumes nothing.
use mathlib.Core.Path.{◌≡◌, sym, ap, ◌∙◌, subst}
use mathlib.Core.Bool.{Bool, true, false, cond}
use Prim.Native.Nat.{ℕ, zero, ◌-◌, ◌^◌, ◌≤◌, ◌<◌}
use native.Mathlib.Omega.{arith}
use lib.IntN.{ℤ}
use Rattle.bounds.specs.declared.saying.Saying.{Saying}
use Rattle.bounds.specs.Sayings.{opposite_saying}
use Rattle.word.specs.Orders.{negated}
use Rattle.bounds.proofs.Powers.{twice}
use Rattle.word.proofs.Signed.{negated_other}
use Rattle.nearest.specs.declared.size.Rest.{Rest}
use Rattle.nearest.specs.Nearest.{Nearest}
use Rattle.nearest.specs.Offers.{IsNearest, IsSignedNearest}
use Rattle.nearest.specs.Parts.{with_sign, signed_saying}
use Rattle.nearest.specs.Sayings.{Says, SaysOffered}
use Rattle.nearest.proofs.Places.{word_of, to_word, from_word}
use Rattle.nearest.proofs.Sayings.{is_positive, says_negated}

module _ (n : ℕ) (lo : 2 ≤ n) (hi : n ≤ 64) where
  signed_word : (s : Bool) (v w : ℕ) → zero < v → v < 2 ^ (n - 1) → w ≡ word_of n false v → word_of n s v ≡ with_sign n s w
  unfolding word_of with_sign
  signed_word false v w h b q = sym q
  signed_word true v w h b q = sym (ap (negated n) q ∙ negated_other n v h (omega (arith, b, twice n lo)))

  pub signed_nearest : (s : Bool) (a b w : ℕ) → Nearest n false a b w → Nearest n s a b (with_sign n s w)
  signed_nearest s a b w x =
      let t = from_word n lo hi false a b w x in
      subst (Nearest n s a b) (signed_word s t.0 w t.1.first t.1.last t.2) (to_word n lo hi s a b t.0 t.1)

  -- of a class of sizes
  module _ (h : ℤ) (m : ℕ) (rest : Rest) (w : ℕ) (near : IsNearest n h m rest w) (s : Bool) where
    pub class_signed : IsSignedNearest n s h m rest (with_sign n s w)
    unfolding IsNearest IsSignedNearest
    class_signed a b some offered = signed_nearest s a b w (near a b some offered)

    fits : w < 2 ^ n
    fits = omega (arith, (is_positive n lo hi h m rest w near).1, twice n lo)

    pub class_said : (q : Saying) → SaysOffered n false h m rest w q → SaysOffered n s h m rest (with_sign n s w) (signed_saying s q)
    unfolding SaysOffered with_sign
    class_said q x a b some offered = by s
      where
        by : (s : Bool) → Says n s a b (cond s (negated n w) w) (cond s (opposite_saying q) q)
        by false = x a b some offered
        by true = says_negated n false a b w q (record { least = lo; most = hi; fits = fits }) (x a b some offered)
