-- At which widths a whole number has a word: at those that have room for its bits without the zeros that they end in. Assumes nothing.
use mathlib.Core.Path.{◌≡◌, refl, sym, ap, ◌∙◌, subst, subst₂}
use mathlib.Core.Bool.{Bool}
use Prim.Native.Nat.{ℕ, zero, suc, ◌+◌, ◌-◌, ◌*◌, ◌%◌, ◌^◌, ◌≤◌, ◌<◌}
use native.Mathlib.Nat.{le_trans, lt_of_mul-lt-mul_right, mul-pos, mul_assoc, zero-mul, zero-lt-suc}
use native.Mathlib.Omega.{arith}
use lib.Pow.{pow_pos}
use Rattle.bounds.proofs.Powers.{Log, pow_sum, shl_below}
use Rattle.word.proofs.Sizes.{size}
use Rattle.word.proofs.Top.{NaR_shifted}
use Rattle.word.proofs.Values.{grown_suc}
use Rattle.nearest.specs.Nearest.{HasValue}
use Rattle.nearest.proofs.Places.{word_of, Place, has_value, place_of}
use Rattle.whole.proofs.LimitBinades.{WholeBinade, whole_binade}
use Rattle.whole.proofs.LimitStrings.{whole_bits, whole_some, whole_below, whole_size}
use Rattle.whole.proofs.LimitBeyond.{bits_needed}

-- a factor of a number but 0 isn't 0
some_factor : (q r : ℕ) → zero < q * r → zero < q
some_factor zero r h = absurd (omega (arith, h, zero-mul r))
some_factor (suc q) r h = zero-lt-suc q

module _ (n : ℕ) (lo : 2 ≤ n) (hi : n ≤ 64) where
  -- a string that ends in 64 - n zeros is a word's
  word_of_string : (s : Bool) (w u z : ℕ) → w * 2 ^ (64 - n) ≡ u → zero < w → u < 2 ^ 63 → size u ≡ z → HasValue n s z (word_of n s w)
  word_of_string s w u z cut some below is = subst (λ (x : ℕ). HasValue n s x (word_of n s w)) (grown_suc n w some ∙ ap size cut ∙ is) (has_value n lo hi s w some short)
    where
      short : w < 2 ^ (n - 1)
      short = lt_of_mul-lt-mul_right (2 ^ (64 - n)) (subst₂ (λ (x y : ℕ). x < y) (sym cut) (sym (NaR_shifted n lo hi)) below)

  -- the whole number o * 2^(h - g), whose 5 + g + ρ bits end in z zeros or more
  module _ (ρ h g o q z : ℕ) (log : Log ρ (suc h)) (small : h < 64) (inside_h : g ≤ h) (low : 2 ^ g ≤ o) (high : o ≤ 2 ^ suc g) (ends : whole_bits ρ h g o ≡ q * 2 ^ z) where
    K : ℕ
    K = (whole_binade ρ h log small).0

    binade : WholeBinade ρ h K
    unfolding K
    binade = (whole_binade ρ h log small).1

    pub wide_enough : g + ρ ≤ 59 → 5 + g + ρ ≤ n + z → (s : Bool) → (w : ℕ) × HasValue n s (o * 2 ^ (h - g + 307)) w
    wide_enough fine bound s = (
      word_of n s (q * 2 ^ (n + z - (5 + g + ρ))),
      word_of_string s (q * 2 ^ (n + z - (5 + g + ρ))) (whole_bits ρ h g o * 2 ^ (59 - ρ - g)) (o * 2 ^ (h - g + 307)) cut (mul-pos some (pow_pos (n + z - (5 + g + ρ))))
          (whole_below ρ h K binade g o inside_h low high fine) (whole_size ρ h K binade g o inside_h low high fine),
    )
      where
        some : zero < q
        some = some_factor q (2 ^ z) (subst (λ (x : ℕ). zero < x) ends (whole_some ρ h K binade g o inside_h low high fine))

        cut : q * 2 ^ (n + z - (5 + g + ρ)) * 2 ^ (64 - n) ≡ whole_bits ρ h g o * 2 ^ (59 - ρ - g)
        cut =
            mul_assoc q (2 ^ (n + z - (5 + g + ρ))) (2 ^ (64 - n)) ∙ ap (λ (x : ℕ). q * x) (pow_sum (n + z - (5 + g + ρ)) (64 - n) (z + (59 - ρ - g)) (omega (arith, bound, fine, hi)) ∙ sym (pow_sum z (59 - ρ - g) (z + (59 - ρ - g)) refl))
            ∙ sym (mul_assoc q (2 ^ z) (2 ^ (59 - ρ - g))) ∙ ap (λ (x : ℕ). x * 2 ^ (59 - ρ - g)) (sym ends)

    pub width_needed : q % 2 ≡ 1 → (s : Bool) (w : ℕ) → HasValue n s (o * 2 ^ (h - g + 307)) w → 5 + g + ρ ≤ n + z
    width_needed odd s w x = omega (arith, needed, hi)
      where
        place : Place n lo hi s (o * 2 ^ (h - g + 307)) w
        place = place_of n lo hi s (o * 2 ^ (h - g + 307)) w (mul-pos {m = o} {n = 2 ^ (h - g + 307)} (le_trans (pow_pos g) low) (pow_pos (h - g + 307))) x

        needed : 64 - n + g + ρ ≤ 59 + z
        needed = bits_needed ρ h K binade g o inside_h low high place.v (64 - n) (shl_below (n - 1) (64 - n) 63 place.last (omega (arith, lo, hi))) (sym (place.size_is ∙ grown_suc n place.v place.first)) q z odd ends
