-- The string of the whole number o * 2^(h - g), which lies from 2^h to 2^(h + 1), o having g bits after its leading one: the beginning, those g bits, and
-- zeros. Assumes nothing.
use mathlib.Core.Path.{◌≡◌, ap, ◌∙◌}
use Prim.Native.Nat.{ℕ, zero, suc, ◌+◌, ◌-◌, ◌*◌, ◌^◌, ◌≤◌, ◌<◌}
use native.Mathlib.Nat.{le_trans, le_of_eq, le-add_right, mul_assoc, mul-pos, mul-le-mul_right, two-pow-succ}
use native.Mathlib.Omega.{arith}
use lib.Pow.{pow_pos}
use Rattle.bounds.proofs.Powers.{pow_sum}
use Rattle.word.proofs.Sizes.{size}
use Rattle.whole.proofs.LimitBinades.{beginning, WholeBinade}

-- without the zeros; where o is 2^(g + 1) it carries into the beginning
unfoldable pub whole_bits : ℕ → ℕ → ℕ → ℕ → ℕ
whole_bits ρ h g o = beginning ρ h * 2 ^ g + (o - 2 ^ g)

module _ (ρ h K : ℕ) (binade : WholeBinade ρ h K) (g o : ℕ) (inside_h : g ≤ h) (low : 2 ^ g ≤ o) (high : o ≤ 2 ^ suc g) (fine : g + ρ ≤ 59) where
  zeros : ℕ
  zeros = 2 ^ (59 - ρ - g)

  together : 2 ^ g * zeros ≡ 2 ^ (59 - ρ)
  unfolding zeros
  together = pow_sum g (59 - ρ - g) (59 - ρ) (omega (arith, fine))

  inside : (o - 2 ^ g) * zeros ≤ 2 ^ (59 - ρ)
  inside = le_trans (mul-le-mul_right {m = o - 2 ^ g} {n = 2 ^ g} zeros (omega (arith, high, two-pow-succ g))) (le_of_eq together)

  string : whole_bits ρ h g o * zeros ≡ beginning ρ h * 2 ^ (59 - ρ) + (o - 2 ^ g) * zeros
  unfolding whole_bits
  string = omega (arith, ap (λ (x : ℕ). beginning ρ h * x) together)

  pub whole_some : zero < whole_bits ρ h g o
  unfolding whole_bits beginning
  whole_some = le_trans (mul-pos {m = beginning ρ h} {n = 2 ^ g} (omega arith) (pow_pos g)) (le-add_right (beginning ρ h * 2 ^ g) (o - 2 ^ g))

  pub whole_below : whole_bits ρ h g o * 2 ^ (59 - ρ - g) < 2 ^ 63
  unfolding zeros
  whole_below = omega (arith, string, inside, binade.room)

  pub whole_size : size (whole_bits ρ h g o * 2 ^ (59 - ρ - g)) ≡ o * 2 ^ (h - g + 307)
  unfolding zeros
  whole_size =
      ap size string ∙ binade.sizes ((o - 2 ^ g) * zeros) inside ∙ ap (λ (x : ℕ). x * 2 ^ K) significand
      ∙ mul_assoc o zeros (2 ^ K) ∙ ap (λ (x : ℕ). o * x) (pow_sum (59 - ρ - g) K (h - g + 307) (omega (arith, binade.last, fine, inside_h)))
    where
      whole : 2 ^ g + (o - 2 ^ g) ≡ o
      whole = omega (arith, low)

      significand : 2 ^ (59 - ρ) + (o - 2 ^ g) * zeros ≡ o * zeros
      significand = omega (arith, together, ap (λ (x : ℕ). x * zeros) whole)
