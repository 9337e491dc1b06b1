-- The strings of the whole numbers from 2^h to 2^(h + 1) begin alike and have evenly spaced sizes, the first string of the next binade included.
-- Assumes nothing.
use mathlib.Core.Path.{◌≡◌, refl, ap, subst}
use Prim.Native.Nat.{ℕ, suc, ◌+◌, ◌-◌, ◌*◌, ◌^◌, ◌≤◌, ◌<◌}
use native.Mathlib.Nat.{le_of_suc-le-suc, mul-le-mul_right, two-pow-succ}
use native.Mathlib.Omega.{arith}
use lib.IntN.{pos}
use Rattle.bounds.proofs.Powers.{Log, pow_sum}
use Rattle.bounds.proofs.Limits.{exponent_lt}
use Rattle.word.proofs.Sizes.{size}
use Rattle.nearest.specs.Parts.{IsRaised, Begins}
use Rattle.nearest.proofs.Starts.{upper_begins}
use Rattle.nearest.proofs.Strings.{Binade, binade_of, size_in_binade}

-- sign 0, direction 1, the regime ρ = floor(log2 (h + 1)) and the characteristic h
unfoldable pub beginning : ℕ → ℕ → ℕ
beginning ρ h = (7 + ρ) * 2 ^ ρ + suc h

-- 59 - ρ bits are left after the beginning, and the last of them stands for 2^K, counted in 2^-307
pub record WholeBinade (ρ h K : ℕ) : Type 0 where
  pub regime : ρ ≤ 6
  pub last : K + (59 - ρ) ≡ h + 307
  pub room : beginning ρ h * 2 ^ (59 - ρ) + 2 ^ (59 - ρ) < 2 ^ 63
  pub sizes : (f : ℕ) → f ≤ 2 ^ (59 - ρ) → size (beginning ρ h * 2 ^ (59 - ρ) + f) ≡ (2 ^ (59 - ρ) + f) * 2 ^ K

module _ (ρ h : ℕ) (log : Log ρ (suc h)) (small : h < 64) where
  short : ρ ≤ 6
  short = le_of_suc-le-suc (exponent_lt ρ 7 (omega (arith, log.low)))

  inside : beginning ρ h * 2 ^ (59 - ρ) + 2 ^ (59 - ρ) < 2 ^ 63
  unfolding beginning
  inside =
      let whole : 2 ^ ρ * 2 ^ (59 - ρ) ≡ 2 ^ 59 = pow_sum ρ (59 - ρ) 59 (omega (arith, short)) in
      omega (arith, short, whole, ap (λ (x : ℕ). ρ * x) whole, mul-le-mul_right {m = (7 + ρ) * 2 ^ ρ + suc h + 1} {n = (9 + ρ) * 2 ^ ρ} (2 ^ (59 - ρ)) (omega (arith, log.high, two-pow-succ ρ)))

  strings : (K : ℕ) × Binade (pos h) (h + 255) (beginning ρ h) (59 - ρ) K
  unfolding IsRaised beginning
  strings =
      let less : suc h - 1 ≡ h = omega arith in
      binade_of (pos h) (h + 255) (beginning ρ h) ρ refl
      (subst (λ (c : ℕ). Begins (pos c) (beginning ρ h) ρ) less (upper_begins ρ (suc h) log (omega (arith, small))))

  pub whole_binade : (K : ℕ) × WholeBinade ρ h K
  whole_binade = (
    strings.0,
    record {
      regime = short;
      last = omega (arith, strings.1.last);
      room = inside;
      sizes = λ f b. size_in_binade (pos h) (h + 255) (beginning ρ h) (59 - ρ) strings.0 strings.1 f b (omega (arith, b, inside));
    },
  )
