-- The promises that specs/Words.antt states, from the laws of words. Assumes nothing.
use mathlib.Core.Path.{refl, ap, ◌∙◌}
use Prim.Native.Nat.{ℕ, ◌-◌, ◌^◌, ◌≤◌, ◌<◌, max}
use native.Mathlib.Omega.{arith}
use Rattle.bounds.specs.Refusals.{IsWord}
use Rattle.bounds.specs.Widths.{nar_word}
use Rattle.bounds.proofs.Powers.{shl_below}
use Rattle.word.specs.Takum.{regime_of, characteristic_of, real, S, D, R, r, p, C, F, c, N, padded}
use Rattle.word.proofs.Meaning.{value_at, exponent_whole}
use Rattle.word.proofs.Numbers.{characteristic_of_string}
use Rattle.word.proofs.Values.{value_below}
use Rattle.word.proofs.Words.{takum_number}
use Rattle.nearest.proofs.Exponents.{raise}
use Rattle.promises.specs.Words as promise
use Rattle.promises.specs.Words.{IsFromMinus255To254}

pub c_runs_from_minus_255_to_254 : promise.CRunsFromMinus255To254
unfolding promise.CRunsFromMinus255To254 IsFromMinus255To254 c C D R r p regime_of characteristic_of
c_runs_from_minus_255_to_254 = (every, refl, refl)
  where
    every : (n w : ℕ) → IsWord n w → IsFromMinus255To254 (c (N n) (padded n w))
    every n w i = let t = raise (c (N n) (padded n w)) (characteristic_of_string (N n) (padded n w)) in (t.0, t.1, omega (arith, t.2))

-- the string of a word has at least 12 bits and at most 64
module _ (n w : ℕ) (i : IsWord n w) where
  long : 12 ≤ N n
  unfolding N
  long = omega arith

  short : N n ≤ 64
  unfolding N
  short = omega (arith, i.most)

  string : padded n w < 2 ^ N n
  unfolding N padded
  string = shl_below n (max n 12 - n) (max n 12) i.fits (omega arith)

pub every_value_is_a_whole_multiple : promise.EveryValueIsAWholeMultiple
unfolding promise.EveryValueIsAWholeMultiple nar_word
every_value_is_a_whole_multiple n w i f g =
    let t = exponent_whole (N n) (padded n w) (long n w i) (short n w i) (string n w i) in
    record { K = t.0; exponent = t.1; is = takum_number n w i.least i.most i.fits f g ∙ ap real (value_at (N n) (padded n w) (S (N n) (padded n w)) (p (N n) (padded n w)) (F (N n) (padded n w)) t.0 refl refl refl t.1) }

pub every_value_is_below_2_to_255 : promise.EveryValueIsBelow2To255
unfolding promise.EveryValueIsBelow2To255
every_value_is_below_2_to_255 n w z i q = value_below n w z i q
