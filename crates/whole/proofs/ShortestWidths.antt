-- The shortest width, from where a number's words begin. Assumes nothing.
use Rattle.std.specs.Prelude.{Ok, Err}
use mathlib.Core.Path.{◌≡◌, refl}
use Prim.Native.Nat.{ℕ, zero, suc, ◌≤◌, ◌<◌, ◌^◌}
use native.Mathlib.Nat.{le_of_eq, zero-lt-suc}
use native.Mathlib.Omega.{arith}
use lib.Dec.{lit≤}
use lib.IntN.{ℤ, pos, negsuc, nat_abs}
use Rattle.bounds.specs.declared.refusal.Refusal.{Refusal}
use Rattle.write.specs.Writes.{is_negative}
use Rattle.round.proofs.Rules.{zero_value}
use Rattle.whole.specs.Shortest.{HasWord, IsShortest, GivesShortest}
use Rattle.whole.specs.Parts.{IsLength}
use Rattle.whole.proofs.Lengths.{BeginsAt, begins_at}

-- a number but 0 has a size
pub has_size : (x : ℤ) → (x ≡ pos 0 → ⊥) → zero < nat_abs x
has_size (pos zero) f = absurd (f refl)
has_size (pos (suc i)) f = zero-lt-suc i
has_size (negsuc i) f = zero-lt-suc i

pub given_for_zero : GivesShortest (pos 0) (Ok (record { bits = 2 }))
unfolding GivesShortest HasWord
given_for_zero = record { least = lit≤ tt; most = lit≤ tt; has = (0, zero_value 2 (lit≤ tt) (lit≤ tt) (is_negative (pos 0))); none_shorter = λ k lo l x. omega (arith, lo, l) }

-- ---- a number whose words begin at l
module _ (x : ℤ) (l : ℕ) (begins : BeginsAt (nat_abs x) l) where
  has_from : (n : ℕ) → 2 ≤ n → n ≤ 64 → l ≤ n → HasWord n x
  unfolding HasWord
  has_from n lo hi le = begins.has n lo hi le (is_negative x)

  none_below : (n : ℕ) → 2 ≤ n → n ≤ 64 → HasWord n x → l ≤ n
  unfolding HasWord
  none_below n lo hi w = begins.none n lo hi (is_negative x) w.0 w.1

  shortest_at : l ≤ 64 → IsShortest x l
  shortest_at hi = record { least = begins.least; most = hi; has = has_from l begins.least hi (le_of_eq refl); none_shorter = λ k lo less w. omega (arith, less, none_below k lo (omega (arith, less, hi)) w) }

  -- so l is the answer, and where it is past 64 there is none
  pub given_at : l ≤ 64 → GivesShortest x (Ok (record { bits = l }))
  unfolding GivesShortest
  given_at hi = shortest_at hi

  pub refused_past : 64 < l → GivesShortest x (Err Refusal.Inexact)
  unfolding GivesShortest
  refused_past past = (refl, λ n lo hi w. omega (arith, past, hi, none_below n lo hi w))

pub begins : (x : ℤ) (l : ℕ) → nat_abs x < 2 ^ 64 → IsLength (nat_abs x) l → BeginsAt (nat_abs x) l
unfolding IsLength
begins x l fits y = begins_at (nat_abs x) l y.0 fits y.1
