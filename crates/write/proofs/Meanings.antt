-- What is written for the size of what a word means, and said of it, is what is written for its meaning, and the other way. Assumes nothing.
use Rattle.bounds.specs.Refusals.{Answer}
use mathlib.Core.Path.{◌≡◌, sym, subst, subst₂}
use mathlib.Core.Bool.{Bool, true, false}
use Prim.Native.Nat.{ℕ, zero, suc, ◌*◌, ◌<◌}
use native.Mathlib.Nat.{zero-mul, one-mul, mul-pos, lt_of_lt_of_le}
use native.Mathlib.Omega.{arith}
use lib.IntN.{ℤ, pos, ◌+ℤ◌, ◌-ℤ◌}
use lib.Pow.{pow_pos}
use Rattle.word.specs.Takum.{Takum, real}
use Rattle.word.specs.Reads.{num, den, IsSize, IsNumber, signed_size}
use Rattle.bounds.specs.declared.saying.Saying.{Saying}
use Rattle.word.proofs.Units.{unit_some}
use Rattle.nearest.specs.Sayings.{Says}
use Rattle.round.specs.declared.value.Rule.{Rule}
use Rattle.round.specs.Writes.{IsWritten}
use Rattle.round.proofs.Scales.{written_times, written_reduced}
use Rattle.round.proofs.Sayings.{says_times, says_reduced}
use Rattle.write.specs.Writes.{is_negative, IsMoved}
use Rattle.write.specs.Sayings.{SaysMoved}

-- a size that isn't nothing, in any unit
pub size_some : (m v : ℕ) (e : ℤ) → 0 < m → m * num e ≡ v * den e → 0 < v
size_some m zero e h q = absurd (omega (arith, q, zero-mul (den e), mul-pos h (unit_some e).0))
size_some m (suc i) e h q = omega arith

-- what is written for the size of what a word means is what is written for its meaning, and the other way
module _ (n : ℕ) (rule : Rule) (r : Answer ℕ) where
  moved : (s : Bool) (v : ℕ) → 0 < v → IsWritten n rule s v 1 r → IsMoved n rule (real (signed_size s v)) r
  unfolding IsMoved is_negative signed_size
  moved false v h y = y
  moved true (suc i) h y = y
  moved true zero h y = absurd (omega (arith, h))

  of_meaning : (s : Bool) (v : ℕ) → 0 < v → IsMoved n rule (real (signed_size s v)) r → IsWritten n rule s v 1 r
  unfolding IsMoved is_negative signed_size
  of_meaning false v h y = y
  of_meaning true (suc i) h y = y
  of_meaning true zero h y = absurd (omega (arith, h))

  pub number_moved : (t : Takum) (k : ℕ) (s : Bool) (h : ℤ) (m p : ℕ) (x : IsNumber t k s h m p) → IsWritten n rule s (m * num (h -ℤ pos p +ℤ pos 307)) (den (h -ℤ pos p +ℤ pos 307)) r → IsMoved n rule t r
  unfolding IsSize
  number_moved t k s h m p x y =
      let e = h -ℤ pos p +ℤ pos 307 in
      let some = size_some m x.v e (lt_of_lt_of_le (pow_pos p) x.low) x.size in
      subst (λ (t : Takum). IsMoved n rule t r) (sym x.means) (moved s x.v some (written_reduced n s x.v 1 (den e) (unit_some e).1 rule r (subst₂ (λ (a b : ℕ). IsWritten n rule s a b r) x.size (sym (one-mul (den e))) y)))

  pub number_written : (t : Takum) (k : ℕ) (s : Bool) (h : ℤ) (m p : ℕ) (x : IsNumber t k s h m p) → IsMoved n rule t r → IsWritten n rule s (m * num (h -ℤ pos p +ℤ pos 307)) (den (h -ℤ pos p +ℤ pos 307)) r
  unfolding IsSize
  number_written t k s h m p x y =
      let e = h -ℤ pos p +ℤ pos 307 in
      let some = size_some m x.v e (lt_of_lt_of_le (pow_pos p) x.low) x.size in
      subst₂ (λ (a b : ℕ). IsWritten n rule s a b r) (sym x.size) (one-mul (den e)) (written_times n s x.v 1 (den e) (unit_some e).1 rule r (of_meaning s x.v some (subst (λ (t : Takum). IsMoved n rule t r) x.means y)))

-- the same of what is said
module _ (n w : ℕ) (q : Saying) where
  said_moved : (s : Bool) (v : ℕ) → 0 < v → Says n s v 1 w q → SaysMoved n (real (signed_size s v)) w q
  unfolding SaysMoved is_negative signed_size
  said_moved false v h y = y
  said_moved true (suc i) h y = y
  said_moved true zero h y = absurd (omega (arith, h))

  said_of_meaning : (s : Bool) (v : ℕ) → 0 < v → SaysMoved n (real (signed_size s v)) w q → Says n s v 1 w q
  unfolding SaysMoved is_negative signed_size
  said_of_meaning false v h y = y
  said_of_meaning true (suc i) h y = y
  said_of_meaning true zero h y = absurd (omega (arith, h))

  pub number_said : (t : Takum) (k : ℕ) (s : Bool) (h : ℤ) (m p : ℕ) (x : IsNumber t k s h m p) → Says n s (m * num (h -ℤ pos p +ℤ pos 307)) (den (h -ℤ pos p +ℤ pos 307)) w q → SaysMoved n t w q
  unfolding IsSize
  number_said t k s h m p x y =
      let e = h -ℤ pos p +ℤ pos 307 in
      let some = size_some m x.v e (lt_of_lt_of_le (pow_pos p) x.low) x.size in
      subst (λ (t : Takum). SaysMoved n t w q) (sym x.means) (said_moved s x.v some (says_reduced n s x.v 1 (den e) (unit_some e).1 w q (subst₂ (λ (a b : ℕ). Says n s a b w q) x.size (sym (one-mul (den e))) y)))

  pub said_number : (t : Takum) (k : ℕ) (s : Bool) (h : ℤ) (m p : ℕ) (x : IsNumber t k s h m p) → SaysMoved n t w q → Says n s (m * num (h -ℤ pos p +ℤ pos 307)) (den (h -ℤ pos p +ℤ pos 307)) w q
  unfolding IsSize
  said_number t k s h m p x y =
      let e = h -ℤ pos p +ℤ pos 307 in
      let some = size_some m x.v e (lt_of_lt_of_le (pow_pos p) x.low) x.size in
      subst₂ (λ (a b : ℕ). Says n s a b w q) (sym x.size) (one-mul (den e)) (says_times n s x.v 1 (den e) (unit_some e).1 w q (said_of_meaning s x.v some (subst (λ (t : Takum). SaysMoved n t w q) x.means y)))
