-- Whole numbers in and out (paper 01, "Whole numbers and binary64"; paper 02, Wish 2), as properties of the word or of the whole number that is given.
use Rattle.std.specs.Prelude.{Ok, Err, ◌≡◌, ◌⊎◌, ℕ, suc, ◌*◌, ◌%◌, ◌^◌, ◌≤◌, eqb, leb, ltb, ℤ, pos, negsuc, nat_abs, ◌-ℤ◌, ◌*ℤ◌}
use Rattle.bounds.specs.declared.refusal.Refusal.{Refusal}
use Rattle.word.specs.Takum.{Takum, real, NaR, takum}
use Rattle.bounds.specs.Refusals.{Answer, Verdict, passed, unless, width_test, word_test, ◌then◌, Decided}
use Rattle.round.specs.declared.value.Rule.{Rule}
use Rattle.round.specs.Writes.{IsWritten}
use Rattle.write.specs.Writes.{is_negative}
use Rattle.whole.specs.declared.taking.Taking.{Taking}

-- how far the whole number x is off the value z * 2^-307, counted in 2^-307
unfoldable pub off_by : ℤ → ℤ → ℕ
off_by z x = nat_abs (z -ℤ x *ℤ pos (2 ^ 307))

-- x is the whole number nearest to the value z * 2^-307: no whole number is nearer, and where another one is equally near, x is the even one.
pub record IsNearestWhole (z x : ℤ) : Type 0 where
  pub nearest : (y : ℤ) → off_by z x ≤ off_by z y
  pub even : (y : ℤ) → off_by z x ≡ off_by z y → (y ≡ x) ⊎ (nat_abs x % 2 ≡ 0)

-- 5 OVER: the whole number falls outside signed 64 bits, -2^63 to 2^63 - 1
unfoldable pub over_test : ℤ → Verdict
over_test (pos i) = unless Refusal.Over (ltb i (2 ^ 63))
over_test (negsuc i) = unless Refusal.Over (leb (suc i) (2 ^ 63))

-- 4 INEXACT: strict, and the value z * 2^-307 isn't whole, x being the whole number nearest to it
unfoldable pub inexact_test : Taking → ℤ → ℤ → Verdict
inexact_test Taking.Nearest z x = passed
inexact_test Taking.Strict z x = unless Refusal.Inexact (eqb (nat_abs x * 2 ^ 307) (nat_abs z))

-- what the rule gives for what a word means: NAR, then OVER, then INEXACT
unfoldable pub IsTakenWhole : Taking → Takum → Answer ℤ → Type 0
IsTakenWhole rule NaR a = a ≡ Err Refusal.Nar
IsTakenWhole rule (real z) a = (x : ℤ) × IsNearestWhole z x × Decided (over_test x then inexact_test rule z x) (λ q. a ≡ Err q) (a ≡ Ok x)

-- ---- what the calls answer
-- WIDTH, then INEXACT; the whole number x is the value x * 2^307 * 2^-307
unfoldable pub WritesWhole : ℕ → Rule → ℤ → Answer ℕ → Type 0
WritesWhole n rule x r = Decided (width_test n) (λ q. r ≡ Err q) (IsWritten n rule (is_negative x) (nat_abs x * 2 ^ 307) 1 r)

-- WIDTH, then STRAY, then NAR, OVER and INEXACT
unfoldable pub TakesWhole : ℕ → Taking → ℕ → Answer ℤ → Type 0
TakesWhole n rule w a = Decided (word_test n w) (λ q. a ≡ Err q) (IsTakenWhole rule (takum n w) a)
