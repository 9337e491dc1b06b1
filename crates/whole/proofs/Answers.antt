-- What is answered for a value, once the whole number nearest to it is known: the range, and then the rule. Assumes nothing.
use Rattle.std.specs.Prelude.{Err}
use mathlib.Core.Path.{◌≡◌, refl, ap}
use mathlib.Core.Bool.{Bool, true, false}
use Prim.Native.Nat.{ℕ, zero, suc, ◌*◌, ◌^◌, ◌≤◌, ◌<◌}
use native.Mathlib.Nat.{le_of_lt}
use native.Mathlib.Omega.{arith}
use borrow.Author.Tests.{lt-ltb, le-ltb, le-leb, lt-leb}
use lib.Dec.{eqb}
use lib.IntN.{ℤ, nat_abs}
use Rattle.bounds.specs.declared.refusal.Refusal.{Refusal}
use Rattle.bounds.specs.Refusals.{passed, Verdict, ◌then◌, through, refused}
use Rattle.word.specs.Takum.{real}
use Rattle.word.specs.Reads.{signed_size}
use Rattle.whole.specs.declared.taking.Taking.{Taking}
use Rattle.whole.specs.Wholes.{IsNearestWhole, over_test, inexact_test, IsTakenWhole}
use Rattle.whole.specs.Parts.{by_rule}

-- ---- the range: sizes below 2^63, and -2^63
pub inside : (s : Bool) (i : ℕ) → i < 2 ^ 63 → over_test (signed_size s i) ≡ passed
unfolding over_test signed_size
inside false i h = rw (lt-ltb i (2 ^ 63) h)
inside true zero h = refl
inside true (suc i) h = rw (le-leb (suc i) (2 ^ 63) (le_of_lt h))

pub least_inside : over_test (signed_size true (2 ^ 63)) ≡ passed
unfolding over_test signed_size
least_inside = refl

pub outside : (s : Bool) (i : ℕ) → 2 ^ 63 < i → over_test (signed_size s i) ≡ Err Refusal.Over
unfolding over_test signed_size
outside false i h = rw (le-ltb i (2 ^ 63) (le_of_lt h))
outside true zero h = absurd (omega (arith, h))
outside true (suc i) h = rw (lt-leb (suc i) (2 ^ 63) h)

pub outside_above : (i : ℕ) → 2 ^ 63 ≤ i → over_test (signed_size false i) ≡ Err Refusal.Over
unfolding over_test signed_size
outside_above i h = rw (le-ltb i (2 ^ 63) h)

-- ---- the rule
pub taken_inside : (rule : Taking) (z x : ℤ) (b : Bool) → IsNearestWhole z x → over_test x ≡ passed → b ≡ eqb (nat_abs x * 2 ^ 307) (nat_abs z) → IsTakenWhole rule (real z) (by_rule rule b x)
unfolding IsTakenWhole by_rule inexact_test
taken_inside Taking.Nearest z x b near h q = (x, near, through (ap (λ (v : Verdict). v then passed) h) refl)
taken_inside Taking.Strict z x true near h q = (x, near, through (rw (h, ← q)) refl)
taken_inside Taking.Strict z x false near h q = (x, near, refused {q = Refusal.Inexact} (rw (h, ← q)) refl)

pub taken_over : (rule : Taking) (z x : ℤ) → IsNearestWhole z x → over_test x ≡ Err Refusal.Over → IsTakenWhole rule (real z) (Err Refusal.Over)
unfolding IsTakenWhole
taken_over rule z x near h = (x, near, refused (ap (λ (v : Verdict). v then inexact_test rule z x) h) refl)
