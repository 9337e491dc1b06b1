-- The value of a whole number: the nearest whole number is the number itself, and by either rule the number itself is taken out. Assumes nothing.
use Rattle.std.specs.Prelude.{Ok}
use Rattle.bounds.specs.Refusals.{passed}
use mathlib.Core.Path.{◌≡◌, refl, sym, ap, ◌∙◌, subst}
use mathlib.Core.Bool.{Bool, true, false}
use Prim.Native.Nat.{ℕ, zero, suc, ◌*◌, ◌^◌}
use borrow.Author.Tests.{eq-eqb}
use lib.IntN.{ℤ, nat_abs}
use lib.Pow.{pow_pos}
use Rattle.word.specs.Takum.{real}
use Rattle.word.specs.Reads.{signed_size}
use Rattle.word.proofs.Values.{absolute}
use Rattle.write.specs.Writes.{is_negative}
use Rattle.write.proofs.Moves.{rejoined}
use Rattle.whole.specs.declared.taking.Taking.{Taking}
use Rattle.whole.specs.Wholes.{IsNearestWhole, over_test, IsTakenWhole}
use Rattle.whole.specs.Parts.{by_rule}
use Rattle.whole.proofs.NearestWholes.{itself, nearest_whole, its_sign}
use Rattle.whole.proofs.Answers.{taken_inside}

-- the whole number x is the value x * 2^307 * 2^-307
unfoldable pub value_of : ℤ → ℤ
value_of x = signed_size (is_negative x) (nat_abs x * 2 ^ 307)

pub is_its_nearest : (x : ℤ) → IsNearestWhole (value_of x) x
unfolding value_of
is_its_nearest x = subst (IsNearestWhole (value_of x)) (rejoined x) (nearest_whole (is_negative x) (nat_abs x * 2 ^ 307) (nat_abs x) (itself (2 ^ 307) (pow_pos 307) (nat_abs x)))

pub signed_value : (s : Bool) (i : ℕ) → value_of (signed_size s i) ≡ signed_size s (i * 2 ^ 307)
unfolding value_of signed_size is_negative
signed_value false i = refl
signed_value true zero = refl
signed_value true (suc i) = refl

-- a value that is as large as the nearest whole number is that number's
pub exact_value : (z x : ℤ) → IsNearestWhole z x → nat_abs x * 2 ^ 307 ≡ nat_abs z → z ≡ value_of x
exact_value z x near q = sym (ap value_of (its_sign z x near) ∙ signed_value (is_negative z) (nat_abs x) ∙ ap (signed_size (is_negative z)) q ∙ rejoined z)

-- where nothing is lost both rules answer alike
pub exactly : (rule : Taking) (x : ℤ) → by_rule rule true x ≡ Ok x
unfolding by_rule
exactly Taking.Nearest x = refl
exactly Taking.Strict x = refl

pub taken_as_itself : (rule : Taking) (x : ℤ) → over_test x ≡ passed → IsTakenWhole rule (real (value_of x)) (Ok x)
unfolding value_of
taken_as_itself rule x h = subst (IsTakenWhole rule (real (value_of x))) (exactly rule x) (taken_inside rule (value_of x) x true (is_its_nearest x) h (sym (eq-eqb (nat_abs x * 2 ^ 307) (nat_abs (value_of x)) (sym (absolute (is_negative x) (nat_abs x * 2 ^ 307))))))
