-- What is said hangs on the value alone: both parts of its fraction times one number change nothing. Assumes nothing.
use mathlib.Core.Path.{◌≡◌, sym, ap, ◌∙◌, subst}
use mathlib.Core.Bool.{Bool, true, false}
use Prim.Native.Nat.{ℕ, suc, ◌*◌, ◌<◌}
use native.Mathlib.Nat.{mul_assoc, mul-lt-mul_of_pos_right, lt_of_mul-lt-mul_right, zero-mul}
use lib.IntN.{ℤ, pos, negsuc, neg_ℤ, ◌*ℤ◌}
use Rattle.bounds.specs.declared.saying.Saying.{Saying}
use Rattle.bounds.specs.declared.saying.Saying.TheVariants.{Exact, Below, Above, PastTheEnd}
use Rattle.word.specs.Orders.{order}
use Rattle.word.specs.Reads.{signed_size}
use Rattle.word.proofs.Integers.{neg_mul}
use Rattle.nearest.specs.Sayings.{Against, IsPastTheEnd, beyond, short, Says}
use Rattle.round.proofs.Order.{order_times}

module _ (n : ℕ) (s : Bool) (a b c : ℕ) (some : 0 < c) where
  same_order : (x : ℤ) → order (x *ℤ pos b) (signed_size s a) ≡ order (x *ℤ pos (b * c)) (signed_size s (a * c))
  unfolding signed_size
  same_order (pos i) = order_times false s (i * b) a c some ∙ ap (λ (y : ℕ). order (pos y) (signed_size s (a * c))) (mul_assoc i b c)
  same_order (negsuc i) =
      ap (λ (y : ℤ). order y (signed_size s a)) (neg_mul (suc i) b) ∙ order_times true s (suc i * b) a c some ∙ ap (λ (y : ℕ). order (neg_ℤ (pos y)) (signed_size s (a * c))) (mul_assoc (suc i) b c) ∙ ap (λ (y : ℤ). order y (signed_size s (a * c))) (sym (neg_mul (suc i) (b * c)))

  against_times : (w : ℕ) (way : ℤ) → Against n s a b w way → Against n s (a * c) (b * c) w way
  against_times w way x = record { x = x.x; means = x.means; is = sym (same_order x.x) ∙ x.is }

  against_reduced : (w : ℕ) (way : ℤ) → Against n s (a * c) (b * c) w way → Against n s a b w way
  against_reduced w way x = record { x = x.x; means = x.means; is = same_order x.x ∙ x.is }

  past_times : IsPastTheEnd n a b → IsPastTheEnd n (a * c) (b * c)
  past_times (beyond z is l) = beyond z is (subst (λ (y : ℕ). y < a * c) (mul_assoc z b c) (mul-lt-mul_of_pos_right l some))
  past_times (short z is p l) = short z is (subst (λ (y : ℕ). y < a * c) (zero-mul c) (mul-lt-mul_of_pos_right p some)) (subst (λ (y : ℕ). a * c < y) (mul_assoc z b c) (mul-lt-mul_of_pos_right l some))

  past_reduced : IsPastTheEnd n (a * c) (b * c) → IsPastTheEnd n a b
  past_reduced (beyond z is l) = beyond z is (lt_of_mul-lt-mul_right c (subst (λ (y : ℕ). y < a * c) (sym (mul_assoc z b c)) l))
  past_reduced (short z is p l) = short z is (lt_of_mul-lt-mul_right c (subst (λ (y : ℕ). y < a * c) (sym (zero-mul c)) p)) (lt_of_mul-lt-mul_right c (subst (λ (y : ℕ). a * c < y) (sym (mul_assoc z b c)) l))

  pub says_times : (w : ℕ) (q : Saying) → Says n s a b w q → Says n s (a * c) (b * c) w q
  unfolding Says
  says_times w Exact x = against_times w (pos 0) x
  says_times w Below x = (λ p. x.0 (past_reduced p), against_times w (negsuc 0) x.1)
  says_times w Above x = (λ p. x.0 (past_reduced p), against_times w (pos 1) x.1)
  says_times w PastTheEnd x = past_times x

  pub says_reduced : (w : ℕ) (q : Saying) → Says n s (a * c) (b * c) w q → Says n s a b w q
  unfolding Says
  says_reduced w Exact x = against_reduced w (pos 0) x
  says_reduced w Below x = (λ p. x.0 (past_times p), against_reduced w (negsuc 0) x.1)
  says_reduced w Above x = (λ p. x.0 (past_times p), against_reduced w (pos 1) x.1)
  says_reduced w PastTheEnd x = past_reduced x
