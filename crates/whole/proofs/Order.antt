-- Taking out keeps the order of words: of two words, the one that isn't greater has the whole number that isn't greater. Assumes nothing.
use Rattle.std.specs.Prelude.{Ok}
use mathlib.Core.Path.{refl, sym, ◌∙◌, subst₂}
use Prim.Native.Nat.{ℕ, suc, ◌^◌}
use lib.IntN.{ℤ, pos, negsuc, nat_abs}
use lib.Pow.{pow_pos}
use Rattle.word.specs.Orders.{signed}
use Rattle.word.specs.Reads.{signed_size}
use Rattle.word.proofs.Signed.{order_above}
use Rattle.word.proofs.Values.{order_of_values}
use Rattle.write.specs.Writes.{is_negative}
use Rattle.round.proofs.Order.{NotGreater, both_positive, both_negative, apart, positive_sizes, negative_sizes}
use Rattle.whole.specs.declared.taking.Taking.{Taking}
use Rattle.whole.specs.Wholes.{IsNearestWhole, TakesWhole}
use Rattle.whole.proofs.NearestWholes.{sizes_in_order, its_sign, its_size}
use Rattle.whole.proofs.TakenOut.{taken_out}

wholes_in_order : (z z' x y : ℤ) → IsNearestWhole z x → IsNearestWhole z' y → NotGreater z z' → NotGreater x y
unfolding is_negative signed_size
wholes_in_order (pos a) (pos b) x y p q f = subst₂ NotGreater (sym (its_sign _ _ p)) (sym (its_sign _ _ q)) (both_positive (nat_abs x) (nat_abs y) (sizes_in_order (2 ^ 307) (pow_pos 307) _ _ _ _ (positive_sizes a b f) (its_size _ _ p) (its_size _ _ q)))
wholes_in_order (pos a) (negsuc b) x y p q f = absurd (f (order_above (pos a) (negsuc b) refl refl))
wholes_in_order (negsuc a) (pos b) x y p q f = subst₂ NotGreater (sym (its_sign _ _ p)) (sym (its_sign _ _ q)) (apart (nat_abs x) (nat_abs y))
wholes_in_order (negsuc a) (negsuc b) x y p q f = subst₂ NotGreater (sym (its_sign _ _ p)) (sym (its_sign _ _ q)) (both_negative (nat_abs x) (nat_abs y) (sizes_in_order (2 ^ 307) (pow_pos 307) _ _ _ _ (negative_sizes (suc a) (suc b) f) (its_size _ _ q) (its_size _ _ p)))

pub taking_keeps_order : (n : ℕ) (rule rule' : Taking) (w w' : ℕ) (x y : ℤ) → TakesWhole n rule w (Ok x) → TakesWhole n rule' w' (Ok y) → NotGreater (signed n w) (signed n w') → NotGreater x y
taking_keeps_order n rule rule' w w' x y p q f =
    let k = taken_out n rule w x p in
    let l = taken_out n rule' w' y q in
    wholes_in_order k.z l.z x y k.near l.near (λ e. f (order_of_values n w w' k.word l.word k.z l.z k.means l.means ∙ e))
