-- What is written for the value of a bit pattern, and said of it: whatever turns on the value alone is so of the pattern's number. Assumes nothing.
use Rattle.std.specs.Prelude.{Ok}
use Rattle.bounds.specs.Refusals.{Answer}
use mathlib.Core.Path.{◌≡◌, refl, sym, ap, ◌∙◌, subst}
use mathlib.Core.Bool.{Bool}
use Prim.Native.Nat.{ℕ, ◌+◌, ◌-◌, ◌*◌, ◌^◌, ◌≤◌, ◌<◌}
use native.Mathlib.Nat.{add-zero, mul_assoc, mul_comm, mul_right_comm}
use native.Mathlib.Omega.{arith}
use lib.IntN.{ℤ, pos, negsuc, ◌+ℤ◌, ◌-ℤ◌, +ℤ_assoc}
use lib.Pow.{pow-add, pow_pos}
use lib.Ieee.{Float, nan, inf, fin, binary64, up, down, of_bits}
use lib.Ieee.Exact.{HasValue}
use lib.Ieee.Fits.{down_pos}
use Rattle.word.specs.Reads.{num, den}
use Rattle.bounds.specs.Widths.{nar_word}
use Rattle.bounds.specs.declared.saying.Saying.{Saying}
use Rattle.bounds.specs.declared.saying.Saying.TheVariants.{Exact}
use Rattle.word.proofs.Integers.{sub_add}
use Rattle.word.proofs.Signed.{difference}
use Rattle.nearest.specs.Sayings.{Says}
use Rattle.round.specs.declared.value.Rule.{Rule}
use Rattle.round.specs.Writes.{IsWritten}
use Rattle.word.proofs.Units.{unit_some}
use Rattle.nearest.proofs.Exponents.{shift}
use Rattle.binary64.specs.Writes.{IsWrittenBinary64}
use Rattle.binary64.specs.Sayings.{SaysBinary64}
use Rattle.binary64.proofs.Fractions.{written_same, said_same}
use Rattle.binary64.proofs.Patterns.{sign_bit, field, digits, lead, lead_small, Unbounded, is_nan, is_inf, pattern_value}

-- ---- NaN and the infinities
pub unbounded_written : (n : ℕ) (rule : Rule) (r : Answer ℕ) (x : Float) → Unbounded x → r ≡ Ok (nar_word n) → IsWrittenBinary64 n rule x r
unfolding IsWrittenBinary64
unbounded_written n rule r nan is_nan q = q
unbounded_written n rule r (inf s) is_inf q = q
unbounded_written n rule r (fin _ _ _) u q = elim u [ ]

pub unbounded_said : (n w : ℕ) (x : Float) → Unbounded x → SaysBinary64 n x w Exact
unfolding SaysBinary64
unbounded_said n w nan is_nan = refl
unbounded_said n w (inf s) is_inf = refl
unbounded_said n w (fin _ _ _) u = elim u [ ]

-- ---- P is of a sign and a fraction, turns on the value alone, and is so of a finite number where Q is
module _ (P : Bool → ℕ → ℕ → Type 0) (same : (s : Bool) (a b a' b' : ℕ) → 0 < b → 0 < b' → a * b' ≡ a' * b → P s a b → P s a' b') (Q : Float → Type 0) (finite : (s : Bool) (m : ℕ) (e : ℤ) → P s (m * up e * 2 ^ 307) (down e) → Q (fin s m e)) where
  -- a finite value by any fraction a / c that it equals
  by_value : (x : Float) (s : Bool) (a c : ℕ) → 0 < c → HasValue x s a c → P s (a * 2 ^ 307) c → Q x
  by_value nan s a c some h x = absurd h
  by_value (inf t) s a c some h x = absurd h
  by_value (fin t m e) s a c some h x =
      finite t m e
      (subst (λ (t : Bool). P t (m * up e * 2 ^ 307) (down e)) (sym h.0)
      (same s (a * 2 ^ 307) c (m * up e * 2 ^ 307) (down e) some (down_pos e)
      (mul_right_comm a (2 ^ 307) (down e) ∙ ap (λ (z : ℕ). z * 2 ^ 307) (sym h.1) ∙ mul_right_comm (m * up e) c (2 ^ 307)) x))

  -- the exponent as the code makes it from the field x and its leading digit l, counted in 2^-307 and raised by 1074
  raised : (x l : ℕ) → l ≤ 1 → l ≤ x → pos (x + (1 - l)) -ℤ pos 1075 +ℤ pos 307 +ℤ pos 1074 ≡ pos (x - l + 307)
  raised x l h g = +ℤ_assoc (pos (x + (1 - l)) -ℤ pos 1075) (pos 307) (pos 1074) ∙ sub_add (pos (x + (1 - l))) (pos 1075) (pos 1381) ∙ difference (x + (1 - l) + 1381) 1075 (omega arith) ∙ ap pos count
    where
      count : x + (1 - l) + 1381 - 1075 ≡ x - l + 307
      count = omega (arith, h, g)

  by_pattern : (b : ℕ) → (field b ≡ 2047 → ⊥) → P (sign_bit b) ((digits b + lead (field b) * 2 ^ 52) * num (pos (field b + (1 - lead (field b))) -ℤ pos 1075 +ℤ pos 307)) (den (pos (field b + (1 - lead (field b))) -ℤ pos 1075 +ℤ pos 307)) → Q (of_bits binary64 b)
  by_pattern b h x =
      let l = lead (field b) in
      let m = digits b + l * 2 ^ 52 in
      let k = pos (field b + (1 - l)) -ℤ pos 1075 +ℤ pos 307 in
      let t = field b - l in
      by_value (of_bits binary64 b) (sign_bit b) (m * 2 ^ t) (2 ^ 1074) (pow_pos 1074) (pattern_value b h)
      (same (sign_bit b) (m * num k) (den k) (m * 2 ^ t * 2 ^ 307) (2 ^ 1074) (unit_some k).1 (pow_pos 1074)
      (mul_assoc m (num k) (2 ^ 1074)
      ∙ ap (λ (z : ℕ). m * z) (mul_comm (num k) (2 ^ 1074) ∙ sym (shift k 1074 (t + 307) (raised (field b) l (lead_small (field b)).0 (lead_small (field b)).1)))
      ∙ sym (mul_assoc m (2 ^ (t + 307)) (den k))
      ∙ ap (λ (z : ℕ). z * den k) (ap (λ (z : ℕ). m * z) (pow-add 2 t 307) ∙ sym (mul_assoc m (2 ^ t) (2 ^ 307))))
      x)

  -- the same by whether the pattern has a leading digit
  module _ (b : ℕ) (bounded : field b ≡ 2047 → ⊥) where
    with_lead : lead (field b) ≡ 1 → P (sign_bit b) ((digits b + 2 ^ 52) * num (pos (field b) -ℤ pos 1075 +ℤ pos 307)) (den (pos (field b) -ℤ pos 1075 +ℤ pos 307)) → Q (of_bits binary64 b)
    with_lead q x = by_pattern b bounded (subst (λ (l : ℕ). P (sign_bit b) ((digits b + l * 2 ^ 52) * num (pos (field b + (1 - l)) -ℤ pos 1075 +ℤ pos 307)) (den (pos (field b + (1 - l)) -ℤ pos 1075 +ℤ pos 307))) (sym q) (subst (λ (y : ℕ). P (sign_bit b) ((digits b + 2 ^ 52) * num (pos y -ℤ pos 1075 +ℤ pos 307)) (den (pos y -ℤ pos 1075 +ℤ pos 307))) (sym (add-zero (field b))) x))

    without_lead : field b ≡ 0 → P (sign_bit b) (digits b * num (negsuc 1073 +ℤ pos 307)) (den (negsuc 1073 +ℤ pos 307)) → Q (of_bits binary64 b)
    without_lead q x = by_pattern b bounded (subst (λ (f : ℕ). P (sign_bit b) ((digits b + lead f * 2 ^ 52) * num (pos (f + (1 - lead f)) -ℤ pos 1075 +ℤ pos 307)) (den (pos (f + (1 - lead f)) -ℤ pos 1075 +ℤ pos 307))) (sym q) (subst (λ (y : ℕ). P (sign_bit b) (y * num (negsuc 1073 +ℤ pos 307)) (den (negsuc 1073 +ℤ pos 307))) (sym (add-zero (digits b))) x))

-- ---- what is written, and what is said of it
pub value_written : (n : ℕ) (rule : Rule) (r : Answer ℕ) (x : Float) (s : Bool) (a c : ℕ) → 0 < c → HasValue x s a c → IsWritten n rule s (a * 2 ^ 307) c r → IsWrittenBinary64 n rule x r
unfolding IsWrittenBinary64
value_written n rule r = by_value (λ (s : Bool) (a b : ℕ). IsWritten n rule s a b r) (written_same n rule r) (λ (x : Float). IsWrittenBinary64 n rule x r) (λ s m e x. x)

module _ (n : ℕ) (rule : Rule) (r : Answer ℕ) (b : ℕ) (bounded : field b ≡ 2047 → ⊥) where
  pub written_with_lead : lead (field b) ≡ 1 → IsWritten n rule (sign_bit b) ((digits b + 2 ^ 52) * num (pos (field b) -ℤ pos 1075 +ℤ pos 307)) (den (pos (field b) -ℤ pos 1075 +ℤ pos 307)) r → IsWrittenBinary64 n rule (of_bits binary64 b) r
  unfolding IsWrittenBinary64
  written_with_lead = with_lead (λ (s : Bool) (a b : ℕ). IsWritten n rule s a b r) (written_same n rule r) (λ (x : Float). IsWrittenBinary64 n rule x r) (λ s m e x. x) b bounded

  pub written_without_lead : field b ≡ 0 → IsWritten n rule (sign_bit b) (digits b * num (negsuc 1073 +ℤ pos 307)) (den (negsuc 1073 +ℤ pos 307)) r → IsWrittenBinary64 n rule (of_bits binary64 b) r
  unfolding IsWrittenBinary64
  written_without_lead = without_lead (λ (s : Bool) (a b : ℕ). IsWritten n rule s a b r) (written_same n rule r) (λ (x : Float). IsWrittenBinary64 n rule x r) (λ s m e x. x) b bounded

module _ (n w : ℕ) (q : Saying) (b : ℕ) (bounded : field b ≡ 2047 → ⊥) where
  pub said_with_lead : lead (field b) ≡ 1 → Says n (sign_bit b) ((digits b + 2 ^ 52) * num (pos (field b) -ℤ pos 1075 +ℤ pos 307)) (den (pos (field b) -ℤ pos 1075 +ℤ pos 307)) w q → SaysBinary64 n (of_bits binary64 b) w q
  unfolding SaysBinary64
  said_with_lead = with_lead (λ (s : Bool) (a b : ℕ). Says n s a b w q) (said_same n w q) (λ (x : Float). SaysBinary64 n x w q) (λ s m e x. x) b bounded

  pub said_without_lead : field b ≡ 0 → Says n (sign_bit b) (digits b * num (negsuc 1073 +ℤ pos 307)) (den (negsuc 1073 +ℤ pos 307)) w q → SaysBinary64 n (of_bits binary64 b) w q
  unfolding SaysBinary64
  said_without_lead = without_lead (λ (s : Bool) (a b : ℕ). Says n s a b w q) (said_same n w q) (λ (x : Float). SaysBinary64 n x w q) (λ s m e x. x) b bounded
