-- What is known of a width that was tested, and of one that was refused. Assumes nothing.
use mathlib.Core.Path.{◌≡◌, sym, ap, ◌∙◌, subst}
use Prim.Native.Nat.{ℕ, ◌≤◌}
use Rattle.std.proofs.Math.Bridge.{le_prop}
use Rattle.std.specs.Prelude.{Ok, Err}
use Rattle.bounds.specs.declared.good.GoodWidth.{GoodWidth}
use Rattle.bounds.specs.declared.refusal.Refusal.{Refusal}
use Rattle.bounds.specs.declared.width.Width.{Width}
use Rattle.bounds.specs.Refusals.{Answer, passed, width_test, stray_test, word_test, IsWord}
use Rattle.bounds.specs.Widths.{IsGood, HasBitsOf}
use Rattle.bounds.proofs.Verdicts.{stray_through, ok_tells, err_tells, value_of_one}

pub good_through : (n : ℕ) (g : GoodWidth) → IsGood n (Ok g) → (width_test n ≡ passed) × (g.bits ≡ n)
unfolding IsGood
good_through n = ok_tells (λ (g : GoodWidth). g.bits ≡ n)

pub good_refused : (n : ℕ) (q : Refusal) → IsGood n (Err q) → width_test n ≡ Err q
unfolding IsGood
good_refused n q = err_tells q

-- a word that the tests of both let through, and one that the second refuses
pub word_good : (n w : ℕ) (g : GoodWidth) → IsGood n (Ok g) → passed ≡ stray_test g.bits w → IsWord g.bits w × (word_test g.bits w ≡ passed) × (g.bits ≡ n)
word_good n w g h e = (record { least = g.least; most = g.most; fits = stray_through g.bits w (sym e) }, rw (t.1, t.0, ← t.1) (sym e), t.1)
  where
    t : (width_test n ≡ passed) × (g.bits ≡ n)
    t = good_through n g h

pub word_refused : (n w : ℕ) (g : GoodWidth) (q : Refusal) → IsGood n (Ok g) → Err q ≡ stray_test g.bits w → word_test n w ≡ Err q
word_refused n w g q h e = let t = good_through n g h in rw (t.0, ← t.1) (sym e)

-- two that `good` may answer for a number are equal
pub good_one : (n : ℕ) (a b : Answer GoodWidth) → IsGood n a → IsGood n b → a ≡ b
unfolding IsGood
good_one n = value_of_one (λ (g : GoodWidth). g.bits ≡ n) (λ x y p q. same x y (p ∙ sym q))
  where
    same : (x y : GoodWidth) → x.bits ≡ y.bits → x ≡ y
    same x y p = subst (λ (b : ℕ). (l : 2 ≤ b) (m : b ≤ 64) → ◌≡◌ {A = GoodWidth} x (record { bits = b; least = l; most = m })) p (λ l m. λ i. record { bits = x.bits; least = le_prop x.least l i; most = le_prop x.most m i }) y.least y.most

-- two plain widths of one good one are equal
pub has_bits_one : (good : GoodWidth) (a b : Width) → HasBitsOf good a → HasBitsOf good b → a ≡ b
has_bits_one good a b p q = ap width_of (p ∙ sym q)
  where
    width_of : ℕ → Width
    width_of n = record { bits = n }
