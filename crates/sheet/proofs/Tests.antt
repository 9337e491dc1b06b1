-- What each test of a block finds. Assumes nothing.
use Rattle.std.specs.Prelude.{Ok, Err}
use Rattle.std.proofs.Common.{◌≡◌, ℕ, ◌<◌, ◌≤◌, Bool, true, false, ◌||◌, eqb, leb, ◌⊎◌, List, sym, refl, ap, ◌∙◌, subst, inl, inr, ⊎_elim, ne_eqb, eqb-true, le-leb}
use mathlib.Core.Bool.{false≢true}
use borrow.Author.Tests.{lt-leb}
use Rattle.bounds.specs.declared.refusal.Refusal.{Refusal}
use Rattle.bounds.specs.Refusals.{Verdict, passed, unless}
use Rattle.sheet.specs.Layout.{numbers, A}
use Rattle.sheet.specs.Sums.{sum_a}
use Rattle.sheet.specs.Reads.{is_block_width, check_test}

pub holds : (q : Refusal) {b : Bool} → b ≡ true → passed ≡ unless q b
holds q h = rw h

pub fails : (q : Refusal) {b : Bool} → b ≡ false → Err q ≡ unless q b
fails q h = rw h

-- no verdict lets through and refuses
refused : Verdict → Bool
refused (Ok _) = false
refused (Err q) = true

pub not_both : {v : Verdict} {q : Refusal} → v ≡ passed → v ≡ Err q → ⊥
unfolding refused
not_both h k = false≢true (ap refused (sym h ∙ k))

-- a call has told whether a test holds
pub lets_through : {v : Verdict} (q : Refusal) (b : Bool) → v ≡ unless q b → b ≡ true → v ≡ passed
lets_through q true e h = e
lets_through q false e h = absurd (false≢true h)

pub refuses : {v : Verdict} (q : Refusal) (b : Bool) → v ≡ unless q b → b ≡ false → v ≡ Err q
refuses q true e h = absurd (false≢true (sym h))
refuses q false e h = e

-- a number n that a call has given as m is tested against a most
pub at_most : (q : Refusal) {m n : ℕ} (most : ℕ) → m ≡ n → m ≤ most → passed ≡ unless q (leb n most)
at_most q {m} {n} most e h = holds q (le-leb n most (subst (λ (x : ℕ). x ≤ most) e h))

pub past : (q : Refusal) {m n : ℕ} (most : ℕ) → m ≡ n → most < m → Err q ≡ unless q (leb n most)
past q {m} {n} most e h = fails q (lt-leb n most (subst (λ (x : ℕ). most < x) e h))

-- ---- the sums
module _ (block : List ℕ) where
  pub a_differs : (sum_a (numbers block) ≡ A block → ⊥) → Err Refusal.Check ≡ check_test block
  unfolding check_test
  a_differs h = rw (ne_eqb (sum_a (numbers block)) (A block) h)

-- ---- the width
abbrev pub OneOfFour : ℕ → Type 0
OneOfFour n = (n ≡ 8) ⊎ ((n ≡ 16) ⊎ ((n ≡ 32) ⊎ (n ≡ 64)))

-- what holds of the four holds of each
pub each_width : (P : ℕ → Type 0) → P 8 → P 16 → P 32 → P 64 → (n : ℕ) → OneOfFour n → P n
each_width P a b c d n (inl e) = subst P (sym e) a
each_width P a b c d n (inr (inl e)) = subst P (sym e) b
each_width P a b c d n (inr (inr (inl e))) = subst P (sym e) c
each_width P a b c d n (inr (inr (inr e))) = subst P (sym e) d

pub width_is : (n : ℕ) → OneOfFour n → is_block_width n ≡ true
unfolding is_block_width
width_is = each_width (λ n. is_block_width n ≡ true) refl refl refl refl

pub width_isn't : (n : ℕ) → (OneOfFour n → ⊥) → is_block_width n ≡ false
unfolding is_block_width
width_isn't n f = rw (ne_eqb n 8 (λ e. f (inl e)), ne_eqb n 16 (λ e. f (inr (inl e))), ne_eqb n 32 (λ e. f (inr (inr (inl e)))), ne_eqb n 64 (λ e. f (inr (inr (inr e)))))

one_holds : (a b : Bool) → a || b ≡ true → (a ≡ true) ⊎ (b ≡ true)
one_holds true b h = inl refl
one_holds false b h = inr h

pub is_width : (n : ℕ) → is_block_width n ≡ true → OneOfFour n
unfolding is_block_width
is_width n h = ⊎_elim up_to_32 (λ e. inr (inr (inr (eqb-true n 64 e)))) (one_holds (eqb n 8 || eqb n 16 || eqb n 32) (eqb n 64) h)
  where
    up_to_16 : eqb n 8 || eqb n 16 ≡ true → OneOfFour n
    up_to_16 h = ⊎_elim (λ e. inl (eqb-true n 8 e)) (λ e. inr (inl (eqb-true n 16 e))) (one_holds (eqb n 8) (eqb n 16) h)

    up_to_32 : eqb n 8 || eqb n 16 || eqb n 32 ≡ true → OneOfFour n
    up_to_32 h = ⊎_elim up_to_16 (λ e. inr (inr (inl (eqb-true n 32 e)))) (one_holds (eqb n 8 || eqb n 16) (eqb n 32) h)
