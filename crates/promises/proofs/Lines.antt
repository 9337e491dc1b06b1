-- How an answer follows the lines of the table: the tests of a contract, taken apart in their order. Assumes nothing.
use Rattle.std.specs.Prelude.{Ok, Err}
use mathlib.Core.Path.{◌≡◌, refl, ap, ◌∙◌}
use mathlib.Core.List.{List, [], ◌∷◌}
use mathlib.Core.Logic.{◌⊎◌, inl, inr, ⊎_elim}
use Prim.Native.Nat.{ℕ, ◌^◌, ◌≤◌, ◌<◌}
use native.Mathlib.Decide.{dec_lt}
use native.Mathlib.Omega.{arith}
use Rattle.bounds.specs.declared.refusal.Refusal.{Refusal}
use Rattle.bounds.specs.Refusals.{number_of, width_test, stray_test, ◌then◌, Decided, through, refused, passed, Answer, Verdict}
use Rattle.bounds.proofs.Powers.{not_more}
use Rattle.bounds.proofs.Verdicts.{width_fits, width_short, width_long, stray_fits, stray_bit, answered, refused_as}
use Rattle.round.specs.declared.value.Rule.{Rule}
use Rattle.promises.specs.Writing.{GivenOrInexact}
use Rattle.promises.specs.Demands.{RefusedAs}
use Rattle.promises.specs.Refusals.{Line, line, FollowsUpTo, Follows, no_word}

-- ---- the test of a line: it refuses so where the line holds, and lets through where it doesn't
pub data Tells (v : Verdict) (q : Refusal) (When : Type 0) : Type 0 where
  holds : v ≡ Err q → When → Tells v q When
  fails : v ≡ passed → (When → ⊥) → Tells v q When

pub width_tells : (n : ℕ) → Tells (width_test n) Refusal.Width ((n < 2) ⊎ (64 < n))
width_tells n = by (dec_lt n 2) (dec_lt 64 n)
  where
    by : Dec (n < 2) → Dec (64 < n) → Tells (width_test n) Refusal.Width ((n < 2) ⊎ (64 < n))
    by (yes l) d = holds (width_short n l) (inl l)
    by (no f) (yes l) = holds (width_long n (not_more f) l) (inr l)
    by (no f) (no g) = fails (width_fits n (not_more f) (not_more g)) (⊎_elim f g)

pub stray_tells : (n w : ℕ) → Tells (stray_test n w) Refusal.Stray (2 ^ n ≤ w)
stray_tells n w = by (dec_lt w (2 ^ n))
  where
    by : Dec (w < 2 ^ n) → Tells (stray_test n w) Refusal.Stray (2 ^ n ≤ w)
    by (yes l) = fails (stray_fits n w l) (λ h. omega (arith, h, l))
    by (no f) = holds (stray_bit n w (not_more f)) (not_more f)

-- ---- a contract with tests in a row, taken apart
pub parts : {v u : Verdict} {P : Refusal → Type 0} {Q : Type 0} → Decided (v then u) P Q → Decided v P (Decided u P Q)
parts {v = Ok _} x = through refl x
parts {v = Err q} (through h x) = absurd cc
parts {v = Err q} (refused h x) = refused h x

-- one line, and what comes after it
pub follow : {A : Type 0} {R : Refusal → A} {a : A} {v : Verdict} {When Q Rest : Type 0} (q : Refusal) → Tells v q When → Decided v (λ p. a ≡ R p) Q → (v ≡ passed → Q → Rest) → (When × RefusedAs A R (number_of q) a) ⊎ ((When → ⊥) × Rest)
follow q (holds e w) x f = inl (w, record { q = q; is = refused_as q e x; known = refl })
follow q (fails e n) x f = inr (n, f e (answered e x))

-- a call that answers with the verdict itself
pub verdict_decided : {v a : Verdict} → a ≡ v → Decided v (λ q. a ≡ Err q) (a ≡ passed)
verdict_decided {v = Ok _} x = through refl x
verdict_decided {v = Err q} x = refused refl x

-- a condition said otherwise
pub retold : {v : Verdict} {q : Refusal} {C D : Type 0} → (C → D) → (D → C) → Tells v q C → Tells v q D
retold to from (holds e c) = holds e (to c)
retold to from (fails e f) = fails e (λ d. f (from d))

-- what one answer follows, another does that is a refusal exactly where the first is, with the same number
pub carry : {A B : Type 0} (R : Refusal → A) (R' : Refusal → B) (a : A) (b : B) (lines : List Line) → ((q : Refusal) → a ≡ R q → b ≡ R' q) → ((q : Refusal) → b ≡ R' q → a ≡ R q) → Follows R a lines → Follows R' b lines
unfolding Follows FollowsUpTo
carry R R' a b [] to from x = λ q e. x q (from q e)
carry R R' a b (line number When ∷ lines) to from (inl (h, x)) = inl (h, record { q = x.q; is = to x.q x.is; known = x.known })
carry R R' a b (line number When ∷ lines) to from (inr (h, x)) = inr (h, carry R R' a b lines to from x)

-- what comes after the lines, said otherwise
pub so_too : {A : Type 0} (R : Refusal → A) (a : A) (lines : List Line) (P Q : Type 0) → (P → Q) → FollowsUpTo R a lines P → FollowsUpTo R a lines Q
unfolding FollowsUpTo
so_too R a [] P Q f x = f x
so_too R a (line number When ∷ lines) P Q f (inl x) = inl x
so_too R a (line number When ∷ lines) P Q f (inr (h, x)) = inr (h, so_too R a lines P Q f x)

-- an answer that is no refusal: no line holds, whatever is answered in the end
pub none_hold : {A B : Type 0} (R : Refusal → A) (R' : Refusal → B) (a : A) (b : B) (lines : List Line) (P : Type 0) → P → ((q : Refusal) → a ≡ R q → ⊥) → Follows R a lines → FollowsUpTo R' b lines P
unfolding Follows FollowsUpTo
none_hold R R' a b [] P p none x = p
none_hold R R' a b (line number When ∷ lines) P p none (inl (h, x)) = absurd (none x.q x.is)
none_hold R R' a b (line number When ∷ lines) P p none (inr (h, x)) = inr (h, none_hold R R' a b lines P p none x)

-- a refusal that is handed on: the line that gave it holds
pub handed_on : {A : Type 0} (R : Refusal → A) (q : Refusal) (lines : List Line) (P : Type 0) → Follows {A = Answer ℕ} Err (Err q) lines → FollowsUpTo R (R q) lines P
unfolding Follows FollowsUpTo
handed_on R q [] P x = absurd (x q refl)
handed_on R q (line number When ∷ lines) P (inl (h, x)) = inl (h, record { q = q; is = refl; known = let e = x.is in let same : q ≡ x.q = cc in ap number_of same ∙ x.known })
handed_on R q (line number When ∷ lines) P (inr (h, x)) = inr (h, handed_on R q lines P x)

-- a line that doesn't hold
pub past : {A : Type 0} (R : Refusal → A) (a : A) (number : ℕ) (When : Type 0) (lines : List Line) → (When → ⊥) → Follows R a (line number When ∷ lines) → Follows R a lines
unfolding Follows FollowsUpTo
past R a number When lines f (inl x) = absurd (f x.0)
past R a number When lines f (inr x) = x.1

pub good_width : (n : ℕ) → (2 ≤ n) × (n ≤ 64) → (n < 2) ⊎ (64 < n) → ⊥
good_width n t (inl h) = omega (arith, h, t.0)
good_width n t (inr h) = omega (arith, h, t.1)

-- where the last line is left, an answer is given or is INEXACT
pub given_or_inexact : (HasIt : ℕ → Type 0) (r : Answer ℕ) → ((w : ℕ) → r ≡ Ok w → HasIt w) → Follows Err r (no_word Rule.Strict HasIt ∷ []) → GivenOrInexact HasIt r
unfolding Follows FollowsUpTo GivenOrInexact
given_or_inexact HasIt (Ok w) f x = inl (w, refl, f w refl)
given_or_inexact HasIt (Err q) f (inl x) = inr (x.1, x.0.1)
given_or_inexact HasIt (Err q) f (inr x) = absurd (x.1 q refl)
