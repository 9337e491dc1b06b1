-- When the tests of a width and of a word refuse, and what a contract says then. Assumes nothing.
use mathlib.Core.Path.{◌≡◌, refl, sym, ap, ap₂, ◌∙◌, subst}
use mathlib.Core.Bool.{Bool, true, false, ◌&&◌, false≢true}
use Prim.Native.Nat.{ℕ, ◌^◌, ◌≤◌, ◌<◌}
use lib.Dec.{leb, ltb}
use borrow.Author.Tests.{le-leb, lt-leb, lt-ltb, le-ltb, leb-true, ltb-true}
use Rattle.std.specs.Prelude.{Ok, Err, IsErrAnd}
use Rattle.std.proofs.lemmas.Result.{err_from_is_err_and}
use Rattle.std.specs.Result.{result_and}
use Rattle.bounds.specs.declared.refusal.Refusal.{Refusal}
use Rattle.bounds.specs.Refusals.{Answer, Verdict, passed, unless, width_test, stray_test, word_test, ◌then◌, IsWord, Decided, through, refused}

pub width_fits : (n : ℕ) → 2 ≤ n → n ≤ 64 → width_test n ≡ passed
unfolding width_test
width_fits n lo hi = rw (le-leb 2 n lo, le-leb n 64 hi)

pub width_short : (n : ℕ) → n < 2 → width_test n ≡ Err Refusal.Width
unfolding width_test
width_short n h = rw (lt-leb 2 n h)

pub width_long : (n : ℕ) → 2 ≤ n → 64 < n → width_test n ≡ Err Refusal.Width
unfolding width_test
width_long n lo h = rw (le-leb 2 n lo, lt-leb n 64 h)

pub stray_fits : (n w : ℕ) → w < 2 ^ n → stray_test n w ≡ passed
unfolding stray_test
stray_fits n w h = rw (lt-ltb w (2 ^ n) h)

pub stray_bit : (n w : ℕ) → 2 ^ n ≤ w → stray_test n w ≡ Err Refusal.Stray
unfolding stray_test
stray_bit n w h = rw (le-ltb w (2 ^ n) h)

-- ---- what a verdict tells
Refuses : Verdict → Type 0
Refuses (Ok _) = ⊥
Refuses (Err q) = Unit {0}

pub open_when : (b : Bool) (q : Refusal) → unless q b ≡ passed → b ≡ true
unfolding Refuses
open_when true q h = refl
open_when false q h = absurd (subst Refuses h tt)

pub stray_through : (n w : ℕ) → stray_test n w ≡ passed → w < 2 ^ n
unfolding stray_test
stray_through n w h = ltb-true w (2 ^ n) (open_when (ltb w (2 ^ n)) Refusal.Stray h)

pub both : (a b : Bool) → a && b ≡ true → (a ≡ true) × (b ≡ true)
both true b h = (refl, h)
both false b h = absurd (false≢true h)

pub width_through : (n : ℕ) → width_test n ≡ passed → (2 ≤ n) × (n ≤ 64)
unfolding width_test
width_through n h = (leb-true 2 n t.0, leb-true n 64 t.1)
  where
    t : (leb 2 n ≡ true) × (leb n 64 ≡ true)
    t = both (leb 2 n) (leb n 64) (open_when (leb 2 n && leb n 64) Refusal.Width h)

-- of tests in a row the first that refuses decides, as std's `and` has it
pub then_is_and : (a b : Verdict) → a then b ≡ result_and a b
then_is_and (Ok _) b = refl
then_is_and (Err q) b = refl

-- a test that is made again changes nothing
pub once : (a b c : Verdict) → a then b then (a then c) ≡ a then b then c
once (Ok _) b c = refl
once (Err q) b c = refl

-- the verdict v of a call that made two tests in their order; of one that tested the target's width and then the word, and the source's width
-- with it; and of one that made three tests
pub told_two : {a a' b b' v u : Verdict} → a ≡ a' → b ≡ b' → v ≡ (a then b) → v ≡ u → a' then b' ≡ u
told_two ha hb hv hu = sym (hv ∙ ap₂ (λ (p q : Verdict). p then q) ha hb) ∙ hu

-- two widths are refused alike, so either may be tested first
alike : (q : Refusal) (a b : Bool) → unless q a then unless q b ≡ unless q b then unless q a
alike q true true = refl
alike q true false = refl
alike q false true = refl
alike q false false = refl

grouped : (a b c : Verdict) → a then b then c ≡ a then (b then c)
grouped (Ok _) b c = refl
grouped (Err q) b c = refl

pub told_move : (n n' w : ℕ) {a b v u : Verdict} → a ≡ width_test n' → b ≡ word_test n w → v ≡ (a then b) → v ≡ u → width_test n then width_test n' then stray_test n w ≡ u
unfolding width_test
told_move n n' w ha hb hv hu =
    ap (λ (v : Verdict). v then stray_test n w) (alike Refusal.Width (leb 2 n && leb n 64) (leb 2 n' && leb n' 64)) ∙ grouped (width_test n') (width_test n) (stray_test n w)
    ∙ told_two ha hb hv hu

pub told_three : {a a' b b' c c' v v' u : Verdict} → a ≡ a' → b ≡ b' → v ≡ (a then b) → c ≡ c' → v' ≡ (v then c) → v' ≡ u → a' then b' then c' ≡ u
told_three ha hb hv hc hv' hu = told_two (sym (told_two ha hb refl (sym hv))) hc hv' hu

pub then_through : (a b : Verdict) → a then b ≡ passed → (a ≡ passed) × (b ≡ passed)
unfolding Refuses
then_through (Ok _) b h = (refl, h)
then_through (Err q) b h = absurd (subst Refuses h tt)

pub word_through : (n w : ℕ) → word_test n w ≡ passed → IsWord n w
word_through n w h = record { least = (width_through n t.0).0; most = (width_through n t.0).1; fits = stray_through n w t.1 }
  where
    t : (width_test n ≡ passed) × (stray_test n w ≡ passed)
    t = then_through (width_test n) (stray_test n w) h

pub words_through : (n x y : ℕ) → width_test n then stray_test n x then stray_test n y ≡ passed → IsWord n x × IsWord n y
words_through n x y h = (good, record { least = good.least; most = good.most; fits = stray_through n y t.1 })
  where
    t : (width_test n then stray_test n x ≡ passed) × (stray_test n y ≡ passed)
    t = then_through (width_test n then stray_test n x) (stray_test n y) h

    good : IsWord n x
    good = word_through n x t.0

pub move_through : (n n' w : ℕ) → width_test n then width_test n' then stray_test n w ≡ passed → IsWord n w × (width_test n' ≡ passed)
move_through n n' w h = (record { least = (width_through n u.0).0; most = (width_through n u.0).1; fits = stray_through n w t.1 }, u.1)
  where
    t : (width_test n then width_test n' ≡ passed) × (stray_test n w ≡ passed)
    t = then_through (width_test n then width_test n') (stray_test n w) h

    u : (width_test n ≡ passed) × (width_test n' ≡ passed)
    u = then_through (width_test n) (width_test n') t.0

-- and the other way round
pub word_passes : (n w : ℕ) → IsWord n w → word_test n w ≡ passed
word_passes n w i = rw (width_fits n i.least i.most) (stray_fits n w i.fits)

pub words_pass : (n x y : ℕ) → IsWord n x → IsWord n y → width_test n then stray_test n x then stray_test n y ≡ passed
words_pass n x y ix iy = rw (word_passes n x ix) (stray_fits n y iy.fits)

pub move_passes : (n n' w : ℕ) → IsWord n w → 2 ≤ n' → n' ≤ 64 → width_test n then width_test n' then stray_test n w ≡ passed
move_passes n n' w i lo hi = rw (width_fits n i.least i.most, width_fits n' lo hi) (stray_fits n w i.fits)

-- a contract decides by the verdict: what it says where the input is let through, and where it is refused
pub answered : {v : Verdict} {P : Refusal → Type 0} {Q : Type 0} → v ≡ passed → Decided v P Q → Q
unfolding Refuses
answered h (through e x) = x
answered h (refused e x) = absurd (subst Refuses (sym e ∙ h) tt)

pub refused_as : {v : Verdict} {P : Refusal → Type 0} {Q : Type 0} (q : Refusal) → v ≡ Err q → Decided v P Q → P q
unfolding Refuses
refused_as q h (through e x) = absurd (subst Refuses (sym h ∙ e) tt)
refused_as {P = P} q h (refused e x) = subst P (cc) x

-- a contract that decides by a verdict allows one outcome, where it does for input that is let through
module _ {A : Type 0} (R : Refusal → A) (Q : A → Type 0) (one : (a b : A) → Q a → Q b → a ≡ b) where
  pub decided_one : {v : Verdict} (a b : A) → Decided v (λ q. a ≡ R q) (Q a) → Decided v (λ q. b ≡ R q) (Q b) → a ≡ b
  decided_one a b (through h x) y = one a b x (answered h y)
  decided_one a b (refused h x) y = x ∙ sym (refused_as _ h y)

-- what is answered where a `?` hands a refusal on: that refusal, and no other
pub handed_on : {A : Type 0} {v : Verdict} {Q : Type 0} (q : Refusal) (r : Answer A) → IsErrAnd r (λ e. e ≡ q) → v ≡ Err q → Decided v (λ p. r ≡ Err p) Q
handed_on q r e h = let p = err_from_is_err_and r e in refused h (p.1 ∙ ap Err p.2)

-- ---- what an answer tells of the verdict, where what is let through is answered with a value that a property tells
module _ {A : Type 0} where
  IsValue : Answer A → Type 0
  IsValue (Ok x) = Unit {0}
  IsValue (Err q) = ⊥

  value_of : A → Answer A → A
  value_of d (Ok x) = x
  value_of d (Err q) = d

  refusal_of : Refusal → Answer A → Refusal
  refusal_of d (Ok x) = d
  refusal_of d (Err q) = q

  abbrev pub Tells : Verdict → (A → Type 0) → Answer A → Type 0
  Tells v P a = Decided v (λ q. a ≡ Err q) ((x : A) × (a ≡ Ok x) × P x)

  pub ok_tells : {v : Verdict} (P : A → Type 0) (x : A) → Tells v P (Ok x) → (v ≡ passed) × P x
  unfolding IsValue value_of
  ok_tells P x (through e y) = (e, subst P (sym (ap (λ (a : Answer A). value_of x a) y.1)) y.2)
  ok_tells P x (refused e y) = absurd (subst IsValue y tt)

  pub err_tells : {v : Verdict} {P : A → Type 0} (q : Refusal) → Tells v P (Err q) → v ≡ Err q
  unfolding IsValue refusal_of
  err_tells q (through e y) = absurd (subst IsValue (sym y.1) tt)
  err_tells q (refused e y) = e ∙ ap Err (sym (ap (λ (a : Answer A). refusal_of q a) y))

  -- and it allows one outcome, where the property tells one value
  pub value_of_one : (P : A → Type 0) → ((x y : A) → P x → P y → x ≡ y) → {v : Verdict} (a b : Answer A) → Tells v P a → Tells v P b → a ≡ b
  value_of_one P one = decided_one Err (λ (a : Answer A). (x : A) × (a ≡ Ok x) × P x) (λ a b x y. x.1 ∙ ap Ok (one x.0 y.0 x.2 y.2) ∙ sym y.1)
