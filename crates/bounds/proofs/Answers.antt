-- An answer is a word or a refusal, and not both; and so it is with its saying, of which there is one if each word has one. Assumes nothing.
use mathlib.Core.Bool.{true, true≢false}
use mathlib.Core.Path.{◌≡◌, refl, sym, ap, ap₂, ◌∙◌, subst, subst₂}
use Prim.Native.Nat.{ℕ}
use Rattle.std.specs.Result.{result_map_both}
use Rattle.bounds.specs.declared.answer.Written.{Written}
use Rattle.std.specs.Prelude.{Ok, Err}
use Rattle.bounds.specs.declared.refusal.Refusal.{Refusal}
use Rattle.bounds.specs.declared.saying.Saying.{Saying}
use Rattle.bounds.specs.declared.saying.Saying.TheVariants.{Exact, Below, Above, PastTheEnd}
use Rattle.bounds.specs.Refusals.{Answer, Verdict, Decided, through, refused}
use Rattle.bounds.specs.Sayings.{says_exact, written, plain, exactly, exactly_of, AndSays}

unfoldable pub word_of : Answer ℕ → ℕ
word_of (Ok w) = w
word_of (Err q) = 0

unfoldable pub GivesAWord : Answer ℕ → Type 0
GivesAWord (Ok w) = Unit {0}
GivesAWord (Err q) = ⊥

-- ---- with a saying
pub is_exact : (t : Saying) → says_exact t ≡ true → t ≡ Exact
is_exact Exact q = refl
is_exact Below q = absurd (true≢false (sym q))
is_exact Above q = absurd (true≢false (sym q))
is_exact PastTheEnd q = absurd (true≢false (sym q))

saying_of : Answer Written → Saying
saying_of (Ok a) = a.saying
saying_of (Err q) = Exact

-- two that are the same have the same word and the same saying
pub same_word : {w v : ℕ} {s t : Saying} → written w s ≡ written v t → (w ≡ v) × (s ≡ t)
unfolding word_of saying_of
same_word q = (ap (λ (r : Answer Written). word_of (plain r)) q, ap saying_of q)

pub no_refusal : {w : ℕ} {s : Saying} {q : Refusal} → Err q ≡ written w s → ⊥
unfolding GivesAWord
no_refusal e = subst (λ (r : Answer Written). GivesAWord (plain r)) (sym e) tt

-- what an answer is with the saying that it is exact, is what std's `map` makes of it
pub exactly_is_map : (a : Answer ℕ) → exactly_of a ≡ result_map_both exactly (λ q. q) a
exactly_is_map (Ok w) = refl
exactly_is_map (Err q) = refl

-- refused, with a saying or without it
pub plain_refused : (r : Answer Written) (q : Refusal) → plain r ≡ Err q → r ≡ Err q
unfolding GivesAWord
plain_refused (Ok a) q e = absurd (subst GivesAWord e tt)
plain_refused (Err p) q e = ap (λ (a : Answer ℕ). by a) e
  where
    by : Answer ℕ → Answer Written
    by (Ok w) = written w Exact
    by (Err u) = Err u

pub plain_word : (r : Answer Written) (w : ℕ) → plain r ≡ Ok w → (s : Saying) × (r ≡ written w s)
unfolding GivesAWord word_of
plain_word (Ok a) w e = (a.saying, ap (λ (u : ℕ). written u a.saying) (ap word_of e))
plain_word (Err q) w e = absurd (subst GivesAWord (sym e) tt)

module _ {Answers : Answer ℕ → Type 0} {Says : ℕ → Saying → Type 0} where
  pub word_said : (w : ℕ) (s : Saying) → Answers (Ok w) → Says w s → AndSays Answers Says (written w s)
  word_said w s x y = record { answers = x; says = λ v t q. subst₂ Says (same_word q).0 (same_word q).1 y }

  pub refusal_said : (q : Refusal) → Answers (Err q) → AndSays Answers Says (Err q)
  refusal_said q x = record { answers = x; says = λ v t e. absurd (no_refusal e) }

  -- where tests come first, and what they let through is answered with its saying
  pub decided_said : (v : Verdict) (r : Answer Written) → Decided v (λ q. r ≡ Err q) (AndSays Answers Says r) → AndSays (λ (a : Answer ℕ). Decided v (λ q. a ≡ Err q) (Answers a)) Says r
  decided_said v r (through e x) = record { answers = through e x.answers; says = x.says }
  decided_said v r (refused {q} e x) = record { answers = refused e (ap plain x); says = λ w s is. absurd (no_refusal (sym x ∙ is)) }

  -- one answer and one saying of each word are one answer with its saying
  pub said_one : ((a b : Answer ℕ) → Answers a → Answers b → a ≡ b) → ((w : ℕ) (s t : Saying) → Answers (Ok w) → Says w s → Says w t → s ≡ t) → (a b : Answer Written) → AndSays Answers Says a → AndSays Answers Says b → a ≡ b
  unfolding word_of GivesAWord
  said_one one says_one (Ok a) (Ok b) x y =
      let same : a.word ≡ b.word = ap word_of (one (Ok a.word) (Ok b.word) x.answers y.answers) in
      ap₂ written same (says_one a.word a.saying b.saying x.answers (x.says a.word a.saying refl) (subst (λ (u : ℕ). Says u b.saying) (sym same) (y.says b.word b.saying refl)))
  said_one one says_one (Ok a) (Err q) x y = absurd (subst GivesAWord (one (Ok a.word) (Err q) x.answers y.answers) tt)
  said_one one says_one (Err q) (Ok b) x y = absurd (subst GivesAWord (sym (one (Err q) (Ok b.word) x.answers y.answers)) tt)
  said_one one says_one (Err q) (Err p) x y = ap Err (ap refusal_of (one (Err q) (Err p) x.answers y.answers))
    where
      refusal_of : Answer ℕ → Refusal
      refusal_of (Ok w) = q
      refusal_of (Err u) = u
