-- The law of the face: a struct follows the lines that the answer follows, because a refusal is handed over by its number, with zeros. Assumes nothing.
use Rattle.std.specs.Prelude.{Ok, Err}
use mathlib.Core.Path.{◌≡◌, refl, sym, ap, ◌∙◌, subst}
use mathlib.Core.Bool.{Bool, true, false}
use mathlib.Core.List.{List, [], ◌∷◌, ◌++◌}
use mathlib.Core.Logic.{inl, inr}
use Prim.Native.Nat.{ℕ, zero, suc}
use Rattle.bounds.specs.declared.answer.Written.{Written}
use Rattle.bounds.specs.declared.saying.Saying.{Saying}
use Rattle.bounds.specs.declared.refusal.Refusal.{Refusal}
use Rattle.bounds.specs.Sayings.{saying_number, plain, AndSays}
use Rattle.bounds.proofs.Answers.{plain_refused}
use Rattle.bounds.specs.Refusals.{Answer, Verdict, passed, number_of, Decided, through, refused}
use Rattle.round.specs.declared.value.Rule.{Rule}
use Rattle.whole.specs.declared.taking.Taking.{Taking}
use Rattle.ledusprig.specs.declared.handed.words.HandedWord.{HandedWord}
use Rattle.ledusprig.specs.declared.handed.words.HandedSaying.{HandedSaying}
use Rattle.ledusprig.specs.Handed.{HandsOver, rule_of, taking_of, word_handed, saying_handed}
use Rattle.promises.specs.Refusals.{Line, line, FollowsUpTo, Follows}
use Rattle.promises.specs.Face.{FieldFollows, HandsWord, HandsSaid, NoneHolds, is_strict}
use Rattle.promises.proofs.Lines.{carry}
use Rattle.promises.proofs.WordRefusals.{rounded_strict}

-- from one answer to its struct
pub handed_so : {A : Type 0} (R : Refusal → A) (a : A) (refusal : ℕ) (lines : List Line) (Zeros Then : Type 0) → ((q : Refusal) → a ≡ R q → (refusal ≡ number_of q) × Zeros) → (((q : Refusal) → a ≡ R q → ⊥) → Then) → Follows R a lines → FieldFollows refusal lines Zeros Then
unfolding Follows FollowsUpTo FieldFollows
handed_so R a refusal [] Zeros Then zeros answer x = answer x
handed_so R a refusal (line number When ∷ lines) Zeros Then zeros answer (inl (h, x)) = let z = zeros x.q x.is in inl (h, z.0 ∙ x.known, z.1)
handed_so R a refusal (line number When ∷ lines) Zeros Then zeros answer (inr (h, x)) = inr (h, handed_so R a refusal lines Zeros Then zeros answer x)

-- for any answers, structs and contract
module _ {A H : Type 0} (R : Refusal → A) {handed : A → H} (refusal : H → ℕ) (Zeros Then : H → Type 0) (lines : List Line) {Gives : A → Type 0} where
  pub hands :
      ((q : Refusal) → Gives (R q) → (refusal (handed (R q)) ≡ number_of q) × Zeros (handed (R q)))
      → ((a : A) → Gives a → ((q : Refusal) → a ≡ R q → ⊥) → Then (handed a))
      → ((a : A) → Gives a → Follows R a lines)
      → (r : H) → HandsOver handed Gives r → FieldFollows (refusal r) lines (Zeros r) (Then r)
  hands zeros then follows r h = subst (λ (r : H). FieldFollows (refusal r) lines (Zeros r) (Then r)) (sym h.is) (by h.answer h.given)
    where
      by : (a : A) → Gives a → FieldFollows (refusal (handed a)) lines (Zeros (handed a)) (Then (handed a))
      by a x = handed_so R a _ lines _ _ (λ q e. subst (λ (b : A). (refusal (handed b) ≡ number_of q) × Zeros (handed b)) (sym e) (zeros q (subst Gives e x))) (then a x) (follows a x)

-- a call that answers with a word
module _ (lines : List Line) {Gives : Answer ℕ → Type 0} (Is : ℕ → Type 0) where
  pub word_hands : ((w : ℕ) → Gives (Ok w) → Is w) → ((a : Answer ℕ) → Gives a → Follows Err a lines) → (r : HandedWord) → HandsOver word_handed Gives r → HandsWord lines Is r
  word_hands is follows r h = hands Err (λ r. r.refusal) (λ r. r.word ≡ 0) (λ r. (r.refusal ≡ 0) × Is r.word) lines (λ q x. (refl, refl)) by follows r h
    where
      by : (a : Answer ℕ) → Gives a → ((q : Refusal) → a ≡ Err q → ⊥) → ((word_handed a).refusal ≡ 0) × Is (word_handed a).word
      by (Ok w) x none = (refl, is w x)
      by (Err q) x none = absurd (none q refl)

-- a call that answers with a word and its saying
module _ (lines : List Line) {Gives : Answer ℕ → Type 0} (Is : ℕ → Type 0) (SaysOf : ℕ → Saying → Type 0) where
  pub said_hands : ((w : ℕ) → Gives (Ok w) → Is w) → ((a : Answer ℕ) → Gives a → Follows Err a lines) → (r : HandedSaying) → HandsOver saying_handed (AndSays Gives SaysOf) r → HandsSaid lines Is SaysOf r
  said_hands is follows r h =
      hands Err (λ r. r.refusal) (λ r. (r.saying ≡ 0) × (r.word ≡ 0)) Said lines (λ q x. (refl, (refl, refl))) by
      (λ a x. carry Err Err (plain a) a lines (plain_refused a) (λ q e. ap plain e) (follows (plain a) x.answers)) r h
    where
      Said : HandedSaying → Type 0
      Said r = (r.refusal ≡ 0) × (Is r.word × ((s : Saying) × (r.saying ≡ saying_number s) × SaysOf r.word s))

      by : (a : Answer Written) → AndSays Gives SaysOf a → ((q : Refusal) → a ≡ Err q → ⊥) → Said (saying_handed a)
      by (Ok a) x none = (refl, (is a.word x.answers, (a.saying, refl, x.says a.word a.saying refl)))
      by (Err q) x none = absurd (none q refl)

-- an answer that is no refusal passed the tests, and is what the contract says
pub unrefused : {A : Type 0} {R : Refusal → A} {a : A} {v : Verdict} {Q : Type 0} → ((q : Refusal) → a ≡ R q → ⊥) → Decided v (λ q. a ≡ R q) Q → (v ≡ passed) × Q
unrefused none (through h x) = (h, x)
unrefused none (refused h e) = absurd (none _ e)

-- and no line holds of it
pub none_holds : {A : Type 0} (R : Refusal → A) (a : A) (lines : List Line) → ((q : Refusal) → a ≡ R q → ⊥) → Follows R a lines → NoneHolds lines
unfolding Follows FollowsUpTo NoneHolds
none_holds R a [] none x = tt
none_holds R a (line number When ∷ lines) none (inl (h, x)) = absurd (none x.q x.is)
none_holds R a (line number When ∷ lines) none (inr (h, x)) = (h, none_holds R a lines none x)

-- ---- the rule
-- 1 where the rule is to be strict, and 0 where it isn't: what the exported calls hand over is proved of these two
abbrev pub numbered : Bool → ℕ
numbered false = 0
numbered true = 1

-- and each other number stands for the rule that 1 stands for
any_number : {A : Type 0} (of : ℕ → A) → ((k : ℕ) → of (suc k) ≡ of 1) → (number : ℕ) → of number ≡ of (numbered (is_strict number))
unfolding is_strict
any_number of same zero = refl
any_number of same (suc k) = same k

pub any_rule : (rule : ℕ) → rule_of rule ≡ rule_of (numbered (is_strict rule))
any_rule = any_number rule_of (λ k. refl)

pub any_taking : (taking : ℕ) → taking_of taking ≡ taking_of (numbered (is_strict taking))
any_taking = any_number taking_of (λ k. refl)

-- the last line said otherwise
pub last_retold : {A : Type 0} (R : Refusal → A) (a : A) (lines : List Line) (number : ℕ) (C D : Type 0) → (C → D) → (D → C) → Follows R a (lines ++ line number C ∷ []) → Follows R a (lines ++ line number D ∷ [])
unfolding Follows FollowsUpTo
last_retold R a [] number C D to from (inl x) = inl (to x.0, x.1)
last_retold R a [] number C D to from (inr x) = inr (λ d. x.0 (from d), x.1)
last_retold R a (line k When ∷ lines) number C D to from (inl x) = inl x
last_retold R a (line k When ∷ lines) number C D to from (inr x) = inr (x.0, last_retold R a lines number C D to from x.1)

-- the rule is the strict one exactly where strict is asked for
pub is_strict_lem : (strict : Bool) → rule_of (numbered strict) ≡ Rule.Strict → strict ≡ true
is_strict_lem true e = refl
is_strict_lem false e = absurd (rounded_strict e)

pub takes_strictly : (strict : Bool) → taking_of (numbered strict) ≡ Taking.Strict → strict ≡ true
takes_strictly true e = refl
takes_strictly false e = absurd cc

pub rule_retold : {A : Type 0} (R : Refusal → A) (a : A) (lines : List Line) (number : ℕ) (strict : Bool) (C : Type 0) → Follows R a (lines ++ line number ((rule_of (numbered strict) ≡ Rule.Strict) × C) ∷ []) → Follows R a (lines ++ line number ((strict ≡ true) × C) ∷ [])
rule_retold R a lines number strict C = last_retold R a lines number _ _ (λ h. (is_strict_lem strict h.0, h.1)) (λ h. (ap (λ (b : Bool). rule_of (numbered b)) h.0, h.1))
