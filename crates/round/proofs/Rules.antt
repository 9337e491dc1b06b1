-- Zero, and what each rule makes of the nearest word and its saying. Assumes nothing.
use Rattle.std.specs.Prelude.{Ok, Err}
use mathlib.Core.Path.{◌≡◌, refl, sym, ap, ◌∙◌, subst, subst₂}
use mathlib.Core.Bool.{Bool, true, false, cond, true≢false}
use Prim.Native.Nat.{ℕ, ◌+◌, ◌%◌, ◌^◌, ◌≤◌, ◌<◌}
use native.Mathlib.Nat.{zero-mul}
use native.Mathlib.Omega.{arith}
use lib.IntN.{ℤ, pos, ◌-ℤ◌}
use lib.Pow.{pow_pos}
use Rattle.word.specs.Takum.{real}
use Rattle.bounds.specs.declared.answer.Written.{Written}
use Rattle.bounds.specs.declared.refusal.Refusal.{Refusal}
use Rattle.bounds.specs.declared.saying.Saying.{Saying}
use Rattle.bounds.specs.declared.saying.Saying.TheVariants.{Exact}
use Rattle.bounds.specs.Refusals.{Answer, width_test, Decided, through, refused}
use Rattle.bounds.specs.Sayings.{written, says_exact, AndSays}
use Rattle.bounds.proofs.Answers.{GivesAWord, word_of, is_exact, word_said, refusal_said, decided_said}
use Rattle.bounds.proofs.Verdicts.{width_through}
use Rattle.word.proofs.Values.{no_sign}
use Rattle.word.proofs.Words.{takum_zero}
use Rattle.round.specs.declared.value.Rule.{Rule}
use Rattle.nearest.specs.declared.size.Rest.{Rest}
use Rattle.nearest.specs.Nearest.{HasValue, Nearest}
use Rattle.nearest.specs.Offers.{IsOffered, IsSignedNearest, IsRest, FindsNearest}
use Rattle.nearest.specs.Sayings.{Says, SaysOffered, SaysFound, FindsAndSays}
use Rattle.round.specs.Writes.{zero, other, IsExact, IsWritten}
use Rattle.round.specs.Offers.{WritesZero, settled}
use Rattle.nearest.proofs.OneOutcome.{rest_one}
use Rattle.nearest.proofs.Places.{nearest_one}
use Rattle.nearest.proofs.Sayings.{says_one, exact_size, size_exact}
use Rattle.round.proofs.Signs.{exact_nearest}

-- zero is the zero word by either rule, whichever its sign
pub zero_value : (n : ℕ) → 2 ≤ n → n ≤ 64 → (s : Bool) → HasValue n s 0 0
zero_value n lo hi s = record { word = record { least = lo; most = hi; fits = pow_pos n }; means = takum_zero n ∙ ap real (sym (no_sign s)) }

pub zero_written : (n : ℕ) → 2 ≤ n → n ≤ 64 → (rule : Rule) (s : Bool) (a b : ℕ) → a ≡ 0 → IsWritten n rule s a b (Ok 0)
unfolding IsWritten
zero_written n lo hi Rule.Rounded s a b q = zero q refl
zero_written n lo hi Rule.Strict s a b q = record { z = 0; is = zero_value n lo hi s; same = zero-mul b ∙ sym q }

-- and is exactly it, also where the width is tested
pub zero_answered : (n : ℕ) (rule : Rule) (s : Bool) (a b : ℕ) (r : Answer Written) → a ≡ 0 → WritesZero n r → AndSays (λ (t : Answer ℕ). Decided (width_test n) (λ q. t ≡ Err q) (IsWritten n rule s a b t)) (Says n s a b) r
unfolding WritesZero
zero_answered n rule s a b r q x = decided_said (width_test n) r (by x)
  where
    by : Decided (width_test n) (λ t. r ≡ Err t) (r ≡ written 0 Exact) → Decided (width_test n) (λ t. r ≡ Err t) (AndSays (IsWritten n rule s a b) (Says n s a b) r)
    by (through e is) = let t = width_through n e in
        through e (subst (AndSays (IsWritten n rule s a b) (Says n s a b)) (sym is) (word_said 0 Exact (zero_written n t.0 t.1 rule s a b q) (size_exact n t.0 t.1 s 0 a b 0 (zero_value n t.0 t.1 s) (zero-mul b ∙ sym q))))
    by (refused e is) = refused e is

-- ---- what each rule makes of the nearest word
module _ (n : ℕ) (lo : 2 ≤ n) (hi : n ≤ 64) (s : Bool) (a b w : ℕ) (t : Saying) (nonzero : 0 < a) (some : 0 < b) (near : Nearest n s a b w) (says : Says n s a b w t) where
  -- strictly it is the word with exactly the value, or there is none
  strict_word : says_exact t ≡ true → IsExact n s a b w
  strict_word q = record { z = near.z; is = near.is; same = exact_size n lo hi s near.z a b w near.is (subst (Says n s a b w) (is_exact t q) says) }

  strict_refusal : says_exact t ≡ false → (w' : ℕ) → IsExact n s a b w' → ⊥
  strict_refusal q w' y =
      let same = nearest_one n lo hi s a b w' w some (exact_nearest n lo hi a b nonzero some s w' y) near in
      let exact = size_exact n lo hi s y.z a b w (subst (HasValue n s y.z) same y.is) y.same in
      true≢false (sym (ap says_exact (says_one n lo hi s a b w t Exact near.is.word says exact)) ∙ q)

  word_settled : (rule : Rule) → AndSays (IsWritten n rule s a b) (Says n s a b) (settled rule (written w t))
  unfolding settled IsWritten
  word_settled Rule.Rounded = word_said w t (other nonzero near) says
  word_settled Rule.Strict = by (says_exact t) refl
    where
      by : (e : Bool) → says_exact t ≡ e → AndSays (IsWritten n Rule.Strict s a b) (Says n s a b) (cond e (written w t) (Err Refusal.Inexact))
      by true q = word_said w t (strict_word q) says
      by false q = refusal_said Refusal.Inexact (refl, strict_refusal q)

-- what is found for a normal size is settled for each size that is offered so
pub settles : (n : ℕ) (rule : Rule) (s : Bool) (h : ℤ) (m below : ℕ) (found : Written) → 2 ^ 63 ≤ m → m < 2 ^ 64 → FindsAndSays n s h m below (Ok found) → (rest : Rest) → IsRest below rest → (a b : ℕ) → 0 < a → 0 < b → IsOffered m rest (h -ℤ pos 63) a b
    → AndSays (λ (r : Answer ℕ). Decided (width_test n) (λ q. r ≡ Err q) (IsWritten n rule s a b r)) (Says n s a b) (settled rule (Ok found))
unfolding FindsAndSays FindsNearest SaysFound SaysOffered IsSignedNearest GivesAWord word_of
settles n rule s h m below found full top finds rest is a b nonzero some offered = by finds.answers
  where
    same : 2 ^ 63 + m % 2 ^ 63 ≡ m
    same = omega (arith, full, top)

    by : FindsNearest n s h m below (Ok found.word) → AndSays (λ (r : Answer ℕ). Decided (width_test n) (λ q. r ≡ Err q) (IsWritten n rule s a b r)) (Says n s a b) (settled rule (Ok found))
    by (through e x) =
        let u = width_through n e in
        let offer = subst₂ (λ (m : ℕ) (rest : Rest). IsOffered m rest (h -ℤ pos 63) a b) (sym same) (rest_one below rest x.2 is x.3) offered in
        let near = subst (Nearest n s a b) (ap word_of (sym x.1)) (x.4 a b some offer) in
        decided_said (width_test n) (settled rule (Ok found)) (through e (word_settled n u.0 u.1 s a b found.word found.saying nonzero some near (finds.says found.word found.saying refl x.2 x.3 a b some offer) rule))
    by (refused e x) = absurd (subst GivesAWord x tt)

-- and what is refused is refused for the width
pub found_refused : (n : ℕ) (s : Bool) (h : ℤ) (m below : ℕ) (q : Refusal) → FindsAndSays n s h m below (Err q) → width_test n ≡ Err q
unfolding FindsAndSays FindsNearest GivesAWord
found_refused n s h m below q finds = by finds.answers
  where
    refusal_of : Answer ℕ → Refusal
    refusal_of (Ok w) = q
    refusal_of (Err p) = p

    by : FindsNearest n s h m below (Err q) → width_test n ≡ Err q
    by (through e x) = absurd (subst GivesAWord (sym x.1) tt)
    by (refused e x) = e ∙ ap Err (sym (ap refusal_of x))
