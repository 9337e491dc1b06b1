-- Every class of sizes holds a size, so it has one nearest word and one saying: two outcomes that the contract of `nearest` allows are equal. Assumes
-- nothing.
use Rattle.std.specs.Prelude.{Ok}
use Rattle.bounds.specs.Refusals.{Answer}
use mathlib.Core.Path.{◌≡◌, refl, sym, ap, ◌∙◌, subst}
use mathlib.Core.Bool.{Bool}
use Prim.Native.Nat.{ℕ, ◌+◌, ◌%◌, ◌^◌, ◌≤◌}
use native.Mathlib.Omega.{arith}
use lib.IntN.{ℤ, pos, ◌-ℤ◌}
use Rattle.bounds.specs.declared.answer.Written.{Written}
use Rattle.bounds.specs.declared.saying.Saying.{Saying}
use Rattle.bounds.specs.Refusals.{through, refused}
use Rattle.bounds.proofs.Answers.{word_of, GivesAWord, said_one}
use Rattle.bounds.proofs.Verdicts.{width_through, answered, refused_as}
use Rattle.nearest.specs.declared.size.Rest.{Rest}
use Rattle.nearest.specs.Nearest.{Nearest}
use Rattle.nearest.specs.Offers.{IsSignedNearest, IsRest, FindsNearest}
use Rattle.nearest.specs.Sayings.{SaysOffered, SaysFound, FindsAndSays}
use Rattle.nearest.proofs.Classes.{some_size}
use Rattle.nearest.proofs.Places.{nearest_one}
use Rattle.nearest.proofs.Sayings.{says_one}

class_one : (n : ℕ) → 2 ≤ n → n ≤ 64 → (negative : Bool) (h : ℤ) (m : ℕ) (rest : Rest) (w w' : ℕ) → IsSignedNearest n negative h m rest w → IsSignedNearest n negative h m rest w' → w ≡ w'
unfolding IsSignedNearest
class_one n lo hi negative h m rest w w' x y =
    let t = some_size m rest (h -ℤ pos 63) in
    nearest_one n lo hi negative t.0 t.1 w w' t.2 (x t.0 t.1 t.2 t.3) (y t.0 t.1 t.2 t.3)

-- what lies below has one class
pub rest_one : (below : ℕ) (rest rest' : Rest) → IsRest below rest → IsRest below rest' → rest ≡ rest'
unfolding IsRest
rest_one below Rest.Nothing Rest.Nothing x y = refl
rest_one below Rest.Nothing Rest.UnderHalf x y = absurd (omega (arith, x, y.0))
rest_one below Rest.Nothing Rest.Half x y = absurd (omega (arith, x, y))
rest_one below Rest.Nothing Rest.OverHalf x y = absurd (omega (arith, x, y))
rest_one below Rest.UnderHalf Rest.Nothing x y = absurd (omega (arith, x.0, y))
rest_one below Rest.UnderHalf Rest.UnderHalf x y = refl
rest_one below Rest.UnderHalf Rest.Half x y = absurd (omega (arith, x.1, y))
rest_one below Rest.UnderHalf Rest.OverHalf x y = absurd (omega (arith, x.1, y))
rest_one below Rest.Half Rest.Nothing x y = absurd (omega (arith, x, y))
rest_one below Rest.Half Rest.UnderHalf x y = absurd (omega (arith, x, y.1))
rest_one below Rest.Half Rest.Half x y = refl
rest_one below Rest.Half Rest.OverHalf x y = absurd (omega (arith, x, y))
rest_one below Rest.OverHalf Rest.Nothing x y = absurd (omega (arith, x, y))
rest_one below Rest.OverHalf Rest.UnderHalf x y = absurd (omega (arith, x, y.1))
rest_one below Rest.OverHalf Rest.Half x y = absurd (omega (arith, x, y))
rest_one below Rest.OverHalf Rest.OverHalf x y = refl

pub finds_nearest_one : (n : ℕ) (negative : Bool) (h : ℤ) (m below : ℕ) (a b : Answer ℕ) → FindsNearest n negative h m below a → FindsNearest n negative h m below b → a ≡ b
unfolding FindsNearest
finds_nearest_one n negative h m below a b (through v x) y =
    let t = width_through n v in
    let z = answered v y in
    let same = rest_one below z.2 x.2 z.3 x.3 in
    x.1 ∙ ap Ok (class_one n t.0 t.1 negative h (2 ^ 63 + m % 2 ^ 63) x.2 x.0 z.0 x.4 (subst (λ (rest : Rest). IsSignedNearest n negative h (2 ^ 63 + m % 2 ^ 63) rest z.0) same z.4)) ∙ sym z.1
finds_nearest_one n negative h m below a b (refused v x) y = x ∙ sym (refused_as _ v y)

-- and one saying, of the word that every size of the class has as its nearest
found_says_one : (n : ℕ) (negative : Bool) (h : ℤ) (m below w : ℕ) (s t : Saying) → FindsNearest n negative h m below (Ok w) → SaysFound n negative h m below w s → SaysFound n negative h m below w t → s ≡ t
unfolding FindsNearest SaysFound SaysOffered IsSignedNearest word_of GivesAWord
found_says_one n negative h m below w s t (through v x) p q =
    let b = width_through n v in
    let z = some_size (2 ^ 63 + m % 2 ^ 63) x.2 (h -ℤ pos 63) in
    let is = subst (λ (u : ℕ). Nearest n negative z.0 z.1 u) (ap word_of (sym x.1)) (x.4 z.0 z.1 z.2 z.3) in
    says_one n b.0 b.1 negative z.0 z.1 w s t is.is.word (p x.2 x.3 z.0 z.1 z.2 z.3) (q x.2 x.3 z.0 z.1 z.2 z.3)
found_says_one n negative h m below w s t (refused v x) p q = absurd (subst GivesAWord x tt)

pub finds_and_says_one : (n : ℕ) (negative : Bool) (h : ℤ) (m below : ℕ) (a b : Answer Written) → FindsAndSays n negative h m below a → FindsAndSays n negative h m below b → a ≡ b
unfolding FindsAndSays
finds_and_says_one n negative h m below a b x y = said_one (finds_nearest_one n negative h m below) (found_says_one n negative h m below) a b x y
