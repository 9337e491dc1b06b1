-- One listing: the definitions allow one text for a block at a place, and the contract of `list_block` one outcome. Assumes nothing.
use Rattle.std.specs.Prelude.{Ok, Err, Option}
use Rattle.bounds.specs.Refusals.{Answer}
use mathlib.Core.Path.{◌≡◌, sym, ap, ap₂, ◌∙◌, subst}
use mathlib.Core.List.{List, [], ◌∷◌, ◌++◌}
use Prim.Native.Nat.{ℕ, suc, ◌+◌, ◌-◌, ◌≤◌, ◌<◌}
use native.Mathlib.Nat.{pow-le-pow_right, le_antisymm}
use native.Mathlib.Decide.{dec_lt}
use native.Mathlib.Omega.{arith}
use lib.Dec.{lit<}
use lib.IntN.{ℤ, pos, negsuc}
use lib.ListN.{length, take, drop}
use Rattle.io.specs.Digits.{last_digits, IsDigitCount}
use Rattle.bounds.specs.declared.refusal.Refusal.{Refusal}
use Rattle.bounds.specs.Refusals.{number_of, through, refused}
use Rattle.bounds.proofs.Powers.{not_more}
use Rattle.bounds.proofs.Verdicts.{answered, refused_as}
use Rattle.sheet.specs.Layout.{width, block_number, words}
use Rattle.word.specs.declared.reading.Reading.{Reading}
use Rattle.word.proofs.Binades.{reads_one}
use Rattle.whole.specs.declared.taking.Taking.{Taking}
use Rattle.whole.proofs.OneOutcome.{takes_whole_one}
use Rattle.listing.specs.declared.blocks.Listed.{Listed}
use Rattle.listing.specs.Listing.{ListsBlock, IsListed, ListsInto}
use Rattle.listing.specs.Puts.{PutsSome}
use Rattle.listing.specs.Text.{own_of, minus, space, newline, block_text, refused_text, IsDecimal, IsSigned, IsShown, IsField, IsWholeText, IsOwnText, IsLine, AreLines, IsRefusedLine}

-- two counts of digits that are each the fewest
no_more : (n j k : ℕ) → IsDigitCount 10 1 n j → IsDigitCount 10 1 n k → k ≤ j
no_more n j k p q = by (dec_lt j k)
  where
    by : Dec (j < k) → k ≤ j
    by (yes l) =
        let long : 1 < k = omega (arith, p.0) in
        let less : j ≤ k - 1 = omega arith in
        absurd (omega (arith, p.1, q.2 long, pow-le-pow_right {n = 10} (lit< tt) {i = j} {j = k - 1} less))
    by (no f) = not_more f

decimal_one : (n : ℕ) (t u : List ℕ) → IsDecimal n t → IsDecimal n u → t ≡ u
unfolding IsDecimal
decimal_one n t u (j, p, e) (k, q, f) = e ∙ ap (λ (i : ℕ). last_digits 10 i n) (le_antisymm (no_more n k j q p) (no_more n j k p q)) ∙ sym f

signed_one : (x : ℤ) (t u : List ℕ) → IsSigned x t → IsSigned x u → t ≡ u
unfolding IsSigned
signed_one (pos n) t u p q = decimal_one n t u p q
signed_one (negsuc n) t u (d, p, e) (d', q, f) = e ∙ ap (λ (x : List ℕ). minus ∷ x) (decimal_one (suc n) d d' p q) ∙ sym f

shown_one : (a : Answer ℤ) (t u : List ℕ) → IsShown a t → IsShown a u → t ≡ u
unfolding IsShown
shown_one (Ok x) t u p q = signed_one x t u p q
shown_one (Err r) t u p q = p ∙ sym q

field_one : (n : ℕ) (t u : List ℕ) → IsField n t → IsField n u → t ≡ u
unfolding IsField
field_one n t u (d, p, e) (d', q, f) = e ∙ ap (λ (x : List ℕ). x ++ (space ∷ [])) (decimal_one n d d' p q) ∙ sym f

whole_one : (n w : ℕ) (t u : List ℕ) → IsWholeText n w t → IsWholeText n w u → t ≡ u
unfolding IsWholeText
whole_one n w t u (a, d, x, p, e) (b, d', y, q, f) =
    e ∙ ap (λ (x : List ℕ). (space ∷ []) ++ x) (shown_one b d d' (subst (λ (a : Answer ℤ). IsShown a d) (takes_whole_one n Taking.Nearest w a b x y) p) q) ∙ sym f

own_one : (n w : ℕ) (t u : List ℕ) → IsOwnText n w t → IsOwnText n w u → t ≡ u
unfolding IsOwnText
own_one n w t u (a, d, x, p, e) (b, d', y, q, f) =
    e ∙ ap (λ (x : List ℕ). (space ∷ []) ++ x) (decimal_one (own_of b) d d' (subst (λ (a : Answer Reading). IsDecimal (own_of a) d) (reads_one n w a b x y) p) q) ∙ sym f

line_one : (number position n w : ℕ) (t u : List ℕ) → IsLine number position n w t → IsLine number position n w u → t ≡ u
unfolding IsLine
line_one number position n w t u (b, p, x, o, hb, hp, hx, ho, e) (b', p', x', o', kb, kp, kx, ko, f) =
    e ∙ rw (field_one number b b' hb kb, field_one position p p' hp kp, whole_one n w x x' hx kx, own_one n w o o' ho ko) (sym f)

lines_one : (number n position : ℕ) (ws t u : List ℕ) → AreLines number n position ws t → AreLines number n position ws u → t ≡ u
unfolding AreLines
lines_one number n position [] t u p q = p ∙ sym q
lines_one number n position (w ∷ ws) t u (l, r, x, p, e) (l', r', y, q, f) =
    e ∙ ap₂ (λ (y z : List ℕ). y ++ z) (line_one number position n w l l' x y) (lines_one number n (suc position) ws r r' p q) ∙ sym f

refused_line_one : (i : ℕ) (r : Refusal) (t u : List ℕ) → IsRefusedLine i r t → IsRefusedLine i r u → t ≡ u
unfolding IsRefusedLine
refused_line_one i r t u (d, n, p, x, e) (d', n', q, y, f) =
    e ∙ ap₂ (λ (y z : List ℕ). block_text ++ y ++ refused_text ++ z ++ (newline ∷ [])) (decimal_one i d d' p q) (decimal_one (number_of r) n n' x y) ∙ sym f

-- a block has one listing
pub block_one : (block : List ℕ) (i : ℕ) (t u : List ℕ) → ListsBlock block i t → ListsBlock block i u → t ≡ u
unfolding ListsBlock
block_one block i t u (through h x) y = lines_one (block_number block) (width block) 0 (words block) t u x (answered h y)
block_one block i t u (refused {q = q} h x) y = refused_line_one i q t u x (refused_as q h y)

-- a text that is put has one content and one place after it
puts_one : (P : List ℕ → Type 0) → ((t u : List ℕ) → P t → P u → t ≡ u) → (before : List ℕ) (at : ℕ) (f : List ℕ) (n : ℕ) (g : List ℕ) (m : ℕ) → PutsSome P before at f n → PutsSome P before at g m → (n ≡ m) × (f ≡ g)
unfolding PutsSome
puts_one P one before at f n g m (t, x, p) (u, y, q) =
    let same = one t u x y in
    (p.place ∙ ap (λ (v : List ℕ). at + length v) same ∙ sym q.place, p.content ∙ ap (λ (v : List ℕ). take at before ++ v ++ drop (at + length v) before) same ∙ sym q.content)

listed_one : (block : List ℕ) (i : ℕ) (before f g : List ℕ) (a b : Answer Listed) → IsListed block i before f a → IsListed block i before g b → (a ≡ b) × (f ≡ g)
unfolding IsListed
listed_one block i before f g (Ok a) (Ok b) x y =
    let same = puts_one (ListsBlock block i) (block_one block i) before 0 f a.length g b.length x.0 y.0 in
    let why = x.2 ∙ sym y.2 in
    (ap₂ (λ (n : ℕ) (q : Option Refusal). Ok (record { length = n; refused = q })) same.0 why, same.1)
listed_one block i before f g (Err q) b x y = absurd x
listed_one block i before f g (Ok a) (Err q) x y = absurd y

-- what the call answers, and what the lent slice holds afterwards
pub lists_into_one : (block : List ℕ) (i : ℕ) (before f g : List ℕ) (a b : Answer Listed) → ListsInto block i before f a → ListsInto block i before g b → (a ≡ b) × (f ≡ g)
unfolding ListsInto
lists_into_one block i before f g a b (through h x) y = listed_one block i before f g a b x (answered h y)
lists_into_one block i before f g a b (refused {q = q} h x) y = let z = refused_as q h y in
    (x.0 ∙ sym z.0, x.1 ∙ sym z.1)
