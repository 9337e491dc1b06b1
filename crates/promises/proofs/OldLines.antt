-- The promises that specs/OldLines.antt states: no byte of a field ends a line, and a line that isn't old ends in a decimal digit. Assumes nothing.
use Rattle.std.specs.Prelude.{Ok, Err}
use mathlib.Core.Path.{◌≡◌, refl, sym, ap, ap₂, ◌∙◌, subst}
use mathlib.Core.Bool.{Bool, true, false, cond, not, ◌&&◌, and_assoc}
use mathlib.Core.List.{List, [], ◌∷◌, ◌++◌, append-nil, reverse, reverse_aux-append, head-eq_of_cons-eq}
use Prim.Native.Nat.{ℕ, zero, suc, ◌+◌, ◌/◌, ◌%◌}
use native.Mathlib.Omega.{arith}
use lib.Dec.{eqb, ltb}
use lib.IntN.{ℤ, pos, negsuc}
use lib.ListN.{length, take, drop}
use lib.Seq.{append_snoc, take_all, take-append-le}
use borrow.Author.Tests.{lt-ltb, ne_eqb, eqb-false, not-true}
use Rattle.io.specs.Digits.{hex_digit_ascii, last_digits}
use Rattle.bounds.specs.declared.refusal.Refusal.{Refusal}
use Rattle.bounds.specs.Refusals.{number_of, through, refused, Answer}
use Rattle.bounds.proofs.Verdicts.{both}
use Rattle.sheet.specs.Layout.{width, count, block_number, words}
use Rattle.sheet.specs.Writes.{is_retired}
use Rattle.sheet.proofs.Results.{words_length}
use Rattle.sheet.proofs.Tests.{not_both}
use Rattle.listing.specs.declared.blocks.Listed.{Listed}
use Rattle.listing.specs.Listing.{ListsBlock, IsListed, ListsInto}
use Rattle.listing.specs.Puts.{PutsSome}
use Rattle.listing.specs.Text.{minus, space, newline, nar, over, old, old_text, refusal_text, block_text, refused_text, hex_of, own_of, IsDecimal, IsSigned, IsShown, IsField, IsWholeText, IsOwnText, IsLine, AreLines, IsRefusedLine}
use Rattle.listing.proofs.Old.{is_old, isn't_old}
use Rattle.promises.specs.OldLines as promise
use Rattle.promises.specs.OldLines.{IsUnbroken, EachLine, none, more, EndsInOld}
use Rattle.promises.proofs.WordRefusals.{answer_none}

-- ---- no byte ends the line: a test, which a fixed text passes by computing
abbrev passes : List ℕ → Bool
passes [] = true
passes (b ∷ t) = not (eqb b newline) && passes t

unbroken : (t : List ℕ) → passes t ≡ true → IsUnbroken t
unfolding IsUnbroken
unbroken [] h i l = absurd (omega arith)
unbroken (b ∷ t) h zero l = eqb-false b newline (not-true _ (both (not (eqb b newline)) (passes t) h).0)
unbroken (b ∷ t) h (suc i) l = unbroken t (both (not (eqb b newline)) (passes t) h).1 i (omega arith)

joined : (t u : List ℕ) → passes (t ++ u) ≡ passes t && passes u
joined [] u = refl
joined (b ∷ t) u = rw (joined t u) (sym (and_assoc (not (eqb b newline)) (passes t) (passes u)))

either : (b : Bool) (t u : List ℕ) → passes t ≡ true → passes u ≡ true → passes (cond b t u) ≡ true
either true t u h k = h
either false t u h k = k

-- the fields of a line pass it
glyph_other : (d : ℕ) → eqb (hex_digit_ascii d) newline ≡ false
unfolding newline
glyph_other d = ne_eqb (hex_digit_ascii d) newline (by (ltb d 10))
  where
    by : (b : Bool) → cond b (48 + d) (87 + d) ≡ newline → ⊥
    by true e = omega arith
    by false e = omega arith

digits_pass : (b k n : ℕ) → passes (last_digits b k n) ≡ true
digits_pass b zero n = refl
digits_pass b (suc k) n = simp (joined, digits_pass b k (n / b), glyph_other)

decimal_passes : (n : ℕ) (t : List ℕ) → IsDecimal n t → passes t ≡ true
unfolding IsDecimal
decimal_passes n t (k, fewest, e) = ap passes e ∙ digits_pass 10 k n

field_passes : (n : ℕ) (t : List ℕ) → IsField n t → passes t ≡ true
unfolding IsField space newline
field_passes n t (d, x, e) = ap passes e ∙ simp (joined, decimal_passes n d x)

shown_passes : (a : Answer ℤ) (t : List ℕ) → IsShown a t → passes t ≡ true
unfolding IsShown IsSigned refusal_text minus newline nar over
shown_passes (Ok (pos n)) t x = decimal_passes n t x
shown_passes (Ok (negsuc n)) t (d, x, e) = ap passes e ∙ decimal_passes (suc n) d x
shown_passes (Err q) t e = ap passes e ∙ either (eqb (number_of q) 5) over nar refl refl

whole_passes : (n w : ℕ) (t : List ℕ) → IsWholeText n w t → passes t ≡ true
unfolding IsWholeText space newline
whole_passes n w t (a, d, y, x, e) = ap passes e ∙ shown_passes a d x

old_passes : (n : ℕ) → passes (old_text n) ≡ true
unfolding old_text old space newline
old_passes n = either (is_retired n) old [] refl refl

-- ---- what ends in a decimal digit doesn't end in ` old`
not_old : (f d : List ℕ) (n : ℕ) → IsDecimal n d → EndsInOld (f ++ d) → ⊥
unfolding IsDecimal EndsInOld old
not_old f d n (zero, fewest, e) x = omega (arith, fewest.0)
not_old f d n (suc k, fewest, e) (g, q) =
    let digit = reverse_aux-append f (last_digits 10 (suc k) n) [] ∙ reverse_aux-append (last_digits 10 k (n / 10)) (hex_digit_ascii (n % 10) ∷ []) (reverse f) in
    let last : hex_digit_ascii (n % 10) ≡ 0x64 = head-eq_of_cons-eq (sym digit ∙ ap (λ (t : List ℕ). reverse (f ++ t)) (sym e) ∙ ap reverse q ∙ reverse_aux-append g old []) in
    omega (arith, rw (lt-ltb (n % 10) 10 (omega arith)) at last)

-- ---- lines, one after the other
-- a line of which P is so, and its end
abbrev IsEnded : (List ℕ → Type 0) → List ℕ → Type 0
IsEnded P t = (l : List ℕ) × (passes l ≡ true) × P l × (t ≡ l ++ (newline ∷ []))

module _ (P : List ℕ → Type 0) where
  first : (k : ℕ) (t u : List ℕ) → IsEnded P t → EachLine P k u → EachLine P (suc k) (t ++ u)
  first k t u (l, h, p, e) r = subst (EachLine P (suc k)) (sym (ap (λ (x : List ℕ). x ++ u) e ∙ append_snoc l newline u)) (more (unbroken l h) p r)

  -- a line of a block ends in decimal digits and in what its width adds: what is so of every such text is so of each line
  module _ (number n : ℕ) (so : (f d : List ℕ) (own : ℕ) → IsDecimal own d → P (f ++ d ++ old_text n)) where
    line : (position w : ℕ) (t : List ℕ) → IsLine number position n w t → IsEnded P t
    unfolding IsLine IsOwnText hex_of space newline
    line position w t (b, p, x, o, hb, hp, hx, (a, d, y, hd, eo), e) =
        let f = b ++ p ++ hex_of n w ++ x ++ (space ∷ []) in
        (f ++ d ++ old_text n, simp (joined, field_passes number b hb, field_passes position p hp, digits_pass, whole_passes n w x hx, decimal_passes (own_of a) d hd, old_passes), so f d (own_of a) hd, cc (append_snoc (b ++ p ++ hex_of n w ++ x) space d))

    lines : (position : ℕ) (ws t : List ℕ) → AreLines number n position ws t → EachLine P (length ws) t
    unfolding AreLines
    lines position [] t e = subst (EachLine P 0) (sym e) none
    lines position (w ∷ ws) t (l, u, x, y, e) = subst (EachLine P (suc (length ws))) (sym e) (first (length ws) l u (line position w l x) (lines (suc position) ws u y))

refused_line : (i : ℕ) (q : Refusal) (t : List ℕ) → IsRefusedLine i q t → IsEnded (λ l. EndsInOld l → ⊥) t
unfolding IsRefusedLine block_text refused_text space newline
refused_line i q t (d, r, x, y, e) =
    let f = block_text ++ d ++ refused_text in
    (f ++ r, simp (joined f r, joined d refused_text, decimal_passes i d x, decimal_passes (number_of q) r y), not_old f r (number_of q) y, e)

-- ---- what the call has put is a text of the block
is_text : (block : List ℕ) (i : ℕ) (before after : List ℕ) (put : Listed) → ListsInto block i before after (Ok put) → ListsBlock block i (take put.length after)
unfolding ListsInto IsListed PutsSome
is_text block i before after put (through h ((t, x, p), room, number)) = subst (ListsBlock block i) (sym (ap₂ take p.place p.content ∙ take-append-le (0 + length t) t (drop (0 + length t) before) (omega arith) ∙ take_all (0 + length t) t (omega arith))) x
is_text block i before after put (refused {q = q} h x) = absurd (answer_none put (Ok put) refl q x.0)

-- ---- the promises
pub the_lines_of_an_old_block_end_in_old : promise.TheLinesOfAnOldBlockEndInOld
unfolding promise.TheLinesOfAnOldBlockEndInOld ListsBlock EndsInOld
the_lines_of_an_old_block_end_in_old block i before after put listed pass wide = by (is_text block i before after put listed)
  where
    by : ListsBlock block i (take put.length after) → EachLine EndsInOld (count block) (take put.length after)
    by (through h x) = subst (λ (k : ℕ). EachLine EndsInOld k (take put.length after)) (words_length block) (lines EndsInOld (block_number block) (width block) (λ f d own y. (f ++ d, ap (λ (o : List ℕ). f ++ d ++ o) (is_old (width block) (omega (arith, wide))))) 0 (words block) (take put.length after) x)
    by (refused h x) = absurd (not_both pass h)

pub no_other_line_ends_in_old : promise.NoOtherLineEndsInOld
unfolding promise.NoOtherLineEndsInOld ListsBlock
no_other_line_ends_in_old block i before after put listed other = by (is_text block i before after put listed)
  where
    by : ListsBlock block i (take put.length after) → (k : ℕ) × EachLine (λ l. EndsInOld l → ⊥) k (take put.length after)
    by (through h x) = (_, lines _ (block_number block) (width block) (λ f d own y. rw (isn't_old (width block) (λ e. omega (arith, e, other h)), append-nil) (not_old f d own y)) 0 (words block) (take put.length after) x)
    by (refused {q = q} h x) = (1, rw append-nil at (first _ 0 (take put.length after) [] (refused_line i q (take put.length after) x) none))
