-- Text at a place of a buffer: one after another, nothing at all, and one digit in front of the digits that stand. Assumes nothing.
use mathlib.Core.Path.{◌≡◌, refl, sym, ap, ap₂, ◌∙◌, subst}
use mathlib.Core.List.{List, [], ◌∷◌, ◌++◌, append_assoc, append-nil}
use Prim.Native.Nat.{ℕ, suc, ◌+◌, ◌≤◌, ◌<◌}
use native.Mathlib.Nat.{le_trans, le_of_lt, le-add_right, add_assoc, add-zero}
use native.Mathlib.Omega.{arith}
use lib.ListN.{length, take, drop, set, get_or, length-append, length-drop, take-append-drop}
use lib.Seq.{length-take-le, take-suc, append_snoc, set_at, take_at, drop-append-add, drop-drop}
use Rattle.listing.specs.declared.text.Text.{Text}
use Rattle.listing.specs.Puts.{Puts}
use Rattle.listing.specs.Adds.{Adds}

-- how long the buffer is before the place and the text, and afterwards
head_length : (e : List ℕ) (at : ℕ) (t : List ℕ) → at + length t ≤ length e → length (take at e ++ t) ≡ at + length t
head_length e at t h = length-append (take at e) t ∙ ap (λ (k : ℕ). k + length t) (length-take-le at e (le_trans (le-add_right at (length t)) h))

pub same_length : (e : List ℕ) (at : ℕ) (t f : List ℕ) (r : ℕ) → Puts e at t f r → length f ≡ length e
same_length e at t f r p =
    ap length p.content ∙ length-append (take at e ++ t) (drop (at + length t) e) ∙ ap₂ (λ (x y : ℕ). x + y) (head_length e at t p.room) (length-drop (at + length t) e) ∙ omega (arith, p.room)

-- one text after another
pub joined : (e : List ℕ) (at : ℕ) (t f : List ℕ) (i : ℕ) (u g : List ℕ) (r : ℕ) → Puts e at t f i → Puts f i u g r → Puts e at (t ++ u) g r
joined e at t f i u g r p q =
    record {
      room = subst (λ (k : ℕ). at + k ≤ length e) (sym (length-append t u)) (omega (arith, q.room, p.place, same_length e at t f i p));
      content =
          q.content ∙ ap₂ (λ (x y : List ℕ). x ++ u ++ y) before after
          ∙ ap (λ (x : List ℕ). x ++ drop (at + length (t ++ u)) e) (append_assoc (take at e) t u);
      place = q.place ∙ ap (λ (k : ℕ). k + length u) p.place ∙ add_assoc at (length t) (length u) ∙ ap (λ (k : ℕ). at + k) (sym (length-append t u));
    }
  where
    head : length (take at e ++ t) ≡ i
    head = head_length e at t p.room ∙ sym p.place

    before : take i f ≡ take at e ++ t
    before = ap (take i) p.content ∙ take_at (take at e ++ t) (drop (at + length t) e) i head

    after : drop (i + length u) f ≡ drop (at + length (t ++ u)) e
    after =
        ap (drop (i + length u)) p.content ∙ ap (λ (k : ℕ). drop (k + length u) (take at e ++ t ++ drop (at + length t) e)) (sym head)
        ∙ drop-append-add (take at e ++ t) (drop (at + length t) e) (length u) ∙ drop-drop (length u) (at + length t) e
        ∙ ap (λ (k : ℕ). drop k e) (add_assoc at (length t) (length u) ∙ ap (λ (k : ℕ). at + k) (sym (length-append t u)))

-- a byte in front of the text that stands at i + 1
pub in_front : (e t : List ℕ) (i b : ℕ) → i < length e → set (take (suc i) e ++ t) i b ≡ take i e ++ (b ∷ t)
in_front e t i b h =
    ap (λ (x : List ℕ). set (x ++ t) i b) (take-suc e i 0 h) ∙ ap (λ (x : List ℕ). set x i b) (append_snoc (take i e) (get_or e i 0) t)
    ∙ set_at (take i e) (get_or e i 0) t b i (length-take-le i e (le_of_lt h))

-- nothing at all
pub nothing_put : (e : List ℕ) (at : ℕ) → at ≤ length e → Puts e at [] e at
nothing_put e at h =
    record {
      room = subst (λ (k : ℕ). k ≤ length e) (sym (add-zero at)) h;
      content = sym (ap₂ (λ (x : List ℕ) (k : ℕ). x ++ drop k e) (append-nil (take at e)) (add-zero at) ∙ take-append-drop at e);
      place = sym (add-zero at);
    }

-- ---- the same of a buffer with its place
pub joined_adds : {a b c : Text} {t u : List ℕ} → Adds a t b → Adds b u c → Adds a (t ++ u) c
joined_adds p q = record { puts = joined _ _ _ _ _ _ _ _ p.puts q.puts; same_buffer = q.same_buffer ∙ p.same_buffer }

pub nothing_added : (a : Text) → a.at ≤ length a.out.now → Adds a [] a
nothing_added a h = record { puts = nothing_put a.out.now a.at h; same_buffer = refl }
