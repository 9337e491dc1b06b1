-- A block's text that is put to the start of the rest of a buffer: there is room for it, and it stands at its place of the whole. Assumes nothing.
use Rattle.std.proofs.Common.{◌≡◌, ℕ, ◌+◌, ◌-◌, ◌≤◌, List, [], ◌++◌, length, take, drop, sym, ap, ◌∙◌, ap₂, append_assoc, append-nil, le_of_eq, zero-add, arith, length-drop, drop_of_length-le, take_all, drop-drop}
use Rattle.bounds.specs.Refusals.{Answer}
use Rattle.bounds.proofs.Rooms.{room_fits}
use Rattle.bounds.proofs.Verdicts.{answered}
use Rattle.listing.specs.declared.blocks.Listed.{Listed}
use Rattle.listing.specs.Listing.{text_room, IsListed, ListsInto}
use Rattle.listing.specs.Puts.{Puts}

module _ (e : List ℕ) (at : ℕ) where
  -- the rest, as the code lends it, and what lies behind it
  abbrev pub rest : List ℕ
  rest = take (length e - at) (drop at e)

  abbrev pub behind : List ℕ
  behind = drop (length e - at) (drop at e)

  all : rest ≡ drop at e
  all = take_all (length e - at) (drop at e) (le_of_eq (length-drop at e))

  none : behind ≡ []
  none = drop_of_length-le (drop at e) (le_of_eq (length-drop at e))

  pub listed : (block : List ℕ) (i : ℕ) (f : List ℕ) (a : Answer Listed) → at + text_room ≤ length e → ListsInto block i rest f a → IsListed block i rest f a
  unfolding ListsInto
  listed block i f a h = let room : text_room ≤ length rest = omega (arith, ap length all, length-drop at e) in
      answered (room_fits text_room (length rest) room)

  pub at_its_place : (t f : List ℕ) (n : ℕ) → at ≤ length e → Puts rest 0 t f n → Puts e at t (take at e ++ (f ++ behind)) (at + n)
  at_its_place t f n h p =
      record {
        room = omega (arith, p.room, ap length all, length-drop at e);
        content = ap (λ (x : List ℕ). take at e ++ x) (ap₂ (λ (x y : List ℕ). x ++ y) start none ∙ append-nil (t ++ drop (at + length t) e)) ∙ sym (append_assoc (take at e) t (drop (at + length t) e));
        place = omega (arith, p.place);
      }
    where
      start : f ≡ t ++ drop (at + length t) e
      start = p.content ∙ ap (λ (k : ℕ). t ++ drop k rest) (zero-add (length t)) ∙ ap (λ (x : List ℕ). t ++ drop (length t) x) all ∙ ap (λ (x : List ℕ). t ++ x) (drop-drop (length t) at e)
