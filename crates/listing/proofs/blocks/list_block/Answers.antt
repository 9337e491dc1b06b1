-- `list_block` meets its contract: what the test of the room refuses leaves the slice as it came, and else there is room for the text. Assumes nothing.
use Rattle.std.proofs.Common.{◌≡◌, ℕ, List, refl, sym, ap, ◌∙◌, subst, rules, arith}
use Rattle.std.specs.Prelude.{Err}
use Rattle.std.proofs.lemmas.Result.{err_from_is_err_and}
use Rattle.bounds.specs.declared.refusal.Refusal.{Refusal}
use Rattle.bounds.specs.Refusals.{through, refused}
use Rattle.bounds.proofs.Rooms.{room_through}
use Rattle.listing.specs.declared.text.Text.{Text}
use Rattle.listing.specs.Adds.{AddsSome}
use Rattle.listing.specs.Puts.{Puts, PutsSome}
use Rattle.listing.specs.Listing.{text_room, ListsInto, IsListed}
use Rattle.listing.proofs.blocks.list_block.Goals as goal

-- the slice afterwards is what the buffer held
in_slice : (n : ℕ) (P : List ℕ → Type 0) (before after : Text) (out : List ℕ) → AddsSome n P before after → out ≡ after.out.now → PutsSome P before.out.now before.at out after.at
unfolding PutsSome
in_slice n P before after out p e = (p.text, p.is, subst (λ (o : List ℕ). Puts before.out.now before.at p.text o after.at) (sym e) p.adds.puts)

pub returns-in_err-test_room : goal.returns-in_err-test_room
unfolding ListsInto text_room
returns-in_err-test_room c =
    let p = err_from_is_err_and c.from_residual.result c.from_residual.ensures.1 in
    refused (sym c.in_err-test_room.ensures) (p.1 ∙ ap (λ (q : Refusal). Err q) p.2, refl)

pub put_block-refused-requires : goal.put_block-refused-requires
unfolding text_room
put_block-refused-requires c = room_through 47616 _ (sym c.in_ok-test_room.ensures)

pub returns : goal.returns
unfolding ListsInto IsListed text_room
returns c =
    let p = c.put_block-refused.ensures in
    let same = sym p.0.adds.same_buffer in
    through (sym c.in_ok-test_room.ensures) (in_slice _ _ _ _ _ p.0 (search rules), omega (arith, p.0.short, p.0.adds.puts.place), p.1)
