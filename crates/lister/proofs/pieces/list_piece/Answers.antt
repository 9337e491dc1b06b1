-- `list_piece` meets its contract: it goes on only where bytes came, and is complete only where none did and the text is written. Assumes nothing.
use Rattle.std.proofs.Common.{◌≡◌, ℕ, ◌+◌, ◌/◌, ◌≤◌, length, Option, sym, ap, ◌∙◌, arith, length-take-le}
use Rattle.std.specs.Option.{unwrap_or}
use Rattle.listing.specs.Puts.{PutsSome}
use Rattle.listing.proofs.Placed as Placed
use Rattle.lister.specs.Endings.{IsEnding, GoesOn}
use Rattle.lister.proofs.Endings.{cut_ends}
use Rattle.lister.proofs.pieces.list_piece.Goals.{After-put_arrived-run}
use Rattle.lister.proofs.pieces.list_piece.Goals as goal

inside : (c : After-put_arrived-run) → c.put_arrived-run.result.length ≤ length c.put_arrived-run.new.text
unfolding PutsSome
inside c = let p = c.put_arrived-run.ensures.0.2 in
    omega (arith, p.place, p.room, Placed.same_length _ _ _ _ _ p)

pub slice_bounds-write_all-end : goal.slice_bounds-write_all-end
slice_bounds-write_all-end c = inside (goal.at.slice_bounds-write_all-end c).After-put_arrived-run

pub slice_bounds-write_all-end-2 : goal.slice_bounds-write_all-end-2
slice_bounds-write_all-end-2 c = sym (length-take-le _ _ (inside (goal.at.slice_bounds-write_all-end-2 c).After-put_arrived-run))

pub returns-in-Err : goal.returns-in-Err
unfolding GoesOn
returns-in-Err c = cut_ends c.cut_by.ensures

pub returns-in-None : goal.returns-in-None
unfolding GoesOn IsEnding
returns-in-None c = tt

pub returns-in-Some-eq0 : goal.returns-in-Some-eq0
unfolding GoesOn IsEnding
returns-in-Some-eq0 c =
    let some = c.in-Some-eq0 in
    c.put_arrived-run.ensures.2 (c.unwrap_or.ensures ∙ ap (λ (o : Option ℕ). unwrap_or o 0) some.is ∙ sym some.field-0-is ∙ some.field-0-test)

pub returns-in-Some : goal.returns-in-Some
unfolding GoesOn IsEnding
returns-in-Some c =
    let some = c.in-Some in
    let not_0 = rw some.is at some.count-test.1 in
    let got : c.unwrap_or.result ≡ some.count = c.unwrap_or.ensures ∙ ap (λ (o : Option ℕ). unwrap_or o 0) some.is in
    let place = c.put_arrived-run.ensures.3 (omega (arith, not_0, got)) ∙ ap (λ (n : ℕ). (c.args.total + n) / 512) got in
    omega (arith, not_0, place)
