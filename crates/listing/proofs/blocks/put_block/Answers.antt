-- `put_block` meets its contract. Assumes nothing.
use Rattle.std.proofs.Common.{◌≡◌, ℕ, ◌≤◌, List, length, replicate, refl, sym, arith, length-take-le}
use Rattle.listing.specs.Listing.{most, text_room}
use Rattle.listing.proofs.ReadOut.{narrow, few, lines_listed, not_refused, refused_listed, is_why}
use Rattle.listing.proofs.blocks.put_block.Goals.{In-Ok}
use Rattle.listing.proofs.blocks.put_block.Goals as goal

-- the places for the words, as many as a block may have
abbrev places : List ℕ
places = replicate 496 1

sized : length places ≡ most
unfolding most
sized = refl

fits : (c : In-Ok) → c.in-Ok.read.count ≤ length c.read_block.new.results
fits c = omega (arith, few _ places _ _ sized c.in-Ok.ensures.reads_block c.in-Ok.ensures.fills_results, sized, c.read_block.auto.results)

pub slice_bounds-words-end : goal.slice_bounds-words-end
slice_bounds-words-end c = fits (goal.at.slice_bounds-words-end c).In-Ok

pub slice_bounds-put_lines-end : goal.slice_bounds-put_lines-end
slice_bounds-put_lines-end c = sym (length-take-le _ _ (fits (goal.at.slice_bounds-put_lines-end c).In-Ok))

pub put_lines-requires : goal.put_lines-requires
unfolding text_room most
put_lines-requires c =
    let r = c.in-Ok.ensures in
    let n = few _ places _ _ sized r.reads_block r.fills_results in
    let size = length-take-le _ _ (fits (goal.at.put_lines-requires c).In-Ok) in
    (narrow _ places _ _ sized r.reads_block r.fills_results, omega (arith, size, n), omega (arith, size, n, c.requires))

pub put_refused-requires : goal.put_refused-requires
unfolding text_room
put_refused-requires c = omega (arith, c.requires)

pub returns-in-Ok : goal.returns-in-Ok
unfolding text_room most
returns-in-Ok c =
    let p = c.put_lines.ensures in
    let r = c.in-Ok.ensures in
    let n = few _ places _ _ sized r.reads_block r.fills_results in
    let size = length-take-le _ _ (fits (goal.at.returns-in-Ok c).In-Ok) in (
      record { text = p.text; is = lines_listed _ places _ _ sized r.reads_block r.fills_results _ _ p.is; short = omega (arith, p.short, size, n); adds = p.adds },
      not_refused _ places _ _ sized r.reads_block r.fills_results,
    )

pub returns-in-Err : goal.returns-in-Err
unfolding text_room
returns-in-Err c =
    let p = c.put_refused.ensures in
    let r = c.in-Err.ensures.reads_block in
    (record { text = p.text; is = refused_listed _ (length places) _ sized r _ _ p.is; short = omega (arith, p.short); adds = p.adds }, is_why _ (length places) _ sized r)
