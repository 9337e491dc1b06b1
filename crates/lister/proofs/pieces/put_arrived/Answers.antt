-- `put_arrived` meets its contract: the run lies in the buffer, there is room for its text, and its place follows from the bytes read. Assumes nothing.
use Rattle.std.proofs.Common.{◌≡◌, ℕ, ◌+◌, ◌-◌, ◌/◌, ◌%◌, ◌≤◌, List, length, take, drop, sym, ap, ◌∙◌, subst, arith}
use Rattle.listing.specs.Puts.{PutsSome}
use Rattle.lister.specs.Arrived.{whole_blocks, until, arrived}
use Rattle.lister.specs.Counts.{CountsBlocks}
use Rattle.lister.specs.Runs.{blocks, ListsBlocks}
use Rattle.lister.proofs.Turns.{within, run_length, place_at_the_end, place_after}
use Rattle.lister.proofs.pieces.put_arrived.Goals as goal

-- the run as the code takes it from the buffer
module _ (total got end : ℕ) (piece : List ℕ) (fits : total % 8192 + got ≤ 8192) (is_end : end ≡ until (total % 8192 + got) got) where
  abbrev start : ℕ
  start = whole_blocks (total % 8192)

  lies : (start ≤ end) × (end ≤ 8192)
  lies = subst (λ (e : ℕ). (start ≤ e) × (e ≤ 8192)) (sym is_end) (within (total % 8192) got fits)

  is_arrived : take (end - start) (drop start piece) ≡ arrived total got piece
  unfolding arrived
  is_arrived = ap (λ (e : ℕ). take (e - start) (drop start piece)) is_end

  long : length piece ≡ 8192 → length (take (end - start) (drop start piece)) ≡ until (total % 8192 + got) got - start
  long size = ap length is_arrived ∙ run_length total got piece size fits

pub slice_bounds-put_blocks-count : goal.slice_bounds-put_blocks-count
slice_bounds-put_blocks-count c = (lies _ _ _ c.args.piece.now c.requires.3 c.whole_until-end.ensures).0

pub slice_bounds-put_blocks-start : goal.slice_bounds-put_blocks-start
slice_bounds-put_blocks-start c =
    let l = lies _ _ _ c.args.piece.now c.requires.3 c.whole_until-end.ensures in
    omega (arith, l.0, l.1, c.requires.0)

pub slice_bounds-put_blocks-end : goal.slice_bounds-put_blocks-end
slice_bounds-put_blocks-end c =
    let l = lies _ _ _ c.args.piece.now c.requires.3 c.whole_until-end.ensures in
    omega (arith, l.0, l.1, c.requires.0)

pub put_blocks-requires : goal.put_blocks-requires
put_blocks-requires c =
    let few = within (c.args.total % 8192) c.args.got c.requires.3 in
    let size = long _ _ _ c.args.piece.now c.requires.3 c.whole_until-end.ensures c.requires.0 in
    (omega (arith, size, few.1, c.requires.1), omega (arith, size, few.1, c.requires.2))

pub returns : goal.returns
returns c =
    let p = c.put_blocks in
    let e = p.ensures in
    let total = c.args.total in
    let is = is_arrived _ _ _ c.args.piece.now c.requires.3 c.whole_until-end.ensures in
    let placed = e.1 ∙ ap (λ (n : ℕ). total / 512 + blocks n) (long _ _ _ c.args.piece.now c.requires.3 c.whole_until-end.ensures c.requires.0) in (
      subst (λ (bs : List ℕ). PutsSome (ListsBlocks bs (total / 512)) c.args.text.now 0 p.new.out p.result.length) is e.0,
      subst (λ (bs : List ℕ). CountsBlocks bs c.args.counts.now.by_number p.new.counts.by_number) is e.2,
      λ h. placed ∙ place_at_the_end total c.args.got h,
      λ h. placed ∙ place_after total c.args.got h,
    )
