-- `put_blocks` meets its contract. Assumes nothing.
use Rattle.std.proofs.Common.{ℕ, ◌+◌, List, ◌++◌, length, min, sym, ap, ◌∙◌, subst, arith, length-drop}
use Rattle.std.specs.Slice.Iter.{chunks_rest}
use Rattle.sheet.specs.Reads.{block_test}
use Rattle.listing.specs.Listing.{most, text_room, ListsBlock, refusal_number}
use Rattle.listing.specs.Puts.{PutsSome}
use Rattle.listing.proofs.Placed.{joined}
use Rattle.lister.specs.Counts.{with_one_more}
use Rattle.lister.proofs.Chunks.{next_piece, nothing}
use Rattle.lister.proofs.Counted as Counted
use Rattle.lister.proofs.Gathered.{SoFar, one_more, all_of_them}
use Rattle.lister.proofs.runs.put_blocks.Goals as goal

pub put_block-at-requires : goal.put_block-at-requires
unfolding text_room
put_block-at-requires c =
    let k = c.loop-block.invariant in
    omega (arith, k.1, k.2, k.3, c.in-Some.ensures.steps.1.2, c.requires.0, c.loop-block.auto.out)

pub loop-block-preserved : goal.loop-block-preserved
unfolding PutsSome text_room
loop-block-preserved c =
    let l = c.loop-block in
    let k = l.invariant in
    let rest = chunks_rest l.block-iterator in
    let s = c.in-Some.ensures.steps in
    let some = s.1.2 in
    let next = next_piece rest c.in-Some.block.now (chunks_rest c.next.new.self) s.1.0 (s.1.1 ∙ ap (λ (n : ℕ). min n (length rest)) k.0) in
    let p = c.put_block-at.ensures in (
      s.0 ∙ k.0,
      omega (arith, k.1, some, ap length next.1, length-drop 512 rest),
      omega (arith, k.2, p.1),
      omega (arith, k.3),
      k.4 ++ p.0.0,
      joined _ _ _ _ _ _ _ _ k.5 p.0.2,
      subst (λ (r : List ℕ). SoFar c.args.piece.now c.args.place r (l.here + 1) (k.4 ++ p.0.0)) next.1
          (one_more c.args.piece.now c.args.place rest l.here k.4 p.0.0 some k.6 (subst (λ (bs : List ℕ). ListsBlock bs l.here p.0.0) (sym next.0) p.0.1)),
      subst (λ (r : List ℕ). Counted.SoFar c.args.piece.now c.args.counts.now.by_number r c.put_block-at.new.counts.by_number) next.1
          (Counted.one_more c.args.piece.now _ rest l.counts.by_number _ some k.7 (p.2 ∙ ap (λ (bs : List ℕ). with_one_more (refusal_number (block_test bs most)) l.counts.by_number) (sym next.0))),
    )

pub returns : goal.returns
unfolding PutsSome
returns c =
    let l = c.loop-block in
    let k = l.invariant in
    let none = c.in-None.ensures.steps.1.0 in
    let ended = nothing (chunks_rest l.block-iterator) none in (
      (_, all_of_them c.args.piece.now c.args.place (chunks_rest l.block-iterator) l.here _ ended k.6, k.5),
      omega (arith, k.1, none),
      Counted.all_of_them c.args.piece.now _ (chunks_rest l.block-iterator) l.counts.by_number ended k.7,
    )
