-- `put_block` meets its contract: there is room, so the text is put, and what is put to the start of the rest stands at its place of the whole. Assumes nothing.
use Rattle.std.proofs.Common.{◌≡◌, ℕ, ◌+◌, ◌≤◌, List, length, Ok, Err, refl, ap, ◌∙◌, subst, arith, rules}
use Rattle.std.specs.Result.{IsOk}
use Rattle.bounds.specs.Refusals.{Answer}
use Rattle.listing.specs.declared.blocks.Listed.{Listed}
use Rattle.listing.specs.Listing.{text_room, IsListed, ListsInto}
use Rattle.listing.specs.Puts.{PutsSome}
use Rattle.lister.specs.Counts.{number_or_0, with_one_more}
use Rattle.lister.proofs.Counted.{number_of_verdict}
use Rattle.lister.proofs.Rest.{rest, listed, at_its_place}
use Rattle.lister.proofs.runs.put_block.Goals as goal

-- what the call has put
put : (out : List ℕ) (at : ℕ) (block : List ℕ) (place : ℕ) (after : List ℕ) (r a : Answer Listed) → at + text_room ≤ length out → ListsInto block place (rest out at) after r → r ≡ a → IsListed block place (rest out at) after a
put out at block place after r a h l q = subst (IsListed block place (rest out at) after) q (listed out at block place after r h l)

is_listed : (block : List ℕ) (place : ℕ) (before after : List ℕ) (a : Answer Listed) → IsListed block place before after a → IsOk a
unfolding IsListed
is_listed block place before after (Ok a) l = refl
is_listed block place before after (Err q) l = absurd l

pub unwrap-listed-requires : goal.unwrap-listed-requires
unwrap-listed-requires c = is_listed _ _ _ _ _ (put c.args.out.now c.args.at c.args.block.now c.args.place _ _ _ c.requires c.list_block.ensures refl)

pub overflow_add-result : goal.overflow_add-result
unfolding IsListed
overflow_add-result c =
    let few : c.unwrap-listed.result.length ≤ text_room = (put c.args.out.now c.args.at c.args.block.now c.args.place _ _ _ c.requires c.list_block.ensures c.unwrap-listed.ensures).1 in
    search rules

pub returns : goal.returns
unfolding IsListed PutsSome
returns c =
    let p = put c.args.out.now c.args.at c.args.block.now c.args.place _ _ _ c.requires c.list_block.ensures c.unwrap-listed.ensures in (
      (p.0.0, p.0.1, at_its_place _ _ _ _ _ (omega (arith, c.requires)) p.0.2),
      omega (arith, p.1),
      c.count.ensures ∙ ap (λ (n : ℕ). with_one_more n c.args.counts.now.by_number) (ap number_or_0 p.2 ∙ number_of_verdict _),
    )
