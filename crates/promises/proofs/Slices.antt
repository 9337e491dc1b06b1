-- The promises that specs/Slices.antt states, from the laws of columns and of blocks. Assumes nothing.
use Rattle.std.specs.Prelude.{Ok, Err}
use Rattle.bounds.specs.declared.refusal.ListRefusal.{ListRefusal}
use mathlib.Core.Path.{◌≡◌, refl, ap, ◌∙◌}
use mathlib.Core.List.{List}
use mathlib.Core.Logic.{◌⊎◌, inl, inr}
use Prim.Native.Nat.{ℕ}
use native.Mathlib.Decide.{ℕ_discrete}
use native.Mathlib.Omega.{arith}
use lib.ListN.{length, length-append, length-drop}
use Rattle.bounds.specs.declared.refusal.Refusal.{Refusal}
use Rattle.bounds.specs.Refusals.{Answer, through, refused}
use Rattle.bounds.proofs.Verdicts.{refused_as}
use Rattle.column.specs.Columns.{Holds}
use Rattle.column.proofs.Positions.{every_word_counted, word_at, others_unchanged, first, none_refused_before}
use Rattle.column.proofs.Strict.{strict_column_keeps}
use Rattle.sheet.specs.declared.block.Block.{Block}
use Rattle.sheet.specs.Layout.{mark}
use Rattle.sheet.specs.Reads.{block_read, ReadsBlock, FillsResults}
use Rattle.sheet.proofs.Passing.{passes, was_read, other_mark, other_A}
use Rattle.sheet.proofs.Results.{words_length, holds, result_at, result_kept, result_is_word}
use Rattle.sheet.proofs.Changes.{same_A, same_B, others, differs, sum_differs}
use Rattle.sheet.proofs.OneNumber.{changed_within}
use Rattle.promises.specs.Demands.{RefusedAs, ReadingIsTheDefinition}
use Rattle.promises.specs.Slices as promise
use Rattle.promises.proofs.Demands.{reading_is_the_definition}
use Rattle.promises.proofs.WordRefusals.{answer_none}

pub a_refused_column_writes_nothing : promise.ARefusedColumnWritesNothing
unfolding promise.ARefusedColumnWritesNothing Holds
a_refused_column_writes_nothing n n' rule words before after (Ok c) x f = absurd (f c refl)
a_refused_column_writes_nothing n n' rule words before after (Err (ListRefusal.Whole q)) x f = x
a_refused_column_writes_nothing n n' rule words before after (Err (ListRefusal.At position q)) x f = x

pub each_word_of_a_column_is_moved : promise.EachWordOfAColumnIsMoved
unfolding promise.EachWordOfAColumnIsMoved Holds
each_word_of_a_column_is_moved n n' rule words before after c x y = (every_word_counted n n' rule words before c after x y, y.room, word_at n n' rule words before c after x y, others_unchanged n n' rule words before c after x y)

pub the_first_refusal_is_given : promise.TheFirstRefusalIsGiven
unfolding promise.TheFirstRefusalIsGiven
the_first_refusal_is_given n n' rule words room position q x = let t = first n n' rule words room position q x in (t.inside, t.is, none_refused_before n n' rule words room position q x)

pub a_strict_column_keeps_every_value : promise.AStrictColumnKeepsEveryValue
unfolding promise.AStrictColumnKeepsEveryValue
a_strict_column_keeps_every_value n n' words before after c x y = strict_column_keeps n n' words before c after x y

pub each_word_of_a_block_is_read : promise.EachWordOfABlockIsRead
unfolding promise.EachWordOfABlockIsRead ReadingIsTheDefinition
each_word_of_a_block_is_read block before after w i n j a bytes r f h x =
    let word = result_is_word block before after w i n r f bytes j h in
    (result_at block before after w i n r f j h, word, reading_is_the_definition w _ a word x)

-- the slice is as long as it was
results_length : (block before after : List ℕ) (w i n : ℕ) → ReadsBlock block (length before) (block_read w i n) → FillsResults block before after → length after ≡ length before
results_length block before after w i n r f =
    let t = was_read block (length before) w i n r in
    ap length (holds block before after w i n r f) ∙ simp (length-append, length-drop) (omega (arith, words_length block, t.2, (passes block (length before) t.0).room))

pub the_remainder_is_kept : promise.TheRemainderIsKept
unfolding promise.TheRemainderIsKept
the_remainder_is_kept block before after w i n r f = (results_length block before after w i n r f, result_kept block before after w i n r f)

pub a_change_in_one_number_is_a_change_of_its_bytes : promise.AChangeInOneNumberIsAChangeOfItsBytes
unfolding promise.AChangeInOneNumberIsAChangeOfItsBytes
a_change_in_one_number_is_a_change_of_its_bytes i old new bo bn bytes = (
  λ c. record { one_of_126 = c.one_of_126; size = c.size; others = others i old new c; differs = differs i old new c bo bn; same_A = same_A i old new c; same_B = same_B i old new c },
  λ d. changed_within i old new bo bn bytes d.size d.others d.same_A d.same_B d.one_of_126 d.differs,
)

pub a_change_in_one_number_is_noticed : promise.AChangeInOneNumberIsNoticed
unfolding promise.AChangeInOneNumberIsNoticed ReadsBlock
a_change_in_one_number_is_noticed i old new places a bo bn bytes marked sum c x = by (ℕ_discrete (mark new) 0x54)
  where
    by : Dec (mark new ≡ 0x54) → ((mark new ≡ 0x54) × RefusedAs (Answer Block) Err 9 a) ⊎ ((mark new ≡ 0x54 → ⊥) × RefusedAs (Answer Block) Err 8 a)
    by (yes m) = inl (m, record { q = Refusal.Check; is = refused_as Refusal.Check (other_A new places (c.size ∙ bytes) m (sum_differs i old new c bo bn sum)) x; known = refl })
    by (no f) = inr (f, record { q = Refusal.Mark; is = refused_as Refusal.Mark (other_mark new places (c.size ∙ bytes) f) x; known = refl })

-- ---- a block that was refused
pub a_refused_block_writes_nothing : promise.ARefusedBlockWritesNothing
unfolding promise.ARefusedBlockWritesNothing ReadsBlock FillsResults
a_refused_block_writes_nothing block before after q (refused {q = p} h e) f = refused_as p h f
a_refused_block_writes_nothing block before after q (through h e) f = absurd (answer_none _ (Err q) e q refl)
