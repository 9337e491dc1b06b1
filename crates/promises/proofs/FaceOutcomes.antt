-- What the face hands over is one thing, for each of its functions: the public call's answer is one, and so is what is left in a lent slice. Assumes nothing.
use Rattle.bounds.specs.Refusals.{ListAnswer}
use Rattle.std.specs.Prelude.{⊤}
use mathlib.Core.Path.{◌≡◌, sym, ap, ◌∙◌, subst}
use mathlib.Core.List.{List}
use Prim.Native.Nat.{ℕ}
use lib.Ieee.{Float}
use lib.IntN.{ℤ}
use Rattle.bounds.specs.Widths.{GivesWord, GivesLimit}
use Rattle.word.specs.Reads.{Reads}
use Rattle.order.specs.Orders.{Compares, Negates}
use Rattle.round.specs.declared.value.Rule.{Rule}
use Rattle.write.specs.declared.value.Value.{Value}
use Rattle.write.specs.Sayings.{WritesAndSays, MovesAndSays}
use Rattle.whole.specs.declared.taking.Taking.{Taking}
use Rattle.whole.specs.Wholes.{TakesWhole}
use Rattle.whole.specs.Sayings.{WritesWholeAndSays}
use Rattle.whole.specs.Shortest.{GivesShortest}
use Rattle.binary64.specs.Takes.{TakesBinary64}
use Rattle.binary64.specs.Sayings.{WritesBinary64AndSays}
use Rattle.sheet.specs.Reads.{ReadsBlock}
use Rattle.sheet.specs.Writes.{WritesBlock, FillsBuffer}
use Rattle.ledusprig.specs.declared.handed.columns.HandedColumn.{HandedColumn}
use Rattle.ledusprig.specs.declared.handed.columns.HandedWriting.{HandedWriting}
use Rattle.ledusprig.specs.Handed.{HandsOver, MovesTheColumn, WritesTheBlock, word_handed, saying_handed, reading_handed, comparison_handed, limit_handed, width_handed, whole_handed, number_handed, column_handed, block_handed, writing_handed}
use Rattle.ledusprig.proofs.OneOutcome.{hands_over_one}
use Rattle.promises.proofs.OneOutcome.{gives_word_one, gives_limit_one, reads_one, compares_one, negates_one, writes_and_says_one, moves_and_says_one, writes_whole_and_says_one, takes_whole_one, gives_shortest_one, writes_binary64_and_says_one, takes_binary64_one, moved_column_one, reads_block_one, writes_block_one, fills_buffer_one}

-- two outcomes of a function whose contract is HandsOver handed Gives are equal
abbrev pub One : {Answers Handed : Type 0} → (Answers → Handed) → (Answers → Type 0) → Type 0
One {Handed = Handed} handed Gives = (r s : Handed) → HandsOver handed Gives r → HandsOver handed Gives s → r ≡ s

-- largest, smallest and NaR word
pub word_handed_one : (f : ℕ → ℕ) (n : ℕ) → One word_handed (GivesWord f n)
word_handed_one f n r s p q = hands_over_one p q (gives_word_one f n)

pub limit_handed_one : (n : ℕ) → One limit_handed (GivesLimit n)
limit_handed_one n r s p q = hands_over_one p q (gives_limit_one n)

pub reading_handed_one : (n w : ℕ) → One reading_handed (Reads n w)
reading_handed_one n w r s p q = hands_over_one p q (reads_one n w)

pub comparison_handed_one : (n x y : ℕ) → One comparison_handed (Compares n x y)
comparison_handed_one n x y r s p q = hands_over_one p q (compares_one n x y)

pub negated_handed_one : (n w : ℕ) → One word_handed (Negates n w)
negated_handed_one n w r s p q = hands_over_one p q (negates_one n w)

pub written_handed_one : (n : ℕ) (rule : Rule) (v : Value) → One saying_handed (WritesAndSays n rule v)
written_handed_one n rule v r s p q = hands_over_one p q (writes_and_says_one n rule v)

pub moved_handed_one : (n n' : ℕ) (rule : Rule) (w : ℕ) → One saying_handed (MovesAndSays n n' rule w)
moved_handed_one n n' rule w r s p q = hands_over_one p q (moves_and_says_one n n' rule w)

pub whole_written_handed_one : (n : ℕ) (rule : Rule) (x : ℤ) → One saying_handed (WritesWholeAndSays n rule x)
whole_written_handed_one n rule x r s p q = hands_over_one p q (writes_whole_and_says_one n rule x)

pub whole_taken_handed_one : (n : ℕ) (rule : Taking) (w : ℕ) → One whole_handed (TakesWhole n rule w)
whole_taken_handed_one n rule w r s p q = hands_over_one p q (takes_whole_one n rule w)

pub shortest_handed_one : (x : ℤ) → One width_handed (GivesShortest x)
shortest_handed_one x r s p q = hands_over_one p q (gives_shortest_one x)

pub binary64_written_handed_one : (n : ℕ) (rule : Rule) (x : Float) → One saying_handed (WritesBinary64AndSays n rule x)
binary64_written_handed_one n rule x r s p q = hands_over_one p q (writes_binary64_and_says_one n rule x)

pub binary64_taken_handed_one : (n w : ℕ) → One number_handed (TakesBinary64 n w)
binary64_taken_handed_one n w r s p q = hands_over_one p q (takes_binary64_one n w)

pub block_handed_one : (block : List ℕ) (places : ℕ) → One block_handed (ReadsBlock block places)
block_handed_one block places r s p q = hands_over_one p q (reads_block_one block places)

-- a column, with what its results hold afterwards
pub column_handed_one : (n n' : ℕ) (rule : Rule) (words before after after' : List ℕ) (r s : HandedColumn) → HandsOver column_handed (MovesTheColumn n n' rule words before after) r → HandsOver column_handed (MovesTheColumn n n' rule words before after') s → (r ≡ s) × (after ≡ after')
unfolding MovesTheColumn
column_handed_one n n' rule words before after after' r s p q =
    let t = moved_column_one n n' rule words before p.answer q.answer after after' p.given.0 p.given.1 q.given.0 q.given.1 in
    (p.is ∙ ap column_handed t.0 ∙ sym q.is, t.1)

-- a written block, with what its buffer holds afterwards
pub block_written_handed_one : (n number : ℕ) (words before after after' : List ℕ) (r s : HandedWriting) → HandsOver writing_handed (WritesTheBlock n number words before after) r → HandsOver writing_handed (WritesTheBlock n number words before after') s → (r ≡ s) × (after ≡ after')
unfolding WritesTheBlock
block_written_handed_one n number words before after after' r s p q = (hands_over_one p q (λ a b x y. one a b x.0 y.0), fills_buffer_one n number words before q.answer after after' (subst (λ (a : ListAnswer ⊤). FillsBuffer n number words before a after) (one p.answer q.answer p.given.0 q.given.0) p.given.1) q.given.1)
  where
    one : (a b : ListAnswer ⊤) → WritesBlock n words before a → WritesBlock n words before b → a ≡ b
    one = writes_block_one n words before
