-- How an answer is handed over to C and Rust: the refusal's number, 0 where nothing was refused, with the answer beside it, which is all zeros
-- where it was refused, but for the position of a word that was refused in a column or a block. Nothing else is decided here.
use Rattle.std.specs.Prelude.{◌≡◌, true, false, List, ℕ, ℤ, ⊤, zero, suc, pos, length, Ok, Err}
use Rattle.std.specs.declared.cmp.Ordering.{Ordering}
use Rattle.std.specs.Float.{nan, binary64}
use Rattle.std.specs.Float.Ieee.{of_bits}
use Rattle.bounds.specs.declared.refusal.ListRefusal.{ListRefusal}
use Rattle.bounds.specs.declared.width.Width.{Width}
use Rattle.bounds.specs.Refusals.{number_of, Answer, ListAnswer}
use Rattle.bounds.specs.Sayings.{saying_number}
use Rattle.bounds.specs.declared.answer.Written.{Written}
use Rattle.word.specs.declared.reading.Kind.{Kind}
use Rattle.word.specs.declared.reading.Reading.{Reading}
use Rattle.order.specs.Orders.{order_number}
use Rattle.round.specs.declared.value.Rule.{Rule}
use Rattle.whole.specs.declared.taking.Taking.{Taking}
use Rattle.binary64.specs.declared.taking.Binary64.{Binary64}
use Rattle.column.specs.declared.moving.MovedColumn.{MovedColumn}
use Rattle.column.specs.Columns.{MovesColumn}
use Rattle.column.specs.Counts.{HoldsAndCounts}
use Rattle.sheet.specs.declared.block.Block.{Block}
use Rattle.sheet.specs.Writes.{WritesBlock, FillsBuffer}
use Rattle.ledusprig.specs.declared.handed.words.HandedWord.{HandedWord}
use Rattle.ledusprig.specs.declared.handed.words.HandedSaying.{HandedSaying}
use Rattle.ledusprig.specs.declared.handed.words.HandedReading.{HandedReading}
use Rattle.ledusprig.specs.declared.handed.words.HandedComparison.{HandedComparison}
use Rattle.ledusprig.specs.declared.handed.widths.HandedLimit.{HandedLimit}
use Rattle.ledusprig.specs.declared.handed.widths.HandedWidth.{HandedWidth}
use Rattle.ledusprig.specs.declared.handed.numbers.HandedWhole.{HandedWhole}
use Rattle.ledusprig.specs.declared.handed.numbers.HandedNumber.{HandedNumber}
use Rattle.ledusprig.specs.declared.handed.columns.HandedColumn.{HandedColumn}
use Rattle.ledusprig.specs.declared.handed.columns.HandedBlock.{HandedBlock}
use Rattle.ledusprig.specs.declared.handed.columns.HandedWriting.{HandedWriting}

-- the rule that a number stands for: 0 rounds, and every other number is strict
abbrev pub rule_of : ℕ → Rule
rule_of zero = Rule.Rounded
rule_of (suc other) = Rule.Strict

abbrev pub taking_of : ℕ → Taking
taking_of zero = Taking.Nearest
taking_of (suc other) = Taking.Strict

-- how each answer is handed over
abbrev pub word_handed : Answer ℕ → HandedWord
word_handed (Ok w) = record { refusal = 0; word = w }
word_handed (Err q) = record { refusal = number_of q; word = 0 }

abbrev pub saying_handed : Answer Written → HandedSaying
saying_handed (Ok a) = record { refusal = 0; saying = saying_number a.saying; word = a.word }
saying_handed (Err q) = record { refusal = number_of q; saying = 0; word = 0 }

abbrev pub kind_handed : Kind → ℕ → HandedReading
kind_handed Kind.Zero own = record { refusal = 0; kind = 0; negative = false; h = pos 0; m = 0; p = 0; own = own }
kind_handed Kind.Nar own = record { refusal = 0; kind = 1; negative = false; h = pos 0; m = 0; p = 0; own = own }
kind_handed (Kind.Number negative h m p) own = record { refusal = 0; kind = 2; negative = negative; h = h; m = m; p = p; own = own }

abbrev pub reading_handed : Answer Reading → HandedReading
reading_handed (Ok a) = kind_handed a.kind a.own
reading_handed (Err q) = record { refusal = number_of q; kind = 0; negative = false; h = pos 0; m = 0; p = 0; own = 0 }

abbrev pub comparison_handed : Answer Ordering → HandedComparison
comparison_handed (Ok order) = record { refusal = 0; order = order_number order }
comparison_handed (Err q) = record { refusal = number_of q; order = pos 0 }

abbrev pub limit_handed : Answer ℕ → HandedLimit
limit_handed (Ok limit) = record { refusal = 0; limit = limit }
limit_handed (Err q) = record { refusal = number_of q; limit = 0 }

abbrev pub width_handed : Answer Width → HandedWidth
width_handed (Ok width) = record { refusal = 0; width = width.bits }
width_handed (Err q) = record { refusal = number_of q; width = 0 }

abbrev pub whole_handed : Answer ℤ → HandedWhole
whole_handed (Ok x) = record { refusal = 0; whole = x }
whole_handed (Err q) = record { refusal = number_of q; whole = pos 0 }

abbrev pub number_handed : Binary64 → HandedNumber
number_handed (Binary64.Number x) = record { refusal = 0; real = true; number = x }
number_handed Binary64.Nar = record { refusal = 0; real = false; number = nan }
number_handed (Binary64.Refused q) = record { refusal = number_of q; real = false; number = of_bits binary64 0 }

abbrev pub column_handed : ListAnswer MovedColumn → HandedColumn
column_handed (Ok a) = record { refusal = 0; position = 0; moved = a.moved; exact = a.exact }
column_handed (Err (ListRefusal.Whole q)) = record { refusal = number_of q; position = 0; moved = 0; exact = 0 }
column_handed (Err (ListRefusal.At position q)) = record { refusal = number_of q; position = position; moved = 0; exact = 0 }

abbrev pub block_handed : Answer Block → HandedBlock
block_handed (Ok a) = record { refusal = 0; width = a.width; number = a.number; count = a.count }
block_handed (Err q) = record { refusal = number_of q; width = 0; number = 0; count = 0 }

abbrev pub writing_handed : ListAnswer ⊤ → HandedWriting
writing_handed (Ok _) = record { refusal = 0; position = 0 }
writing_handed (Err (ListRefusal.Whole q)) = record { refusal = number_of q; position = 0 }
writing_handed (Err (ListRefusal.At position q)) = record { refusal = number_of q; position = position }

-- ---- what every function of the face answers: the answer that the public call gives, handed over
pub record HandsOver {Answers Handed : Type 0} (handed : Answers → Handed) (Gives : Answers → Type 0) (r : Handed) : Type 0 where
  pub answer : Answers
  pub given : Gives answer
  pub is : r ≡ handed answer

-- the column's answer, with how many of its words are exact, and what its results hold after it
unfoldable pub MovesTheColumn : ℕ → ℕ → Rule → List ℕ → List ℕ → List ℕ → ListAnswer MovedColumn → Type 0
MovesTheColumn n n' rule words before after a = MovesColumn n n' rule words (length before) a × HoldsAndCounts n n' rule words before a after

-- the writing's answer, and what its buffer holds after it
unfoldable pub WritesTheBlock : ℕ → ℕ → List ℕ → List ℕ → List ℕ → ListAnswer ⊤ → Type 0
WritesTheBlock n number words before after a = WritesBlock n words before a × FillsBuffer n number words before a after
