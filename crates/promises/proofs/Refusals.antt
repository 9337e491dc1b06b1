-- Every call's refusals follow the table. Assumes nothing.
use mathlib.Core.Path.{subst}
use Rattle.bounds.specs.Widths.{Makes, GivesWord, GivesLimit}
use Rattle.word.specs.Takum.{takum}
use Rattle.word.specs.Reads.{Reads}
use Rattle.sizes.specs.Sizes.{ReadsSize}
use Rattle.order.specs.Orders.{Compares, Negates}
use Rattle.nearest.specs.Offers.{FindsNearest}
use Rattle.binary64.specs.Takes as taken
use Rattle.column.specs.Columns.{MovesColumn}
use Rattle.column.proofs.Positions.{first}
use Rattle.sheet.specs.Writes.{WritesBlock}
use Rattle.promises.specs.Demands.{ComesBack}
use Rattle.promises.specs.Refusals.{RefusalsFollowTheTable}
use Rattle.promises.proofs.WordRefusals.{of_width, of_word, answer_none, number_none, compare_follows, test_follows, test_word_follows, write_short_follows, write_size_follows, write_long_follows, write_follows, write_whole_follows, write_binary64_follows, move_follows, goes_follows, take_whole_follows, shortest_follows}
use Rattle.promises.proofs.MovingRefusals.{out_and_back_follows, move_negated_follows, compare_moved_follows}
use Rattle.promises.proofs.SliceRefusals.{test_room_follows, column_follows, position_follows, block_follows}
use Rattle.promises.proofs.WrittenRefusals.{written_follows, written_position_follows, position_inside}

pub refusals_follow_the_table : RefusalsFollowTheTable
unfolding Makes GivesWord GivesLimit Reads ReadsSize Compares Negates FindsNearest ComesBack taken.TakesBinary64 taken.IsTakenBinary64
refusals_follow_the_table = record {
  test = test_follows;
  test_word = test_word_follows;
  test_room = test_room_follows;
  new = λ n a x. of_width n (answer_none _ a) x;
  words = λ f n a x. of_width n (answer_none (f n) a) x;
  limit = λ n a x. of_width n (λ (l, p, is). answer_none l a p) x;
  read = λ n w a x. of_word n w (λ (r, p, is). answer_none r a p) x;
  read_size = λ n w a x. of_word n w (λ (s, p, is). answer_none s a p) x;
  compare = λ n v w a x. compare_follows n v w a x;
  negate = λ n w a x. of_word n w (answer_none _ a) x;
  negate_twice = λ n w a x. of_word n w (answer_none w a) x;
  nearest = λ n negative h m below a x. of_width n (λ (w, p, rest, is, near). answer_none w a p) x;
  write_short = write_short_follows;
  write_size = write_size_follows;
  write_long = write_long_follows;
  write = write_follows;
  write_whole = write_whole_follows;
  take_whole = take_whole_follows;
  shortest_width = shortest_follows;
  write_binary64 = write_binary64_follows;
  take_binary64 = λ n w a x. of_word n w (number_none (takum n w) a) x;
  move_word = move_follows;
  come_home = λ n w ns a x. goes_follows n ns n w a x.goes;
  out_and_back = λ a b c w r x. out_and_back_follows a b c w r x.goes;
  move_negated = λ a b w r x. move_negated_follows a b w r x.goes;
  compare_moved = λ a b x y r z. compare_moved_follows a b x y r z.goes;
  move_column = column_follows;
  position = λ n n' rule words places a x f i inside before. position_follows n n' rule words places i inside a x f before;
  inside = λ n n' rule words places a x i q h. (first n n' rule words places i q (subst (MovesColumn n n' rule words places) h x)).inside;
  read_block = block_follows;
  write_block = written_follows;
  write_position = λ n words buffer a x f i inside before. written_position_follows n words buffer i inside a x f before;
  write_inside = λ n words buffer a x i q h. position_inside n words buffer i q (subst (WritesBlock n words buffer) h x);
}
