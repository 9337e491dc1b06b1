-- The loop of `print_of_words`: no more numbers are counted than words were asked. Assumes nothing.
use Rattle.std.proofs.Common.{◌≤◌}
use Rattle.census_numbers.proofs.shortest.print_of_words.Given as goal

abbrev pub invariant-loop-word : goal.invariant-loop-word
invariant-loop-word l = l.count ≤ l.word
