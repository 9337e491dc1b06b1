-- The letter's three demands hold, each as one theorem. Assumes nothing.
use Rattle.promises.specs.Letter.{DemandOne, DemandTwo, DemandThree}
use Rattle.promises.proofs.Demands.{reading_is_the_definition}
use Rattle.promises.proofs.Numbers.{a_whole_number_is_refused_exactly_where_it_has_no_word, every_whole_number_up_to_the_limit_is_written, the_limit_plus_one_is_refused}
use Rattle.promises.proofs.Refusals.{refusals_follow_the_table}
use Rattle.promises.proofs.Sheets.{a_refused_write_leaves_the_buffer}
use Rattle.promises.proofs.Slices.{a_refused_column_writes_nothing, a_refused_block_writes_nothing, each_word_of_a_column_is_moved, a_strict_column_keeps_every_value, each_word_of_a_block_is_read}
use Rattle.promises.proofs.Writing.{rounded_is_the_nearest, rounded_is_never_zero_nor_NaR, past_the_largest_word, before_the_smallest_word, strict_moves_keep_the_value, strict_moves_are_refused_exactly_where_there_is_no_word, NaR_moves_to_NaR, chains_come_home}

pub demand_one : DemandOne
demand_one = record { numbers = refusals_follow_the_table; column = a_refused_column_writes_nothing; block = a_refused_block_writes_nothing; buffer = a_refused_write_leaves_the_buffer }

pub demand_two : DemandTwo
demand_two = record { alone = reading_is_the_definition; in_a_column = each_word_of_a_column_is_moved; with_its_value = a_strict_column_keeps_every_value; in_a_block = each_word_of_a_block_is_read; nearest = rounded_is_the_nearest; past_the_largest = past_the_largest_word; before_the_smallest = before_the_smallest_word; never_zero_nor_NaR = rounded_is_never_zero_nor_NaR }

pub demand_three : DemandThree
demand_three = record { same_value = strict_moves_keep_the_value; NaR_for_NaR = NaR_moves_to_NaR; exactly = strict_moves_are_refused_exactly_where_there_is_no_word; chains = chains_come_home; whole_numbers = a_whole_number_is_refused_exactly_where_it_has_no_word; up_to_the_limit = every_whole_number_up_to_the_limit_is_written; limit_plus_one = the_limit_plus_one_is_refused }
