use Rattle.std.proofs.Common.{refl}
use Rattle.ballot_table.specs.Rows.{said_up_to}
use Rattle.ballot_table.proofs.worked.worked_tables.Goals as goal

pub returns-clause-heads : goal.returns-clause-heads
returns-clause-heads c = record {
  sound = refl;
  no_name = refl;
  same_name = refl;
  quote_in_name = refl;
  missing = refl;
  only_labels = refl;
  withdrawn = refl;
  withdrawn_of_the_words = refl;
  same_label = refl;
  further_column = refl;
  long_name = refl;
  longest_name = refl;
  line_end_in_name = refl;
  most_candidates = refl;
  one_too_many = refl;
  in_brackets = refl;
  blanks_in_brackets = refl;
  by_their_heads = refl;
  by_their_places = refl;
  two_numbers = refl;
  rank_twice = refl;
  rank_above = refl;
  rank_of_nought = refl;
  candidate_for_head = refl;
  blank_for_head = refl;
  list_for_head = refl;
  part_of_no_candidate = refl;
  ranks_for_head = refl;
  one_name_among_numbers = refl;
  said_head = refl;
}

pub returns-clause-rows : goal.returns-clause-rows
unfolding said_up_to
returns-clause-rows c = record {
  where_ranks_fall = refl;
  ranks = refl;
  shorter = refl;
  no_rank = refl;
  greatest_rank = refl;
  choices = refl;
  closed = refl;
  one_closed = refl;
  none_closed = refl;
  cut_again = refl;
  dropped_weight = refl;
  weights = refl;
  words = refl;
  ranks_in_words = refl;
  dropped = refl;
  kept = refl;
  lists = refl;
  blanks_in_a_list = refl;
}

pub returns-clause-refusals : goal.returns-clause-refusals
unfolding said_up_to
returns-clause-refusals c = record {
  where_ranks_fall = refl;
  equal_ranks = refl;
  behind_a_passed_rank = refl;
  skipped_rank = refl;
  repeated = refl;
  empty_row = refl;
  no_candidate = refl;
  too_many = refl;
  no_weight = refl;
  short_blank_row = refl;
  behind_another_column = refl;
  in_a_list = refl;
  skipped_in_a_list = refl;
}
