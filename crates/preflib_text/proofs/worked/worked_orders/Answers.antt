use Rattle.std.proofs.Common.{refl}
use Rattle.preflib_text.proofs.worked.worked_orders.Goals as goal

pub returns-clause-texts : goal.returns-clause-texts
returns-clause-texts c = record {
  plain = record { no_fault = refl; names_are = refl; title_is = refl; ballots_are = refl };
  equal_rank = refl;
  equal_rank_cut = record { no_fault = refl; names_are = refl; title_is = refl; ballots_are = refl };
  equal_rank_passed = record { no_fault = refl; names_are = refl; title_is = refl; ballots_are = refl };
  equal_rank_first = record { no_fault = refl; names_are = refl; title_is = refl; ballots_are = refl };
  cut_off = refl;
  cut_off_within = refl;
  more_than_voters = refl;
  no_name = refl;
  no_such_candidate = refl;
  no_orders = record { no_fault = refl; names_are = refl; title_is = refl; ballots_are = refl };
  nobody_voted = record { no_fault = refl; names_are = refl; title_is = refl; ballots_are = refl };
  nothing = refl;
  marked_and_nothing = refl;
  places_behind_a_mark = refl;
  returns = record { no_fault = refl; names_are = refl; title_is = refl; ballots_are = refl };
  return_at_end = refl;
  return_within = refl;
  control_byte = refl;
  control_byte_first = refl;
  control_byte_in_metadata = refl;
  empty_line = refl;
  empty_line_in_metadata = refl;
  empty_line_of_a_return = refl;
}

pub returns-clause-heads : goal.returns-clause-heads
returns-clause-heads c = record {
  no_number = refl;
  number_zero = refl;
  number_too_great = refl;
  greatest_number = refl;
  no_value = refl;
  no_digits = refl;
  voters = refl;
  title_with_a_quote = refl;
  title_with_a_tab = refl;
  title_not_judged = record { no_fault = refl; names_are = refl; title_is = refl; ballots_are = refl };
  long_title = refl;
  longest_title = refl;
  empty_title = record { no_fault = refl; names_are = refl; title_is = refl; ballots_are = refl };
  colons_in_title = record { no_fault = refl; names_are = refl; title_is = refl; ballots_are = refl };
  no_name = refl;
  name_with_a_quote = refl;
  long_name = refl;
  longest_name = refl;
  name_before_number = refl;
  name_of_nobody = refl;
  name_of_zero = refl;
  name_of_no_number = refl;
  two_spaces = refl;
  number_again = refl;
  name_again = refl;
  title_again = refl;
  voters_again = refl;
  names_alike = record { no_fault = refl; names_are = refl; title_is = refl; ballots_are = refl };
  names_by_number = record { no_fault = refl; names_are = refl; title_is = refl; ballots_are = refl };
  not_used = record { no_fault = refl; names_are = refl; title_is = refl; ballots_are = refl };
  no_name_at_end = refl;
  metadata_behind_an_order = refl;
  blank_before_metadata = refl;
  withdrawn = record { no_fault = refl; names_are = refl; title_is = refl; ballots_are = refl };
  withdrawn_above = refl;
  withdrawn_zero = refl;
}

pub returns-clause-orders : goal.returns-clause-orders
returns-clause-orders c = record {
  blanks = record { no_fault = refl; names_are = refl; title_is = refl; ballots_are = refl };
  no_blanks = record { no_fault = refl; names_are = refl; title_is = refl; ballots_are = refl };
  zeros_in_front = record { no_fault = refl; names_are = refl; title_is = refl; ballots_are = refl };
  no_ballot = refl;
  too_many = refl;
  too_many_together = refl;
  repeated = refl;
  repeated_in_braces = refl;
  nobody = refl;
  above = refl;
  no_part = refl;
  no_part_at_front = refl;
  no_part_in_braces = refl;
  no_count = refl;
  blanks_alone = refl;
  count_alone = refl;
  no_colon = refl;
  no_item = refl;
  no_further_item = refl;
  two_commas = refl;
  no_comma = refl;
  brace_behind_number = refl;
  number_behind_brace = refl;
  closed_unopened = refl;
  not_closed = refl;
  nobody_in_braces = refl;
  braces_in_braces = refl;
  colon_in_braces = refl;
  comma_first = refl;
  form_before_marks = refl;
  order_by_order = refl;
  second_of_equal = refl;
}

pub returns-clause-tallies : goal.returns-clause-tallies
returns-clause-tallies c = record {
  none = refl;
  plain = refl;
  cut = refl;
  passed = refl;
  nobody_left = refl;
  one_in_braces = refl;
}
