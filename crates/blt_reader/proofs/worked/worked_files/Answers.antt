use Rattle.std.proofs.Common.{refl}
use Rattle.input_text.specs.Scan.{cut, piece, number_piece, minus_piece, string_piece, word_piece}
use Rattle.blt_reader.specs.BltTable.{at_token}
use Rattle.blt_reader.proofs.worked.worked_files.Goals as goal

pub returns-clause-sample : goal.returns-clause-sample
unfolding cut piece number_piece minus_piece string_piece word_piece at_token
returns-clause-sample c = refl

pub returns-clause-marked : goal.returns-clause-marked
unfolding cut piece number_piece minus_piece string_piece word_piece at_token
returns-clause-marked c = refl

pub returns-clause-refusals : goal.returns-clause-refusals
unfolding cut piece number_piece minus_piece string_piece word_piece at_token
returns-clause-refusals c = record {
  nothing = refl;
  no_candidates = refl;
  no_seats = refl;
  withdrawn_nobody = refl;
  no_such_candidate = refl;
  twice_on_a_ballot = refl;
  equal_ranks = refl;
  withdrawn_late = refl;
  one_ballot_too_many = refl;
  past_32_bits = refl;
  no_name = refl;
  long_name = refl;
  open_name = refl;
  no_title = refl;
  behind_the_title = refl;
}
