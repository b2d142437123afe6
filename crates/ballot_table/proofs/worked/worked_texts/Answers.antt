use Rattle.std.proofs.Common.{refl}
use Rattle.std.specs.Fmt.{digits}
use Rattle.table_text.specs.Reading.{read}
use Rattle.table_text.specs.Separator.{parting}
use Rattle.ballot_table.specs.Rows.{said_up_to}
use Rattle.ballot_table.proofs.worked.worked_texts.Goals as goal

pub returns : goal.returns
unfolding read parting said_up_to digits
returns c = record {
  sound = refl;
  nothing = refl;
  open_quote = refl;
  two_kinds = refl;
  told_kind = refl;
  no_name = refl;
  only_labels = refl;
  withdrawn = refl;
  shorter = refl;
  longer = refl;
  no_rank = refl;
  before_what_follows = refl;
  equal_ranks = refl;
  no_head = refl;
  first_row = refl;
  lower_head = refl;
  one_head_too_few = refl;
  below_two = refl;
  in_a_list = refl;
}
