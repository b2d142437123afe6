use Rattle.std.proofs.Common.{refl}
use Rattle.table_text.specs.Reading.{read}
use Rattle.table_text.proofs.worked.worked_records.Goals as goal

pub returns-clause-refusals : goal.returns-clause-refusals
unfolding read
returns-clause-refusals c = record {
  nothing = refl;
  open_quote = refl;
  behind_quote = refl;
  inner_quote = refl;
  lone_return = refl;
  empty_line = refl;
  control_byte = refl;
  mark_alone = refl;
}

pub returns-clause-table : goal.returns-clause-table
unfolding read
returns-clause-table c = record { is = refl; texts = refl; other_separator = refl }
