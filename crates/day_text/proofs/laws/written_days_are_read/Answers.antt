use Rattle.day_text.proofs.FormLaws.{form_says, values_are_read}
use Rattle.day_text.proofs.laws.written_days_are_read.Goals as goal

pub returns : goal.returns
returns c = record {
  values = form_says c.written_values_are_read.ensures.values;
  read = values_are_read c.written_values_are_read.ensures.values;
}
