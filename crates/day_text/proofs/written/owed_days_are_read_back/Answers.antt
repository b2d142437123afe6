use Rattle.day_text.proofs.OwedDays.{owed_form, owed_read}
use Rattle.day_text.proofs.written.owed_days_are_read_back.Goals as goal

pub returns : goal.returns
returns c = record {
  form = owed_form c.days_are_read_back.ensures.form;
  read = owed_read c.days_are_read_back.ensures.read;
}
