use Rattle.day_text.proofs.Printed.{has_form, is_read_back}
use Rattle.day_text.proofs.written.days_are_read_back.Goals as goal

pub returns : goal.returns
returns c = record {
  form = has_form c.sheets_are_read_back.ensures.form;
  read = is_read_back c.sheets_are_read_back.ensures.form c.written_days_are_read.ensures.read;
}
