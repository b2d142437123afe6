use Rattle.day_audit.proofs.DaySplits.{days_split}
use Rattle.day_audit.proofs.SheetSplits.{sheets_split}
use Rattle.day_audit.proofs.laws.true_texts_are_split.Goals as goal

pub returns : goal.returns
returns c = record {
  sheets = sheets_split;
  days = days_split c.owed_days_are_read_back.ensures.form;
}
