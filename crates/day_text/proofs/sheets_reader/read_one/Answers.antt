use Rattle.day_text.proofs.SheetTexts.{behind_line, none_cut, no_form}
use Rattle.day_text.proofs.sheets_reader.read_one.Goals as goal

pub returns-in_default : goal.returns-in_default
returns-in_default g c s rest begins = c.in_default.ensures _ (behind_line g.row.P c.args.freeze c.args.text.now s rest begins)

pub returns-in_default-cut_sheet : goal.returns-in_default-cut_sheet
returns-in_default-cut_sheet g c = none_cut g.row.P c.args.freeze c.args.text.now _ c.in-Some.ensures c.in_default-cut_sheet.ensures

pub returns-in-Err-Malformed : goal.returns-in-Err-Malformed
returns-in-Err-Malformed g c =
    no_form g.row.P c.args.freeze c.args.text.now _ _ _ c.in-Some.ensures c.in-Some-cut_sheet.ensures
    (rw c.in-Err-Malformed.field-0-is at c.in-Err-Malformed.ensures)
