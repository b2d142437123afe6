use Rattle.day_sheets.proofs.SummaryLines.{seven_lines}
use Rattle.day_sheets.proofs.summary.Summary.text.Goals as goal

pub returns : goal.returns
returns c =
    seven_lines _ _ _ _ _ _ _ _ _ _ _ _ _ _ _ _ _ _ c.new-line.ensures c.push_number_line.ensures.text
    c.push_number_line-2.ensures.text
    c.push_number_line-3.ensures.text c.push_number_line-4.ensures.text c.push_number_line-5.ensures.text
    c.push_number_line-6.ensures.text c.push_bytes.ensures
    c.push_elected.ensures.list c.push_bytes-2.ensures
