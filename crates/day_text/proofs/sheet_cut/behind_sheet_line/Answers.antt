use Rattle.std.proofs.Common.{◌∙◌}
use Rattle.day_text.proofs.SheetTexts.{line_read, line_end}
use Rattle.day_text.proofs.sheet_cut.behind_sheet_line.Goals as goal

pub returns-in-None : goal.returns-in-None
returns-in-None c rest is =
    c.in-None.ensures rest
    (line_end _ _ _ rest _ c.args.freeze c.in-Some.ensures c.in-Some-strip.ensures
    (c.as_bytes.ensures.value ∙ c.format.ensures.text) is)

pub returns-in-Some-strip-2 : goal.returns-in-Some-strip-2
returns-in-Some-strip-2 c =
    line_read _ _ _ _ _ c.args.freeze c.in-Some.ensures c.in-Some-strip.ensures
    (c.as_bytes.ensures.value ∙ c.format.ensures.text) c.in-Some-strip-2.ensures
