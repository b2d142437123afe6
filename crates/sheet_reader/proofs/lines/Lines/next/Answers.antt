use Rattle.std.proofs.Common.{refl, sym, ◌∙◌}
use Rattle.sheet_reader.proofs.LineLists.{first_line, lines_without}
use Rattle.sheet_reader.proofs.lines.Lines.next.Goals as goal

pub returns-in_default : goal.returns-in_default
returns-in_default c = (sym c.self.view_is ∙ lines_without c.self.inside.rest.now c.in_default.ensures, refl)

pub returns : goal.returns
returns c = sym c.self.view_is ∙ first_line _ _ _ c.in-Some.ensures.0 c.in-Some.ensures.1
