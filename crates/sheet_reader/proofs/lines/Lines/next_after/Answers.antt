use Rattle.std.proofs.Common.{refl, sym, ◌∙◌}
use Rattle.sheet_reader.proofs.LineLists.{first_line_of, no_first_line, other_first_line}
use Rattle.sheet_reader.proofs.lines.Lines.next_after.Goals as goal

pub returns-in_default : goal.returns-in_default
returns-in_default c = (
  refl,
  λ text rest is. no_first_line c.self.inside.rest.now _ rest c.in_default.ensures (c.self.view_is ∙ is),
)

pub returns-in_default-strip : goal.returns-in_default-strip
returns-in_default-strip c = (
  refl,
  λ text rest is. c.in_default-strip.ensures text
      (other_first_line _ _ _ _ rest c.in-Some.ensures.0 c.in-Some.ensures.1 (c.self.view_is ∙ is)),
)

pub returns : goal.returns
returns c = sym c.self.view_is ∙ first_line_of _ _ _ _ c.in-Some.ensures.0 c.in-Some.ensures.1 c.in-Some-strip.ensures
