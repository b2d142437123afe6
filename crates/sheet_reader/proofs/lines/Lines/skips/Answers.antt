use Rattle.std.proofs.Common.{refl, sym, ◌∙◌}
use Rattle.sheet_reader.proofs.Digits.{false-ne_true}
use Rattle.sheet_reader.proofs.LineLists.{first_line_of, no_first_line, other_first_line}
use Rattle.sheet_reader.proofs.lines.Lines.skips.Goals as goal

pub returns-in_default : goal.returns-in_default
returns-in_default c =
    (refl, λ rest is. no_first_line c.self.inside.rest.now _ rest c.in_default.ensures (c.self.view_is ∙ is))

pub returns-then-is_same : goal.returns-then-is_same
returns-then-is_same c =
    sym c.self.view_is
    ∙ first_line_of _ _ _ _ c.in-Some.ensures.0 c.in-Some.ensures.1 (c.if-is_same.ensures.0 refl)

pub returns-else-is_same : goal.returns-else-is_same
returns-else-is_same c = (
  refl,
  λ rest is. false-ne_true (c.if-is_same.ensures.1
      (other_first_line _ _ _ _ rest c.in-Some.ensures.0 c.in-Some.ensures.1 (c.self.view_is ∙ is))),
)
