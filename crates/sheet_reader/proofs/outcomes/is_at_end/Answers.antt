use Rattle.std.proofs.Common.{List, ℕ, [], ◌∷◌, sym, ◌∙◌, ap}
use Rattle.std.specs.Prelude.{codes}
use Rattle.sheet_reader.proofs.LineParts.{heads}
use Rattle.sheet_reader.proofs.outcomes.is_at_end.Goals as goal

pub returns-then-not-skips : goal.returns-then-not-skips
returns-then-not-skips c is = c.if-not-skips.ensures.1 [] is

pub returns-in-None : goal.returns-in-None
returns-in-None c = c.if-not-skips.ensures ∙ ap (λ (ls : List (List ℕ)). codes "end" ∷ ls) c.in-None.ensures.0

pub returns-in-Some : goal.returns-in-Some
returns-in-Some c is =
    let none = (heads (codes "end") (codes "end") _ [] (sym c.if-not-skips.ensures ∙ is)).1 in
    let some = c.in-Some.ensures in cc
