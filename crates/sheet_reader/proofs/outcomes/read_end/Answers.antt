use Rattle.std.proofs.Common.{[], ◌∷◌, ◌∙◌, ap, sym, List, ℕ, ◌++◌}
use Rattle.std.specs.Prelude.{codes}
use Rattle.meek_rule.specs.Places.{each_place}
use Rattle.sheet_text.specs.Lines.{outcome_line}
use Rattle.sheet_reader.proofs.LineParts.{behind_places}
use Rattle.sheet_reader.proofs.ReadSheet.{no_end}
use Rattle.sheet_reader.proofs.WordLines.{stop_later}
use Rattle.sheet_reader.proofs.outcomes.read_end.Goals as goal

pub returns-in-Err : goal.returns-in-Err
returns-in-Err c = stop_later _ (no_end c.args.n c.args.lines.now) c.in-Err.ensures

pub returns-then-is_at_end : goal.returns-then-is_at_end
returns-then-is_at_end c =
    let read = c.in-Ok.ensures in
    let outcomes = c.in-Ok.outcomes in (
      read.0,
      read.1,
      read.2,
      read.3
          ∙ ap (λ (ls : List (List ℕ)). each_place c.args.n (outcome_line outcomes.0 outcomes.1) ++ ls)
          c.if-is_at_end.ensures,
    )

pub returns-else-is_at_end : goal.returns-else-is_at_end
returns-else-is_at_end c states names long named is =
    let outcomes = c.in-Ok.outcomes in
    c.if-is_at_end.ensures (behind_places (outcome_line outcomes.0 outcomes.1) (outcome_line states names)
    c.args.n _ (codes "end" ∷ []) (sym c.in-Ok.ensures.3 ∙ is))
