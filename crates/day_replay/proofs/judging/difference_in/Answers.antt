use Rattle.std.proofs.Common.{ℕ, map, ap, subst, ◌∙◌}
use Rattle.std.proofs.lemmas.Result.{IfOk-weaker}
use Rattle.sheet_check.specs.Comparison.{IsCompared}
use Rattle.day_lines.specs.DayText.{IsDayText}
use Rattle.day_sheets.specs.Frozen.{AreFrozen}
use Rattle.day_sheets.proofs.DaySheets.{roll_of, place_of}
use Rattle.day_replay.specs.Judged.{DiffersFromNearest}
use Rattle.day_replay.proofs.judging.difference_in.Goals as goal

pub difference_at-requires-clause-rolls : goal.difference_at-requires-clause-rolls
difference_at-requires-clause-rolls g c κs within =
    c.as_slice-4.ensures.value ∙ c.in_ok-rolls.ensures ∙ ap (map (roll_of c.args.terms.now.roll)) c.as_slice.ensures.value

pub difference_at-requires-clause-freezes : goal.difference_at-requires-clause-freezes
difference_at-requires-clause-freezes g c κs within =
    c.as_slice-3.ensures.value ∙ c.in_ok-places.ensures ∙ ap (map place_of) c.as_slice-2.ensures.value

pub difference_at-requires-clause-frozen : goal.difference_at-requires-clause-frozen
difference_at-requires-clause-frozen g c κs within =
    subst (λ (n : ℕ). AreFrozen n c.in_ok-history.history c.in_ok-frozen.frozen.items)
    c.candidates-candidates.ensures.value c.in_ok-frozen.ensures

pub versions_of-requires-clause-legal : goal.versions_of-requires-clause-legal
versions_of-requires-clause-legal g c κs within = c.in_ok-history.ensures.history.legal

pub returns : goal.returns
returns g c =
    let history = c.in_ok-history.history in
    let terms = c.args.terms.now in
    let text = c.args.text.now in
    let followed = c.in_ok-history.ensures in
    IfOk-weaker c.difference_at.result (IsCompared (IsDayText terms history) text)
    (DiffersFromNearest terms c.args.scripts text)
    (λ found compared. record {
      history = history;
      is_history = followed.history;
      is_nearest = followed.nearest;
      compared = compared;
    })
    c.difference_at.ensures
