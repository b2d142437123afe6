use Rattle.std.proofs.Common.{List, length, subst}
use Rattle.std.proofs.lemmas.Result.{IfOk-weaker}
use Rattle.day_reader.specs.declared.script.Script.{Script}
use Rattle.day_reader.specs.Said.{AreScripts}
use Rattle.sheet_check.specs.Comparison.{IsCompared}
use Rattle.day_lines.specs.DayHistory.{IsHistoryOf}
use Rattle.day_sheets.specs.Summary.{IsSummary}
use Rattle.day_replay.specs.Judged.{DiffersFromSummary}
use Rattle.day_replay.proofs.trial_judging.summary_difference.Goals as goal

pub difference_from-requires-clause-scripts : goal.difference_from-requires-clause-scripts
difference_from-requires-clause-scripts g c κs within =
    subst (λ (ss : List Script). AreScripts (length c.args.terms.now.roll.names) ss) c.requires.made c.requires.scripts

pub difference_from-requires-clause-history : goal.difference_from-requires-clause-history
difference_from-requires-clause-history g c κs within =
    subst (λ (ss : List Script). IsHistoryOf ss c.in_ok-history.history) c.requires.made c.in_ok-history.ensures.history

pub returns : goal.returns
returns g c =
    let history = c.in_ok-history.history in
    let number = c.args.number in
    let terms = c.args.terms.now in
    let text = c.args.text.now in
    IfOk-weaker c.difference_from.result (IsCompared (IsSummary number terms history) text)
    (DiffersFromSummary number terms c.args.scripts text)
    (λ found compared. record { history = history; is_history = c.in_ok-history.ensures.history; compared = compared })
    c.difference_from.ensures
