use Rattle.std.proofs.Common.{ℕ, Option, List, subst}
use Rattle.day_reader.specs.declared.script.Script.{Script}
use Rattle.sheet_check.specs.Comparison.{IsCompared}
use Rattle.day_lines.specs.declared.terms.Terms.{Terms}
use Rattle.day_lines.specs.DayHistory.{IsHistoryOf}
use Rattle.day_sheets.specs.Summary.{IsSummary}
use Rattle.day_replay.proofs.TrialVerdicts.{false_summary}
use Rattle.day_replay.proofs.trial_judging.judge_made.Goals as goal

pub returns-in-None : goal.returns-in-None
returns-in-None g c =
    let found = c.in_ok-summary_difference.ensures in (
      found.history,
      subst (λ (ss : List Script). IsHistoryOf ss found.history) c.requires.made found.is_history,
      subst (λ (t : Terms). IsSummary c.args.number t found.history c.args.text.now) c.requires.terms
          (subst (λ (o : Option ℕ). IsCompared
          (IsSummary c.args.number c.args.terms.now found.history) c.args.text.now o)
          c.in-None.is found.compared),
    )

pub returns-in-Some : goal.returns-in-Some
returns-in-Some g c =
    let found = c.in_ok-summary_difference.ensures in
    let history = found.history in
    let differs =
    subst (λ (o : Option ℕ). IsCompared (IsSummary c.args.number c.args.terms.now history) c.args.text.now o)
    c.in-Some.is found.compared in
    false_summary c.args.number c.in-Some.n c.args.text.now differs.0 history c.made_days_have_one_summary.ensures
    (subst (λ (ss : List Script). IsHistoryOf ss history) c.requires.made found.is_history)
    (subst (λ (t : Terms). IsSummary c.args.number t history differs.0) c.requires.terms differs.1) differs.2
