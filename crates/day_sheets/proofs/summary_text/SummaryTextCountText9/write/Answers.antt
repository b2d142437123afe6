use Rattle.std.proofs.Common.{rules, ◌≡◌, [], ◌∷◌, map, subst}
use Rattle.lane_sheet.specs.Due.{CountDue, dues_of}
use Rattle.day_sheets.specs.Summary.{IsSummaryDue}
use Rattle.day_sheets.proofs.summary_text.SummaryTextCountText9.write.Goals as goal

pub returns : goal.returns
returns g c =
    let polls = c.args.polls.now in
    let text = c.args.self.now in
    let only : dues_of polls.omega polls.lots.now polls.rolls.now (map g.D.Spread.ballots c.args.spreads.now)
    ≡ c.in-Some.begun ∷ [] = search rules in
    let did = c.sum_up.ensures in (
      did.0,
      (
        c.in-Some.begun,
        only,
        subst (λ (due : CountDue). IsSummaryDue text.number 9 text.history.now due did.0) c.into_count.ensures.due did.1,
      ),
      did.2,
    )
