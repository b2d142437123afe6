use Rattle.std.proofs.Common.{◌≡◌, ◌≤◌, ℕ, List, [], ◌∷◌, All, length, map, sym, ap, ◌∙◌, subst, arith}
use Rattle.frozen_plan.specs.Plan.{PlanRows, all_ballots}
use Rattle.lane_sheet.specs.Due.{CountDue, dues_of, due_of}
use Rattle.lane_sheet.proofs.Sheets.{written_as}
use Rattle.day_lines.specs.declared.terms.Terms.{Terms}
use Rattle.batch_core.specs.Histories.{IsLegal}
use Rattle.day_sheets.specs.Standing.{HaveNumbers}
use Rattle.day_sheets.specs.Summary.{IsOnlySummary, IsSummedUp}
use Rattle.day_sheets.proofs.SummingUp.{sums_up, one_roll, one_list, twelve}
use Rattle.day_sheets.proofs.summing.sum_up.Goals as goal

pub write_in_lanes-requires-clause-rolls : goal.write_in_lanes-requires-clause-rolls
write_in_lanes-requires-clause-rolls g c κs within =
    one_roll c.args.text.now.number c.args.terms.now c.args.roll.now c.from_ref.result.now _ c.requires.terms
    c.requires.stands.roll_is c.from_ref.ensures.value

pub write_in_lanes-requires-clause-plans : goal.write_in_lanes-requires-clause-plans
write_in_lanes-requires-clause-plans g c κs within =
    one_list c.args.text.now.number c.args.terms.now c.args.standing c.in_ok-plans.plans.items c.requires.terms
    c.in_ok-plans.ensures.items c.requires.stands.counted

pub write_in_lanes-requires-clause-takes : goal.write_in_lanes-requires-clause-takes
write_in_lanes-requires-clause-takes g c κs within =
    let terms = c.args.terms.now in
    let history = c.args.text.now.history.now in
    let given :
    IsLegal history × HaveNumbers history
    × IsSummedUp (dues_of terms.omega terms.lots c.from_ref.result.now (map all_ballots c.in_ok-plans.plans.items)) = (
      c.requires.legal,
      c.requires.numbers,
      (
        due_of terms.omega terms.lots c.args.roll.now (all_ballots c.args.standing),
        (λ i. dues_of terms.omega terms.lots (c.from_ref.ensures.value i) (map all_ballots (c.in_ok-plans.ensures.items i))),
        twelve c.args.text.now.number terms c.args.roll.now _ c.requires.terms c.requires.stands.roll_is,
      ),
    ) in
    given

pub returns : goal.returns
returns g c =
    let terms = c.args.terms.now in
    let history = c.args.text.now.history.now in
    let dues : dues_of terms.omega terms.lots c.from_ref.result.now (map all_ballots c.in_ok-plans.plans.items)
    ≡ due_of terms.omega terms.lots c.args.roll.now (all_ballots c.args.standing) ∷ [] =
    λ i. dues_of terms.omega terms.lots (c.from_ref.ensures.value i) (map all_ballots (c.in_ok-plans.ensures.items i)) in
    written_as g.K.Sink.written g.K.Sink.faults c.args.sink.now c.write_in_lanes.new.sink _ _ c.in_ok-wrote.wrote
    (λ text summary. sums_up c.args.text.now.number terms history c.args.roll.now c.args.standing text
    (ap (λ (t : Terms). t.places) c.requires.terms) c.counts_are_unique.ensures.orders c.requires.stands
    (subst (λ (d : List CountDue). IsOnlySummary c.args.text.now.number 9 history d text) dues summary))
    c.in_ok-wrote.ensures
