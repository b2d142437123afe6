use Rattle.std.proofs.Common.{◌≤◌, ℕ, All, length, refl, ap, ◌∙◌, subst}
use Rattle.day_lines.specs.DayText.{roll_with}
use Rattle.day_sheets.specs.MadeDay.{made_day}
use Rattle.day_sheets.proofs.BatchNumbers.{have_numbers}
use Rattle.day_sheets.proofs.LastFreeze.{IsClerks}
use Rattle.day_sheets.proofs.SummingUp.{stands_last}
use Rattle.day_replay.proofs.trial_judging.difference_from.Goals as goal

pub with_struck-requires : goal.with_struck-requires
with_struck-requires g c =
    subst (λ (n : ℕ). All (λ (c : ℕ). (1 ≤ c) × (c ≤ n)) c.struck.result.now) c.requires.candidates
    c.struck.ensures.candidates

pub compare_summary-requires-clause-numbers : goal.compare_summary-requires-clause-numbers
compare_summary-requires-clause-numbers g c κs within =
    have_numbers (length c.args.terms.now.roll.names) (made_day c.args.summary.now.number).scripts c.args.summary.now.history.now
    c.requires.scripts c.requires.history

pub compare_summary-requires-clause-stands : goal.compare_summary-requires-clause-stands
compare_summary-requires-clause-stands g c κs within =
    let is : IsClerks (length c.args.terms.now.roll.names) c.args.summary.now.history.now c.args.version =
    record { at = c.requires.at; stands = c.requires.stands; candidates = c.requires.candidates } in
    stands_last _ c.args.terms.now c.args.summary.now.history.now c.args.version c.in_ok-roll.roll
    c.into_plans.result refl is
    (c.in_ok-roll.ensures ∙ ap (roll_with c.args.terms.now.roll) c.struck.ensures.struck) c.into_plans.ensures.plans
    c.into_plans.ensures.candidates c.into_plans.ensures.few
