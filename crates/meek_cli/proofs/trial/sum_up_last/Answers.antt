use Rattle.std.proofs.Common.{ℕ, ◌≤◌, All, length, refl, ap, ◌∙◌, subst}
use Rattle.day_lines.specs.DayText.{roll_with}
use Rattle.day_sheets.proofs.LastFreeze.{some_version, clerks}
use Rattle.day_sheets.proofs.SummingUp.{stands_last}
use Rattle.meek_cli.proofs.trial.sum_up_last.Goals as goal

pub last_of-version-requires : goal.last_of-version-requires
last_of-version-requires g c =
    some_version (length c.args.terms.now.roll.names) c.args.text.now.history.now c.args.versions
    c.requires.frozen c.requires.ends

pub with_struck-requires : goal.with_struck-requires
with_struck-requires g c =
    let last = c.last_of-version.ensures in
    let is =
    clerks (length c.args.terms.now.roll.names) c.args.text.now.history.now c.args.versions last.0
    c.last_of-version.result c.requires.frozen c.requires.ends last.1 in
    subst (λ (n : ℕ). All (λ (c : ℕ). (1 ≤ c) × (c ≤ n)) c.struck.result.now) is.candidates c.struck.ensures.candidates

pub sum_up-requires-clause-stands : goal.sum_up-requires-clause-stands
sum_up-requires-clause-stands g c κs within =
    let last = c.last_of-version.ensures in
    let is =
    clerks (length c.args.terms.now.roll.names) c.args.text.now.history.now c.args.versions last.0
    c.last_of-version.result c.requires.frozen c.requires.ends last.1 in
    stands_last _ c.args.terms.now c.args.text.now.history.now c.last_of-version.result c.in_ok-roll.roll
    c.into_plans.result refl is
    (c.in_ok-roll.ensures ∙ ap (roll_with c.args.terms.now.roll) c.struck.ensures.struck)
    c.into_plans.ensures.plans c.into_plans.ensures.candidates c.into_plans.ensures.few
