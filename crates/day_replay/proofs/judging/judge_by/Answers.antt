use Rattle.std.proofs.Common.{◌≤◌, ℕ, Option, subst}
use Rattle.fixed_place.specs.declared.omega.TheConstants.{MOST_OMEGA}
use Rattle.sheet_check.specs.Comparison.{IsCompared}
use Rattle.day_lines.specs.DayText.{IsDayText}
use Rattle.day_replay.specs.Judged.{day_of}
use Rattle.day_replay.proofs.DayVerdicts.{false_at}
use Rattle.day_replay.proofs.judging.judge_by.Goals as goal

pub returns-in-None : goal.returns-in-None
returns-in-None g c =
    let found = c.in_ok-difference_in.ensures in (
      found.history,
      found.is_history,
      subst (λ (o : Option ℕ). IsCompared (IsDayText c.args.terms.now found.history) c.args.text.now o) c.in-None.is
          found.compared,
    )

pub returns-in-Some : goal.returns-in-Some
returns-in-Some g c =
    let day = day_of c.args.terms.now c.args.scripts in
    let found = c.in_ok-difference_in.ensures in
    let differs =
    subst (λ (o : Option ℕ). IsCompared (IsDayText c.args.terms.now found.history) c.args.text.now o) c.in-Some.is
    found.compared in
    false_at day
    (record {
      some_omega = subst (λ (n : ℕ). 1 ≤ n) c.units-units.ensures.value c.units-units.ensures.least;
      small_omega = subst (λ (n : ℕ). n ≤ MOST_OMEGA) c.units-units.ensures.value c.units-units.ensures.most;
      roll = c.candidates-candidates.ensures.sound;
      order = c.candidates-order.ensures.order;
      lots_of_all = c.requires.lots;
    })
    c.args.text.now differs.0 found.history found.is_history found.is_nearest differs.1 c.in-Some.n differs.2
