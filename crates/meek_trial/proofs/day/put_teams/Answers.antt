use Rattle.std.proofs.Common.{◌≡◌, ℕ, ◌+◌, ◌-◌, ◌*◌, List, [], ◌++◌, sym, ap, ◌∙◌, append-nil, arith, rules}
use Rattle.meek_trial.specs.Draws.{Drawing}
use Rattle.meek_trial.specs.Trial.{one_team, teams, draws_before, first}
use Rattle.meek_trial.proofs.Going.{teams_none, teams_go_on, drawing}
use Rattle.meek_trial.proofs.day.put_teams.Goals as goal

none_drawn : (number : ℕ) → 0 ≡ draws_before (first number 1)
none_drawn number = omega arith

pub loop-team-init : goal.loop-team-init
loop-team-init c = record {
  text =
      sym (append-nil c.args.text.now.items)
      ∙ ap (λ (t : List ℕ). c.args.text.now.items ++ t) (sym (teams_none c.args.number));
  draws = c.new-draws.ensures ∙ ap (drawing c.args.number) (none_drawn c.args.number);
}

pub loop-team-preserved : goal.loop-team-preserved
loop-team-preserved c =
    let number = c.args.number in
    let team = c.loop-team.team in
    let same : team + 1 ≡ 1 + team = omega arith in
    let put : c.put_team.new.text.items ≡ c.loop-team.text.items ++ one_team number (1 + team) =
    c.in_ok-put_team.ensures.text ∙ ap (λ (t : ℕ). c.loop-team.text.items ++ one_team number t) same in
    record {
      text =
          teams_go_on c.args.text.now.items c.loop-team.text.items c.put_team.new.text.items number team
          c.loop-team.invariant.text put;
      draws = c.in_ok-put_team.ensures.draws;
    }
