use Rattle.std.proofs.Common.{rules, ◌≡◌, [], ◌∷◌, ◌++◌, sym, subst}
use Rattle.team_run.specs.Runs.{IsSamePass, IsAtWork}
use Rattle.team_run.proofs.Work.{same_work, at_work_with}
use Rattle.team_run.proofs.calls.make_freeze.Goals as goal

pub returns-clause-work : goal.returns-clause-work
returns-clause-work g c =
    let same : IsSamePass c.args.pass.now c.freeze.new.pass =
    record {
      office = c.freeze.ensures.office;
      caller = c.freeze.ensures.caller;
      goes_on = c.freeze.ensures.goes_on;
    } in
    let items : c.push_reserved.new.self.items ≡ c.args.versions.now.items ++ c.in_ok-version.version ∷ [] = search rules in
    subst (IsAtWork c.freeze.new.pass) (sym items)
    (at_work_with c.versions_stay.ensures.stay c.args.office.now c.args.pass.now c.freeze.new.pass
    c.args.versions.now.items c.in_ok-version.version same
    c.in_ok-version.ensures.own c.in_ok-version.ensures.frozen c.in_ok-version.ensures.candidates
    c.requires.office c.requires.work)

pub returns-in_err-version-clause-work : goal.returns-in_err-version-clause-work
returns-in_err-version-clause-work g c =
    let same : IsSamePass c.args.pass.now c.freeze.new.pass =
    record {
      office = c.freeze.ensures.office;
      caller = c.freeze.ensures.caller;
      goes_on = c.freeze.ensures.goes_on;
    } in
    subst (IsAtWork c.freeze.new.pass) (sym c.reserve.ensures.items)
    (same_work c.versions_stay.ensures.stay c.args.pass.now c.freeze.new.pass c.args.versions.now.items same
    c.in_err-version.ensures.refused c.requires.work)
