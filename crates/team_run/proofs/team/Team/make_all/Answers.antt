use Rattle.std.proofs.Common.{List, sym, subst}
use Rattle.batch_core.specs.declared.call.Call.{Call}
use Rattle.team_run.specs.Runs.{IsMaking}
use Rattle.team_run.proofs.Making.{making_none, next_answerable, making_more, made_first}
use Rattle.team_run.proofs.team.Team.make_all.Goals as goal

pub calls-init : goal.calls-init
calls-init g c =
    let team = c.args.self.now in
    let ready = c.requires in
    making_none c.args.office.now team.left c.reverse.new.self team.pass team.versions.items ready.office_is
    ready.own_is ready.versions ready.answerable c.reverse.ensures

pub make-requires-clause-answerable : goal.make-requires-clause-answerable
make-requires-clause-answerable g c =
    let team = c.calls.self in
    let answerable =
    next_answerable c.args.office.now c.args.self.now.pass.caller c.args.self.now.left team.left c.pop.new.self
    c.in-Some.call team.pass team.versions.items c.calls.invariant c.in-Some.ensures.last in
    λ κs given. answerable

pub calls-preserved : goal.calls-preserved
calls-preserved g c =
    let team = c.calls.self in
    let next = c.make.new.self in
    let start = c.args.self.now in
    subst (λ (l : List Call). IsMaking c.args.office.now start.pass.caller start.left l next.pass next.versions.items)
    (sym c.make.ensures.left)
    (making_more c.args.office.now start.pass.caller start.left team.left c.pop.new.self c.in-Some.call team.pass
    next.pass team.versions.items next.versions.items c.calls.invariant c.in-Some.ensures.last
    c.make.ensures.same c.make.ensures.work c.in_ok-make.ensures.made)

pub returns-in_err-make-clause-begun : goal.returns-in_err-make-clause-begun
returns-in_err-make-clause-begun g c =
    let team = c.calls.self in
    made_first c.args.office.now c.args.self.now.pass.caller c.args.self.now.left team.left team.pass
    c.make.new.self.pass team.versions.items c.calls.invariant c.make.ensures.same
    c.in_err-make.ensures.refused
