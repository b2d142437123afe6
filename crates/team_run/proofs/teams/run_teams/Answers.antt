use Rattle.std.proofs.Common.{◌≡◌, List, ◌++◌, sym, ap, subst, ◌∙◌}
use Rattle.shard_office.specs.Passes.{PassState}
use Rattle.team_run.specs.Teams.{HaveBegun}
use Rattle.team_run.specs.Runs.{passes_of}
use Rattle.team_run.proofs.Ran.{opened_begun}
use Rattle.team_run.proofs.teams.run_teams.Goals as goal

pub returns-in-Err-clause-refused : goal.returns-in-Err-clause-refused
returns-in-Err-clause-refused g c =
    let teams = c.open_all.new.teams.items in
    let opened = c.open_all.ensures.opened in
    let taken : c.take_all_in.new.clerk.taken ≡ passes_of teams =
    c.take_all_in.ensures.taken
    ∙ ap (λ (l : List PassState). l ++ passes_of teams) (opened.taken ∙ c.requires.fresh.taken) in
    subst (λ (l : List PassState). HaveBegun l c.args.scripts) (sym taken)
    (subst (HaveBegun (passes_of teams)) (sym opened.first) (opened_begun c.args.office.now teams opened.left opened.ready))
