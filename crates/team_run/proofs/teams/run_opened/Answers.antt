use Rattle.std.proofs.Common.{◌≡◌, List, ◌++◌, map, All, IsPermutation, sym, ap, subst, ◌∙◌}
use Rattle.shard_office.specs.Passes.{PassState}
use Rattle.shard_office.specs.Sight.{GoesOn}
use Rattle.frozen_version.specs.Versions.{VersionState}
use Rattle.team_run.specs.Teams.{script_of, RisesFrom, HaveBegun, AreVersionsOf}
use Rattle.team_run.specs.Runs.{asked, passes_of}
use Rattle.day_lines.proofs.EntryLines.{on_err}
use Rattle.team_run.proofs.Lists.{all_got}
use Rattle.team_run.proofs.Ran.{as_many, still_of, all_whole, all_begun, all_work}
use Rattle.team_run.proofs.Places.{are_versions}
use Rattle.team_run.proofs.teams.run_opened.Goals as goal

pub take_all_in-requires-clause-open_teams : goal.take_all_in-requires-clause-open_teams
take_all_in-requires-clause-open_teams g c =
    c.requires.open_teams
    ∙ sym (as_many c.args.office.now c.args.teams.items c.run_all.new.teams.items c.run_all.ensures)

pub take_all_in-requires-clause-teams : goal.take_all_in-requires-clause-teams
take_all_in-requires-clause-teams g c =
    still_of c.args.office.now c.args.teams.items c.run_all.new.teams.items c.run_all.ensures

pub returns-in_err-versions-clause-refused : goal.returns-in_err-versions-clause-refused
returns-in_err-versions-clause-refused g c =
    let taken : c.take_all_in.new.clerk.taken ≡ passes_of c.run_all.new.teams.items =
    c.take_all_in.ensures.taken ∙ ap (λ (l : List PassState). l ++ passes_of c.run_all.new.teams.items) c.requires.taken in
    on_err c.from_residual.result _
    (subst (λ (l : List PassState). HaveBegun l (map asked c.args.teams.items)) (sym taken)
    (all_begun c.args.office.now c.args.teams.items c.run_all.new.teams.items c.run_all.ensures))

pub returns-clause-teams : goal.returns-clause-teams
returns-clause-teams g c =
    let taken : c.take_all_in.new.clerk.taken ≡ passes_of c.run_all.new.teams.items =
    c.take_all_in.ensures.taken ∙ ap (λ (l : List PassState). l ++ passes_of c.run_all.new.teams.items) c.requires.taken in
    ap (map script_of) taken
    ∙ all_whole c.args.office.now c.args.teams.items c.run_all.new.teams.items c.run_all.ensures
    c.in_ok-versions.ensures.whole

pub returns-clause-versions : goal.returns-clause-versions
returns-clause-versions g c =
    let office = c.args.office.now in
    let new = c.run_all.new.teams.items in
    let sight = c.take_all_in.new.clerk.desk.sight in
    let taken : c.take_all_in.new.clerk.taken ≡ passes_of new =
    c.take_all_in.ensures.taken ∙ ap (λ (l : List PassState). l ++ passes_of new) c.requires.taken in
    let whole = all_whole office c.args.teams.items new c.run_all.ensures c.in_ok-versions.ensures.whole in
    let rises : RisesFrom 0 (map script_of (passes_of new)) = subst (RisesFrom 0) (sym whole) c.requires.numbers in
    let begins : All (λ pass. GoesOn pass.sight sight) (passes_of new) =
    subst (All (λ (pass : PassState). GoesOn pass.sight sight)) taken
    (all_got (λ (pass : PassState). GoesOn pass.sight sight) c.take_all_in.new.clerk.taken
    (λ k q e. (c.open_teams.ensures.taken k q e).begins)) in
    subst (λ (l : List PassState). AreVersionsOf l c.by_place.result) (sym taken)
    (are_versions sight new c.by_place.result (all_work office c.args.teams.items new c.run_all.ensures) rises begins
    (subst (λ (l : List VersionState). IsPermutation l c.by_place.result) c.in_ok-versions.ensures.versions
    c.by_place.ensures.same) c.by_place.ensures.rising)
