use Rattle.std.proofs.Common.{List, sym, ◌∙◌, ap}
use Rattle.std.proofs.lemmas.Result.{err_from_is_err_and}
use Rattle.batch_core.specs.declared.call.Call.{Call}
use Rattle.input_text.specs.Judged.{reads}
use Rattle.input_text.proofs.Reading.{behind_trans}
use Rattle.day_reader.specs.declared.script.Script.{Script}
use Rattle.day_reader.specs.TeamTable.{InTeam, at_teams}
use Rattle.day_reader.specs.Reads.{next_team}
use Rattle.day_reader.proofs.Steps.{fewer_left, leads_fail}
use Rattle.day_reader.proofs.TeamSteps.{number_stops, number_read}
use Rattle.day_reader.proofs.team_reading.read_team.Goals as goal

pub returns-in_err-team-clause-reads : goal.returns-in_err-team-clause-reads
returns-in_err-team-clause-reads c =
    let p = err_from_is_err_and c.from_residual.result c.from_residual.ensures.1 in
    rw (p.1, p.2) (number_stops c.args.candidates c.args.teams.now _ _ _ c.in_err-team.ensures.fault)

pub returns-in_err-more-clause-reads : goal.returns-in_err-more-clause-reads
returns-in_err-more-clause-reads c =
    let p = err_from_is_err_and c.from_residual-in_err-more.result c.from_residual-in_err-more.ensures.1 in
    let begun = number_read c.args.candidates c.args.teams.now _ _ c.in_ok-team.team c.in_ok-team.ensures.number
    ∙ ap (λ (l : List Call). reads (at_teams c.args.candidates)
    (InTeam c.args.teams.now (record { team = c.in_ok-team.team; calls = l })) c.read_number.new.tokens.rest)
    (sym c.new.ensures) in
    rw (p.1, p.2) (leads_fail _ _ begun _ _ _ _ c.in_err-more.ensures.reads)

pub returns-clause-reads : goal.returns-clause-reads
returns-clause-reads c =
    number_read c.args.candidates c.args.teams.now _ _ c.in_ok-team.team c.in_ok-team.ensures.number
    ∙ ap (λ (l : List Call). reads (at_teams c.args.candidates)
    (InTeam c.args.teams.now (record { team = c.in_ok-team.team; calls = l })) c.read_number.new.tokens.rest)
    (sym c.new.ensures)
    ∙ c.in_ok-more.ensures.reads
    ∙ ap (λ (l : List Script). next_team c.args.candidates l c.in_ok-more.more c.read_calls.new.tokens.rest)
    (sym c.in_ok-push.ensures.ok)

pub returns-in_err-team-clause-behind : goal.returns-in_err-team-clause-behind
returns-in_err-team-clause-behind c = c.in_err-team.ensures.behind

pub returns-in_err-more-clause-behind : goal.returns-in_err-more-clause-behind
returns-in_err-more-clause-behind c = behind_trans c.in_ok-team.ensures.behind c.in_err-more.ensures.behind

pub returns-in_err-push-clause-behind : goal.returns-in_err-push-clause-behind
returns-in_err-push-clause-behind c = behind_trans c.in_ok-team.ensures.behind c.in_ok-more.ensures.behind

pub returns-clause-behind : goal.returns-clause-behind
returns-clause-behind c = behind_trans c.in_ok-team.ensures.behind c.in_ok-more.ensures.behind

pub returns-clause-fewer : goal.returns-clause-fewer
returns-clause-fewer c =
    fewer_left c.args.tokens.now c.read_number.new.tokens c.read_calls.new.tokens _ c.in_ok-team.ensures.number.given
    c.in_ok-more.ensures.behind
