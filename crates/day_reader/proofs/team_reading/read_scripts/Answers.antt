use Rattle.std.proofs.lemmas.Result.{err_from_is_err_and}
use Rattle.day_reader.proofs.DaySteps.{teams_fail, teams_read}
use Rattle.day_reader.proofs.team_reading.read_scripts.Goals as goal

pub returns-in_err-teams-clause-reads : goal.returns-in_err-teams-clause-reads
returns-in_err-teams-clause-reads c =
    let p = err_from_is_err_and c.from_residual.result c.from_residual.ensures.1 in
    rw (p.1, p.2) (teams_fail c.args.candidates c.args.team_follows _ _ _ c.in_err-teams.ensures.reads)

pub returns-clause-reads : goal.returns-clause-reads
returns-clause-reads c =
    teams_read c.args.candidates c.args.team_follows _ _ c.in_ok-teams.teams c.by_number.result c.in_ok-teams.ensures.reads
    c.by_number.ensures.ok c.by_number.ensures.only_memory
