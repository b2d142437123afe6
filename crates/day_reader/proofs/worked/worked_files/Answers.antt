use Rattle.day_reader.proofs.WorkedFiles.{each_call, turned_teams, head_refusals, team_refusals}
use Rattle.day_reader.proofs.worked.worked_files.Goals as goal

pub returns : goal.returns
returns c = record { each_call = each_call; turned = turned_teams; head = head_refusals; teams = team_refusals }
