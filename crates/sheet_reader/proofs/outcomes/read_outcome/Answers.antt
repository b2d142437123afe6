use Rattle.sheet_reader.proofs.Places.{no_outcome}
use Rattle.sheet_reader.proofs.WordLines.{stop_later}
use Rattle.sheet_reader.proofs.outcomes.read_outcome.Goals as goal

pub returns-in-Err : goal.returns-in-Err
returns-in-Err c =
    stop_later _
    (no_outcome c.args.p _ _ _ _ _ c.requires.place c.in-Some.ensures c.in-Some-outcome_parts.ensures)
    c.in-Err.ensures
