use Rattle.day_reader.proofs.DaySteps.{trailing, well_ended, faulted}
use Rattle.day_reader.proofs.days.read_nothing.Goals as goal

pub returns-in-Token : goal.returns-in-Token
returns-in-Token c = trailing _ _ _ c.in-Token.ensures.gives

pub returns-in-End : goal.returns-in-End
returns-in-End c = well_ended _ _ c.in-End.ensures.gives.0

pub returns-in-Fault : goal.returns-in-Fault
returns-in-Fault c = faulted _ _ c.in-Fault.ensures.gives.0
