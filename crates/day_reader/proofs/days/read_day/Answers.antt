use Rattle.std.proofs.Common.{true}
use Rattle.input_text.specs.Scan.{scan}
use Rattle.day_reader.proofs.DaySteps.{says_day, refuses_day}
use Rattle.day_reader.proofs.DayScripts.{has_scripts, has_lots, has_places}
use Rattle.day_reader.proofs.days.read_day.Goals as goal

pub returns-clause-accepted : goal.returns-clause-accepted
returns-clause-accepted c =
    says_day c.accepts_days.ensures (scan c.args.bytes.now true) c.read_file.result c.read_file.ensures

pub returns-clause-refused : goal.returns-clause-refused
returns-clause-refused c =
    refuses_day c.refuses_by_the_rule.ensures (scan c.args.bytes.now true) c.read_file.result
    c.read_file.ensures

pub returns-clause-scripts : goal.returns-clause-scripts
returns-clause-scripts c =
    has_scripts c.accepts_days.ensures (scan c.args.bytes.now true) c.read_file.result c.read_file.ensures

pub returns-clause-lots : goal.returns-clause-lots
returns-clause-lots c = has_lots c.accepts_days.ensures (scan c.args.bytes.now true) c.read_file.result c.read_file.ensures

pub returns-clause-places : goal.returns-clause-places
returns-clause-places c =
    has_places c.accepts_days.ensures (scan c.args.bytes.now true) c.read_file.result c.read_file.ensures
