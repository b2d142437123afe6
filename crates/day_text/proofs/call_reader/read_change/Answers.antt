use Rattle.day_text.proofs.call_reader.read_change.Goals as goal

pub returns-in-Some : goal.returns-in-Some
returns-in-Some c = ((c.in-Some.ensures.0, c.new-ballots.ensures), c.in-Some.ensures.1)
