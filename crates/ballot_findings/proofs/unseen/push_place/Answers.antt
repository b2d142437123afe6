use Rattle.ballot_findings.proofs.unseen.push_place.Goals as goal

pub returns : goal.returns
returns c = c.push_place_line.ensures c.args.input.now c.args.place c.mark_of-mark.ensures
