use Rattle.ballot_findings.proofs.breaks.push_string.Goals as goal

pub returns : goal.returns
returns c = c.push_told.ensures c.args.input.now c.args.token.at c.requires
