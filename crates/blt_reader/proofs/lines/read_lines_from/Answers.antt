use Rattle.std.proofs.Common.{[]}
use Rattle.blt_reader.proofs.BallotSoundness.{no_lines}
use Rattle.blt_reader.proofs.lines.read_lines_from.Goals as goal

pub returns-clause-reads : goal.returns-clause-reads
returns-clause-reads g c =
    c.read_lines_on.ensures.reads [] c.requires.none (no_lines c.args.bounds.candidates c.args.bounds.most)

pub read_lines_on-requires-clause-held : goal.read_lines_on-requires-clause-held
read_lines_on-requires-clause-held g c =
    ([], c.requires.none, no_lines c.args.bounds.candidates c.args.bounds.most)
