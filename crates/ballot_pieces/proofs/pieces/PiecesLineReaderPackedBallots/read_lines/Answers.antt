use Rattle.std.proofs.Common.{[], List, subst}
use Rattle.plain_ballots.specs.Ballots.{BallotList}
use Rattle.plain_ballots.specs.declared.ballot_line.BallotLine.{BallotLine}
use Rattle.input_text.specs.Reader.{Reader}
use Rattle.input_text.specs.Reads.{IsBehind}
use Rattle.input_text.proofs.Reading.{behind_trans}
use Rattle.blt_reader.specs.BallotTable.{Between}
use Rattle.blt_reader.specs.Stored.{ReadsHeld}
use Rattle.blt_reader.specs.Pieces.{counted, lines_table}
use Rattle.ballot_pieces.specs.Found.{holds, text_from}
use Rattle.ballot_pieces.proofs.Joining.{all_read, some_lines}
use Rattle.ballot_pieces.proofs.pieces.PiecesLineReaderPackedBallots.read_lines.Goals as goal

pub read_lines_on-requires-clause-held : goal.read_lines_on-requires-clause-held
read_lines_on-requires-clause-held g c =
    some_lines c.args.bounds c.args.empty c.in-Ok.found.ballots (counted c.args.first c.same.result.rest)
    (text_from c.in-Ok.found.to) c.requires.none c.in-Ok.ensures.reads

pub returns-clause-reads : goal.returns-clause-reads
returns-clause-reads g c =
    let result = c.read_lines_on.result in
    let rest = c.read_lines_on.new.tokens.rest in
    subst
    (λ (t : Reader).
    ReadsHeld holds (lines_table c.args.bounds) (Between [])
    (λ (more : BallotList) (lines : List BallotLine). lines) (counted c.args.first t.rest) result rest) c.same.ensures
    (all_read c.args.bounds c.args.empty c.in-Ok.found.ballots (counted c.args.first c.same.result.rest)
    (text_from c.in-Ok.found.to) c.requires.none c.in-Ok.ensures.reads result rest c.read_lines_on.ensures.reads)

pub returns-clause-behind : goal.returns-clause-behind
returns-clause-behind g c =
    behind_trans
    (subst (λ (t : Reader). IsBehind t c.in-Ok.found.to.tokens) c.same.ensures c.in-Ok.ensures.behind)
    c.read_lines_on.ensures.behind
