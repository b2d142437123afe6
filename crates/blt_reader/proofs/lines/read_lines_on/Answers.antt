use Rattle.std.proofs.Common.{subst, Ok, Err}
use Rattle.input_text.specs.Reader.{Reader}
use Rattle.blt_reader.specs.Pieces.{counted, ReadsOn}
use Rattle.blt_reader.proofs.HeldLines.{all_held, is_end, lines_held, stopped_on}
use Rattle.blt_reader.proofs.lines.read_lines_on.Goals as goal

pub returns-in-Ok-clause-reads : goal.returns-in-Ok-clause-reads
returns-in-Ok-clause-reads g c =
    let piece = c.in-Ok.piece in
    let rest = c.read_lines_ahead-found.new.tokens.rest in
    let none = is_end _ piece.last c.in-Ok.ensures.last c.place_fits.ensures in
    subst
    (λ (t : Reader).
    ReadsOn g.B.BallotStore.holds c.args.bounds c.args.store (counted c.args.first t.rest) (Ok piece.ballots) rest)
    c.same-ahead.ensures
    (all_held g.B.BallotStore.holds c.args.bounds c.args.store (counted c.args.first c.same-ahead.result.rest)
    piece.ballots rest piece.last.0 piece.last.1 c.in-Ok.ensures.reads none)

pub returns-in-Ok-clause-lines : goal.returns-in-Ok-clause-lines
returns-in-Ok-clause-lines g c =
    lines_held g.B.BallotStore.holds c.args.bounds c.args.store (counted c.args.first c.same-ahead.result.rest)
    c.in-Ok.piece.ballots _ c.in-Ok.ensures.reads c.requires.held

pub returns-in-Err-clause-reads : goal.returns-in-Err-clause-reads
returns-in-Err-clause-reads g c =
    let rest = c.read_lines_ahead-found.new.tokens.rest in
    subst
    (λ (t : Reader).
    ReadsOn g.B.BallotStore.holds c.args.bounds c.args.store (counted c.args.first t.rest) (Err c.in-Err.why) rest)
    c.same-ahead.ensures
    (stopped_on g.B.BallotStore.holds c.args.bounds c.args.store (counted c.args.first c.same-ahead.result.rest)
    c.in-Err.why rest c.in-Err.ensures.refused)
