use Rattle.std.proofs.Common.{List, sym, ◌∙◌, ap, Ok}
use Rattle.std.proofs.lemmas.Result.{err_from_is_err_and}
use Rattle.plain_ballots.specs.Ballots.{BallotList}
use Rattle.plain_ballots.specs.declared.ballot_line.BallotLine.{BallotLine}
use Rattle.blt_reader.specs.BallotTable.{Limit}
use Rattle.blt_reader.specs.BltTable.{Candidates, at_token}
use Rattle.blt_reader.specs.declared.election.StoredElection.{StoredElection}
use Rattle.blt_reader.specs.Election.{poll, poll_of_lines}
use Rattle.blt_reader.proofs.HeldLines.{stopped_so}
use Rattle.blt_reader.proofs.rolls.read_election.Goals as goal

pub returns-in_err-stored-clause-reads : goal.returns-in_err-stored-clause-reads
returns-in_err-stored-clause-reads c =
    let limit : Limit = record { most = c.args.most; refusal = c.args.refusal } in
    let p = err_from_is_err_and c.from_residual.result c.from_residual.ensures.1 in
    let read = c.in_err-stored.ensures.reads in
    rw (p.1, p.2) (stopped_so (at_token limit) Candidates _ _
    (λ (e : StoredElection BallotList). poll_of_lines e read.0) poll _ read.2)

pub returns-clause-reads : goal.returns-clause-reads
returns-clause-reads c =
    let read = c.in_ok-stored.ensures.reads in
    read.2
    ∙ ap (λ (l : List BallotLine). Ok (poll_of_lines c.in_ok-stored.stored l, c.read_up_to_title.new.tokens.rest))
    (sym read.1)
