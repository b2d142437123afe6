use Rattle.std.proofs.Common.{false, List, sym, ◌∙◌, ap, Ok, Err}
use Rattle.std.proofs.lemmas.Result.{err_from_is_err_and}
use Rattle.plain_ballots.specs.Ballots.{BallotList}
use Rattle.plain_ballots.specs.declared.ballot_line.BallotLine.{BallotLine}
use Rattle.input_text.specs.Scan.{scan}
use Rattle.blt_reader.specs.declared.election.StoredElection.{StoredElection}
use Rattle.blt_reader.specs.Election.{poll, poll_of_lines}
use Rattle.blt_reader.specs.Said.{of_a_file, reading}
use Rattle.blt_reader.proofs.FileSteps.{says_file, refuses_file, stops_so}
use Rattle.blt_reader.proofs.files.read_blt.Goals as goal

pub returns-in_err-stored-clause-says : goal.returns-in_err-stored-clause-says
returns-in_err-stored-clause-says c =
    let p = err_from_is_err_and c.from_residual.result c.from_residual.ensures.1 in
    let says = c.in_err-stored.ensures.says in
    rw (p.1, p.2) (stops_so (λ (e : StoredElection BallotList). poll_of_lines e says.0) poll
    (reading c.args.bytes.now) _ says.2)

pub returns-in_err-stored-clause-refused : goal.returns-in_err-stored-clause-refused
returns-in_err-stored-clause-refused c =
    let p = err_from_is_err_and c.from_residual.result c.from_residual.ensures.1 in
    let says = c.in_err-stored.ensures.says in
    rw (p.1, p.2) (refuses_file of_a_file (λ (e : StoredElection BallotList). poll_of_lines e says.0)
    (scan c.args.bytes.now false) (Err _) says.2)

pub returns-clause-says : goal.returns-clause-says
returns-clause-says c =
    let says = c.in_ok-stored.ensures.says in
    says.2 ∙ ap (λ (l : List BallotLine). Ok (poll_of_lines c.in_ok-stored.stored l)) (sym says.1)

pub returns-clause-accepted : goal.returns-clause-accepted
returns-clause-accepted c =
    let says = c.in_ok-stored.ensures.says in
    let stored = c.in_ok-stored.stored in
    says_file of_a_file poll (scan c.args.bytes.now false) (Ok (record { roll = stored.roll; ballots = stored.ballots }))
    (says.2 ∙ ap (λ (l : List BallotLine). Ok (poll_of_lines c.in_ok-stored.stored l)) (sym says.1))
