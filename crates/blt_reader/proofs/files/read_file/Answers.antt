use Rattle.std.proofs.Common.{◌≡◌, false, ap, subst, Ok, Err}
use Rattle.std.proofs.lemmas.Result.{err_from_is_err_and}
use Rattle.input_text.specs.Token.{Scan}
use Rattle.input_text.specs.Reader.{Reader}
use Rattle.input_text.specs.Scan.{scan}
use Rattle.blt_reader.specs.declared.election.StoredElection.{StoredElection}
use Rattle.blt_reader.specs.Election.{poll_of_lines}
use Rattle.blt_reader.specs.Said.{of_a_file, said_by}
use Rattle.blt_reader.specs.Stored.{SaysStored}
use Rattle.blt_reader.proofs.FileSteps.{says_all, says_trailing, says_front}
use Rattle.blt_reader.proofs.files.read_file.Goals as goal

pub returns-in_err-election-clause-says : goal.returns-in_err-election-clause-says
returns-in_err-election-clause-says g c =
    let p = err_from_is_err_and c.from_residual.result c.from_residual.ensures.1 in
    let text : c.new-tokens.result.rest ≡ scan c.args.bytes.now false = ap (λ (r : Reader). r.rest) c.new-tokens.ensures in
    let read = c.in_err-election.ensures.reads in
    let why = c.in_err-election.field-0.0 in
    let stops = says_front of_a_file (λ (e : StoredElection g.row.B.Denot). poll_of_lines e read.0) _ _ why read.2 in
    rw (p.1, p.2)
    (subst (λ (s : Scan). SaysStored g.B.BallotStore.holds (said_by of_a_file s) (Err why)) text (read.0, tt, stops))

pub returns-in_err-read_further-clause-says : goal.returns-in_err-read_further-clause-says
returns-in_err-read_further-clause-says g c =
    let p = err_from_is_err_and c.from_residual-in_err-read_further.result c.from_residual-in_err-read_further.ensures.1 in
    let text : c.new-tokens.result.rest ≡ scan c.args.bytes.now false = ap (λ (r : Reader). r.rest) c.new-tokens.ensures in
    let read = c.in_ok-election.ensures.reads in
    let trails =
    says_trailing of_a_file (λ (e : StoredElection g.row.B.Denot). poll_of_lines e read.0) _ _
    c.in_ok-election.election _ read.2
    c.in_err-read_further.ensures in
    rw (p.1, p.2, ← text) (read.0, tt, trails)

pub returns-clause-says : goal.returns-clause-says
returns-clause-says g c =
    let text : c.new-tokens.result.rest ≡ scan c.args.bytes.now false = ap (λ (r : Reader). r.rest) c.new-tokens.ensures in
    let read = c.in_ok-election.ensures.reads in
    let says =
    says_all of_a_file (λ (e : StoredElection g.row.B.Denot). poll_of_lines e read.0) _ _ c.in_ok-election.election read.2
    c.in_ok-read_further.ensures in
    subst (λ (s : Scan). SaysStored g.B.BallotStore.holds (said_by of_a_file s) (Ok c.in_ok-election.election)) text
    (read.0, read.1, says)
