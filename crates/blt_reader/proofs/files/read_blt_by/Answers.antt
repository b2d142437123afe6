use Rattle.std.proofs.Common.{false}
use Rattle.input_text.specs.Scan.{scan}
use Rattle.blt_reader.specs.declared.election.StoredElection.{StoredElection}
use Rattle.blt_reader.specs.Election.{poll_of_lines}
use Rattle.blt_reader.specs.Said.{of_a_file}
use Rattle.blt_reader.proofs.FileSteps.{refuses_file, says_stored}
use Rattle.blt_reader.proofs.files.read_blt_by.Goals as goal

pub returns-clause-accepted : goal.returns-clause-accepted
returns-clause-accepted g c =
    says_stored of_a_file g.B.BallotStore.holds (scan c.args.bytes.now false) c.read_file.result c.read_file.ensures.says

pub returns-clause-refused : goal.returns-clause-refused
returns-clause-refused g c =
    let says = c.read_file.ensures.says in
    refuses_file of_a_file (λ (e : StoredElection g.row.B.Denot). poll_of_lines e says.0) (scan c.args.bytes.now false)
    c.read_file.result says.2
