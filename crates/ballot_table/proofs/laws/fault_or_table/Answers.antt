use Rattle.ballot_table.proofs.FaultLemmas.{no_fault_is_table, table_has_no_fault}
use Rattle.ballot_table.proofs.laws.fault_or_table.Goals as goal

pub returns : goal.returns
returns c = λ asked treatment empty head below.
    (no_fault_is_table asked treatment empty head below, table_has_no_fault asked treatment empty head below)
