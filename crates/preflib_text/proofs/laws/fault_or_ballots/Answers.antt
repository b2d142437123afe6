use Rattle.preflib_text.proofs.FaultLemmas.{no_fault_says_ballots, ballots_have_no_fault}
use Rattle.preflib_text.proofs.laws.fault_or_ballots.Goals as goal

pub returns : goal.returns
returns c = λ asked bytes.
    (no_fault_says_ballots asked bytes, λ says. ballots_have_no_fault asked bytes says.0 says.1)
