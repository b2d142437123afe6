-- What the readers of rolls and files answer, by the laws.
use Rattle.std.proofs.Common.{Ok, Err}
use Rattle.std.specs.Prelude.{Result, IfOk}
use Rattle.blt_reader.specs.declared.election.Election.{Election}
use Rattle.input_text.specs.declared.input_stop.InputStop.{InputStop}
use Rattle.input_text.specs.declared.input_stop.InputStop.TheVariants as stop
use Rattle.input_text.specs.Token.{Scan}
use Rattle.blt_reader.specs.BallotTable.{Limit}
use Rattle.blt_reader.specs.BltTable.{Candidates, at_token}
use Rattle.blt_reader.specs.Election.{poll}
use Rattle.input_text.specs.Reads.{IfFault, Reads}
use Rattle.blt_reader.specs.Said.{IsRollOf, IsRollRefusal}
use Rattle.blt_reader.proofs.BltLaws.{accepts_rolls, refuses_rolls_by_the_rule}

module _ (limit : Limit) (old new : Scan) where
  pub says_roll :
      (result : Result Election InputStop) → Reads (at_token limit) Candidates poll old result new
      → IfOk result (λ e. IsRollOf limit old (poll e) new)
  says_roll (Ok election) is = (accepts_rolls limit old (poll election) new).0 is
  says_roll (Err why) is = tt

  pub refuses_roll :
      (result : Result Election InputStop) → Reads (at_token limit) Candidates poll old result new
      → IfFault result (λ fault. IsRollRefusal limit old fault)
  refuses_roll (Ok election) is = tt
  refuses_roll (Err (stop.Fault fault)) is = (refuses_rolls_by_the_rule limit old fault).0 (new, is)
  refuses_roll (Err stop.NoMemory) is = tt
