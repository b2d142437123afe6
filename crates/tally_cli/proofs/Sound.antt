-- A tool that takes no words and reads day files answers each run by one cause.
use Rattle.std.proofs.Common.{◌≡◌, true, refl}
use Rattle.std.specs.Prelude.{Result, Ok, Err}
use Rattle.input_text.specs.declared.input_fault.InputFault.{InputFault}
use Rattle.input_text.specs.Scan.{scan}
use Rattle.day_reader.specs.declared.day.Day.{Day}
use Rattle.day_reader.specs.Said.{AcceptsDays, RefusesByTheRule}
use Rattle.tool_edge.specs.Tool.{IsSound}
use Rattle.tally_cli.specs.Owed.{over_days}

not_both : (r : Result Day InputFault) (day : Day) (fault : InputFault) → r ≡ Ok day → r ≡ Err fault → ⊥
not_both (Ok other) day fault one two = absurd (cc)
not_both (Err other) day fault one two = absurd (cc)

one_fault : (r : Result Day InputFault) (fault other : InputFault) → r ≡ Err fault → r ≡ Err other → fault ≡ other
one_fault r fault other one two = cc

pub sound : AcceptsDays → RefusesByTheRule → IsSound over_days
sound accepts refuses = record {
  one = λ words asked other one two. refl;
  either =
      λ asked input fault accepted refused. not_both _ accepted.0 fault
      ((accepts (scan input true) accepted.0).1 accepted.1) ((refuses (scan input true) fault).1 refused);
  once =
      λ asked input fault other refused again. one_fault _ fault other
      ((refuses (scan input true) fault).1 refused) ((refuses (scan input true) other).1 again);
  owed = λ asked input history bytes owes. (owes.day, owes.accepted);
}
