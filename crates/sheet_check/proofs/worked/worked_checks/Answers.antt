use Rattle.std.proofs.Common.{refl}
use Rattle.std.specs.Fmt.{digits}
use Rattle.sheet_check.proofs.worked.worked_checks.Goals as goal

pub returns : goal.returns
unfolding digits
returns c = record {
  longest_input = λ asked. refl;
  longest_sheet = refl;
  longest_file = refl;
  is_true = refl;
  is_false = refl;
  is_malformed = refl;
}
