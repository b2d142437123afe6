use Rattle.std.proofs.Common.{refl}
use Rattle.std.specs.Fmt.{digits}
use Rattle.ballot_table.proofs.worked.worked_names.Goals as goal

pub returns : goal.returns
unfolding digits
returns c = record {
  one = refl;
  two = refl;
  three = refl;
  nowhere = refl;
  narrower = refl;
  numbers = refl;
  numbers_are_names = refl;
  numbers_are_no_ranks = refl;
}
