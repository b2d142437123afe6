use Rattle.std.proofs.Common.{refl}
use Rattle.table_text.specs.Separator.{parting}
use Rattle.table_text.proofs.worked.worked_separators.Goals as goal

pub returns : goal.returns
unfolding parting
returns c = record {
  unclear = refl;
  within_quotes = refl;
  in_later_rows = refl;
  tabs = refl;
  none = refl;
  no_bar = refl;
  behind_a_return = refl;
}
