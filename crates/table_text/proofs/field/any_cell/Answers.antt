use Rattle.std.proofs.Common.{refl}
use Rattle.table_text.proofs.field.any_cell.Goals as goal

pub returns-in-Ok-clause-field : goal.returns-in-Ok-clause-field
returns-in-Ok-clause-field c = record {
  begins = refl;
  stands = record { ordered = c.in-Ok.ensures.after; inside = c.in-Ok.ensures.inside; number = c.number_of.ensures };
  parted = c.in-Ok.ensures.parted;
  over = c.in-Ok.ensures.over;
}
