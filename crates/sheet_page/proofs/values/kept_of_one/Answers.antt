use Rattle.std.proofs.Common.{arith}
use Rattle.line_text.proofs.Lengths.{scale-most}
use Rattle.sheet_page.proofs.values.kept_of_one.Goals as goal

pub from_units-requires : goal.from_units-requires
from_units-requires g c =
    (omega arith, (c.units.ensures.places, omega (arith, c.units.ensures.bound, scale-most g.row.P)))
