use Rattle.std.proofs.Common.{sym, ◌∙◌}
use Rattle.sheet_reader.proofs.LineParts.{heads}
use Rattle.sheet_reader.proofs.head.read_counts.Goals as goal

pub returns-in_default-read_number : goal.returns-in_default-read_number
returns-in_default-read_number c seats candidates ballots rest fs fc small is =
    c.in_default-read_number.ensures candidates _ fc.0 fc.1 (heads _ _ _ _ (sym c.in-Some.ensures.2 ∙ is)).1
