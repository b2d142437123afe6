use Rattle.std.proofs.Common.{refl}
use Rattle.ballot_table.specs.Rows.{said_up_to}
use Rattle.ballot_table.proofs.worked.worked_reports.Goals as goal

pub returns : goal.returns
unfolding said_up_to
returns c = record { kept = refl; dropped = refl; weighed = refl; nothing_behind_a_cut = refl }
