use Rattle.ballot_table.proofs.MendLemmas.{mended_table, mended_ballots}
use Rattle.ballot_table.proofs.laws.tables_are_only_mended.Goals as goal

pub returns : goal.returns
returns c = λ asked treatment empty head below t rankings is ranked. (
  mended_table asked empty head below t is,
  mended_ballots c.treatments_only_mend.ensures treatment t.rows rankings ranked,
)
