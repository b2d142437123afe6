use Rattle.std.proofs.Common.{refl, sym, subst}
use Rattle.ballot_table.specs.Said.{IsSaying}
use Rattle.ballot_table.proofs.SaidLemmas.{said_blanks}
use Rattle.ballot_table.proofs.said_ranks.SaidRanks.push_blanks.Goals as goal

pub returns : goal.returns
returns c before is =
    said_blanks before c.args.more _ _ (subst (IsSaying before) (sym c.self.view_is) is) refl refl refl refl
