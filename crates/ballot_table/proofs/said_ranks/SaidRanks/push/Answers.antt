use Rattle.std.proofs.Common.{◌+◌, ◌++◌, ◌∷◌, [], Option, refl, sym, subst}
use Rattle.ballot_marks.specs.declared.says.Says.{Says}
use Rattle.ballot_table.specs.Said.{SaidList, IsSaying}
use Rattle.ballot_table.proofs.SaidLemmas.{said_none}
use Rattle.ballot_table.proofs.said_ranks.SaidRanks.push.Goals as goal

pub returns-in-None : goal.returns-in-None
returns-in-None c before is =
    let old : SaidList = record {
      count = c.self.inside.count;
      last = c.self.inside.last;
      ranks = c.self.inside.ranks.items;
      marks = c.self.inside.marks;
    } in
    let new : SaidList = record old { count = old.count + 1 } in
    subst (λ (s : Option Says). IsSaying (before ++ s ∷ []) new) (sym c.in-None.is)
    (said_none before old new (subst (IsSaying before) (sym c.self.view_is) is) refl refl refl refl)
