use Rattle.std.proofs.Common.{◌≡◌, ◌+◌, ◌++◌, ◌∷◌, [], refl, sym, subst, arith}
use Rattle.std.proofs.lemmas.Grind.{common_steps}
use Rattle.ballot_table.specs.Said.{IsSaying}
use Rattle.ballot_table.proofs.SaidLemmas.{said_some}
use Rattle.ballot_table.proofs.said_ranks.SaidRanks.push_mark.Goals as goal

pub returns : goal.returns
returns c before is =
    let pushed : c.push-2.new.self.items ≡ c.self.inside.ranks.items ++ (c.self.inside.count + 1) ∷ [] =
    grind (arith, common_steps) in
    said_some before c.args.says _ _ (subst (IsSaying before) (sym c.self.view_is) is) refl refl pushed
    c.in_ok-push.ensures.ok
