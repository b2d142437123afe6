use Rattle.std.proofs.Common.{ap, subst}
use Rattle.ranking_trie.specs.Arena.{forest_in}
use Rattle.ranking_trie.specs.BallotBag.{BallotBag, AreInOrder}
use Rattle.ranking_trie.proofs.FormLemmas.{in_order}
use Rattle.ranking_trie.proofs.trie.Trie.keep_order.Goals as goal

pub returns : goal.returns
returns c =
    subst AreInOrder (ap (λ (t : BallotBag). t.ballots) c.self.view_is)
    (in_order c.self.inside.ends (forest_in c.self.inside.arena c.self.inside.first) c.self.invariant.1)
