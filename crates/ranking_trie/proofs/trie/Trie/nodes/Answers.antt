use Rattle.std.proofs.Common.{ap, sym}
use Rattle.ranking_trie.specs.Arena.{forest_in}
use Rattle.ranking_trie.specs.BallotBag.{BallotBag}
use Rattle.ranking_trie.proofs.FormLemmas.{nodes_of_form}
use Rattle.ranking_trie.proofs.trie.Trie.nodes.Goals as goal

pub returns : goal.returns
returns c = λ f rising are.
    let t = c.self.inside in
    nodes_of_form c.args.self.now.ballots t.ends t.nodes (forest_in t.arena t.first) f
    (sym (ap (λ (s : BallotBag). s.ballots) c.self.view_is)) c.self.invariant.1 c.self.invariant.2 rising
    are
