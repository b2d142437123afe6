use Rattle.std.proofs.Common.{ℕ, List, [], ◌++◌, replicate, ap, ◌∙◌}
use Rattle.ranking_trie.specs.Bag.{bag}
use Rattle.ranking_trie.specs.BallotBag.{BallotBag, count_of}
use Rattle.ranking_trie.specs.Forest.{Forest}
use Rattle.ranking_trie.specs.Siblings.{forest_of}
use Rattle.ranking_trie.proofs.trie.Trie.count_of.Goals as goal

pub returns : goal.returns
returns c =
    c.count.ensures
    ∙ (ap (λ (r : List ℕ). count_of r (replicate c.self.inside.ends [] ++ bag (forest_of c.siblings-forest.result))) c.ranks.ensures.value
    ∙ (ap (λ (g : Forest). count_of c.args.ranking.now (replicate c.self.inside.ends [] ++ bag g)) c.siblings-forest.ensures
    ∙ ap (λ (t : BallotBag). count_of c.args.ranking.now t.ballots) c.self.view_is))
