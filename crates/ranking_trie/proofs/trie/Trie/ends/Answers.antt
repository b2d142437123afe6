use Rattle.std.proofs.Common.{[], sym, ap, ◌∙◌}
use Rattle.ranking_trie.specs.Arena.{forest_in}
use Rattle.ranking_trie.specs.BallotBag.{BallotBag, count_of}
use Rattle.ranking_trie.proofs.CountLemmas.{count_of_blank}
use Rattle.ranking_trie.proofs.trie.Trie.ends.Goals as goal

pub returns : goal.returns
returns c =
    sym (count_of_blank c.self.inside.ends (forest_in c.self.inside.arena c.self.inside.first))
    ∙ ap (λ (t : BallotBag). count_of [] t.ballots) c.self.view_is
