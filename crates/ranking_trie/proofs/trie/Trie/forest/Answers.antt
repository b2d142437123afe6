use Rattle.std.proofs.Common.{◌≡◌, ℕ, List, [], ◌++◌, replicate, sym, ap, subst, ◌∙◌}
use Rattle.plain_ballots.specs.Ranking.{IsRanking}
use Rattle.ranking_trie.specs.Bag.{bag, IsRising, IsWithin}
use Rattle.ranking_trie.proofs.DepthLemmas.{within}
use Rattle.ranking_trie.proofs.FormLemmas.{in_order}
use Rattle.ranking_trie.proofs.ListLemmas.{All-right}
use Rattle.ranking_trie.specs.Forest.{Forest}
use Rattle.ranking_trie.specs.Arena.{forest_in}
use Rattle.ranking_trie.specs.BallotBag.{BallotBag, AreInOrder, count_of}
use Rattle.ranking_trie.proofs.CountLemmas.{count_of_blank}
use Rattle.ranking_trie.proofs.trie.Trie.forest.Goals as goal

pub returns-clause-ballots : goal.returns-clause-ballots
returns-clause-ballots c =
    let f = forest_in c.self.inside.arena c.self.inside.first in
    let blank : count_of [] c.args.self.now.ballots ≡ c.self.inside.ends =
    sym (ap (λ (t : BallotBag). count_of [] t.ballots) c.self.view_is) ∙ count_of_blank c.self.inside.ends f in
    sym (ap (λ (t : BallotBag). t.ballots) c.self.view_is)
    ∙ (ap (λ n. replicate {A = List ℕ} n [] ++ bag f) (sym blank)
    ∙ ap (λ (g : Forest). replicate {A = List ℕ} (count_of [] c.args.self.now.ballots) [] ++ bag g) (sym c.siblings.ensures))

pub returns-clause-rising : goal.returns-clause-rising
returns-clause-rising c = subst (IsRising 0) (sym c.siblings.ensures) c.self.invariant.1

pub returns-clause-within : goal.returns-clause-within
returns-clause-within c =
    let sound = c.self.invariant.0 in
    let f = forest_in c.self.inside.arena c.self.inside.first in
    subst (λ (g : Forest). IsWithin c.args.self.now.candidates 250 1 g) (sym c.siblings.ensures)
    (subst (λ (n : ℕ). IsWithin n 250 1 f) (ap (λ (t : BallotBag). t.candidates) c.self.view_is)
    (within c.self.inside.candidates [] 0 f sound.few_candidates c.self.invariant.1
    (All-right (λ r. IsRanking c.self.inside.candidates r) (replicate c.self.inside.ends [])
    (bag f) sound.rankings)))

pub returns-clause-order : goal.returns-clause-order
returns-clause-order c =
    subst AreInOrder (ap (λ (t : BallotBag). t.ballots) c.self.view_is)
    (in_order c.self.inside.ends (forest_in c.self.inside.arena c.self.inside.first) c.self.invariant.1)
