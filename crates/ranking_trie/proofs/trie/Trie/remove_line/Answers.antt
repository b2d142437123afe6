use Rattle.std.proofs.Common.{◌≡◌, ℕ, ◌≤◌, List, [], ◌++◌, replicate, arith, ap, sym, subst, ◌∙◌}
use Rattle.std.specs.List.{All}
use Rattle.std.specs.List.Sorted.{IsPermutation}
use Rattle.ranking_trie.specs.Arena.{forest_in}
use Rattle.ranking_trie.specs.Bag.{bag}
use Rattle.ranking_trie.proofs.BagLemmas.{trie_fewer}
use Rattle.ranking_trie.proofs.FormLemmas.{held_ranking}
use Rattle.ranking_trie.specs.BallotBag.{BallotBag, count_of}
use Rattle.ranking_trie.proofs.trie.Trie.remove_line.Goals as goal

pub invariant_of-self : goal.invariant_of-self
invariant_of-self g c =
    let t = c.self.inside in
    let old = replicate t.ends [] ++ bag (forest_in t.arena t.first) in
    let new = replicate c.take_out-ends.result.0 [] ++ bag (forest_in c.take_out-ends.new.arena c.take_out-ends.result.1) in
    let line = c.args.line.now in
    let same : IsPermutation old (replicate line.count line.ranking ++ new) =
    subst (λ (r : List ℕ). IsPermutation old (replicate line.count r ++ new)) c.ranks-ranks.ensures.value
    c.take_out-ends.ensures.bag in (
      trie_fewer t.candidates t.total line.count line.ranking old new c.self.invariant.0 same,
      c.take_out-ends.ensures.rising,
      omega (arith, c.take_out-ends.ensures.nodes, c.self.invariant.2, c.self.invariant.3.counted),
      c.take_out-ends.ensures.apart,
      c.take_out-ends.ensures.candidates ∙ c.self.invariant.4,
      c.take_out-ends.ensures.known,
    )

pub take_out-ends-requires-clause-numbers : goal.take_out-ends-requires-clause-numbers
take_out-ends-requires-clause-numbers g c =
    let t = c.self.inside in
    let line = c.args.line.now in
    let own = replicate t.ends [] ++ bag (forest_in t.arena t.first) in
    let bag_is : own ≡ c.args.self.now.ballots = ap (λ (s : BallotBag). s.ballots) c.self.view_is in
    let held : line.count ≤ count_of line.ranking own =
    subst (λ (l : List (List ℕ)). line.count ≤ count_of line.ranking l) (sym bag_is) c.requires.held in
    let sound = c.self.invariant.0 in
    let ranking =
    held_ranking t.candidates t.total line.count line.ranking own sound c.requires.some held in
    subst (All (λ r. (1 ≤ r) × (r ≤ t.fronts.candidates))) (sym c.ranks-ranks.ensures.value)
    (subst (λ (n : ℕ). All (λ r. (1 ≤ r) × (r ≤ n)) line.ranking) (sym c.self.invariant.4) ranking.numbers)

pub overflow_add-nodes : goal.overflow_add-nodes
overflow_add-nodes g c =
    omega (arith, c.self.invariant.2, c.self.invariant.3.few, c.self.inside.arena.nodes.ok.0)
