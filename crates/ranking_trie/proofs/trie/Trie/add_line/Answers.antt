use Rattle.std.proofs.Common.{◌≡◌, ℕ, ◌+◌, ◌≤◌, List, [], ◌++◌, length, replicate, arith, ap, sym, subst, ◌∙◌}
use Rattle.std.specs.List.Sorted.{IsPermutation}
use Rattle.plain_ballots.specs.Ranking.{IsRanking}
use Rattle.ranking_trie.specs.Arena.{forest_in}
use Rattle.ranking_trie.specs.Bag.{bag}
use Rattle.ranking_trie.specs.BallotBag.{BallotBag}
use Rattle.ranking_trie.proofs.BagLemmas.{trie_more}
use Rattle.ranking_trie.proofs.trie.Trie.add_line.Goals as goal

pub invariant_of-self : goal.invariant_of-self
invariant_of-self g c =
    let t = c.self.inside in
    let n = t.candidates in
    let old = replicate t.ends [] ++ bag (forest_in t.arena t.first) in
    let new = replicate c.put-ends.result.0 [] ++ bag (forest_in c.put-ends.new.arena c.put-ends.result.1) in
    let line = c.args.line.now in
    let e : old ≡ c.args.self.now.ballots = ap (λ (t : BallotBag). t.ballots) c.self.view_is in
    let size : length old ≡ length c.args.self.now.ballots = ap length e in
    let number : n ≡ c.args.self.now.candidates = ap (λ (t : BallotBag). t.candidates) c.self.view_is in
    let few : length old + line.count ≤ 999999999 = omega arith in
    let ranking : IsRanking n line.ranking = subst (λ (m : ℕ). IsRanking m line.ranking) (sym number) c.requires.ranking in
    let same : IsPermutation new (replicate line.count line.ranking ++ old) =
    subst (λ (r : List ℕ). IsPermutation new (replicate line.count r ++ old)) c.ranks-ranks.ensures.value
    c.put-ends.ensures.bag in (
      trie_more n t.total line.count line.ranking old new c.self.invariant.0 ranking few same,
      c.put-ends.ensures.rising,
      omega (arith, c.put-ends.ensures.nodes, c.self.invariant.2, c.self.invariant.3.counted),
      c.put-ends.ensures.apart,
      c.put-ends.ensures.candidates ∙ c.self.invariant.4,
      c.put-ends.ensures.known,
    )

pub overflow_add-nodes : goal.overflow_add-nodes
overflow_add-nodes g c =
    omega (arith, c.self.invariant.2, c.self.invariant.3.few, c.self.inside.arena.nodes.ok.0)
