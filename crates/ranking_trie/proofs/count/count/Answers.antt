use Rattle.std.proofs.Common.{◌≡◌, ℕ, ◌+◌, List, ◌∷◌, get_or, drop, arith, ap, sym, ◌∙◌}
use Rattle.std.proofs.lemmas.List.{drop_more}
use Rattle.ranking_trie.specs.Bag.{bag}
use Rattle.ranking_trie.specs.BallotBag.{count_of}
use Rattle.ranking_trie.specs.Siblings.{forest_of}
use Rattle.ranking_trie.proofs.CountLemmas.{count_of-inside, count_of-end}
use Rattle.ranking_trie.proofs.count.count.Goals as goal

pub returns-in-None : goal.returns-in-None
returns-in-None c =
    let ranks = c.args.ranks.now in
    let i = c.loop-rank.rank-index in
    let f = (forest_of c.loop-rank.forest) in
    let none : count_of (get_or ranks i 0 ∷ drop (i + 1) ranks) (bag f) ≡ 0 =
    c.in-None.ensures.missing (drop (i + 1) ranks) in
    sym none
    ∙ (ap (λ (r : List ℕ). count_of r (bag f)) (sym (drop_more ranks i 0 c.loop-rank-test.true))
    ∙ (sym (count_of-inside ranks i c.loop-rank.ends f c.loop-rank-test.true) ∙ c.loop-rank.invariant.same))

pub loop-rank-preserved : goal.loop-rank-preserved
loop-rank-preserved c =
    let ranks = c.args.ranks.now in
    let i = c.loop-rank.rank-index in
    let f = (forest_of c.loop-rank.forest) in
    record {
      rising = c.in-Some.ensures.rising;
      same =
          c.in-Some.ensures.found (drop (i + 1) ranks)
          ∙ (ap (λ (r : List ℕ). count_of r (bag f)) (sym (drop_more ranks i 0 c.loop-rank-test.true))
          ∙ (sym (count_of-inside ranks i c.loop-rank.ends f c.loop-rank-test.true) ∙ c.loop-rank.invariant.same));
    }

pub returns : goal.returns
returns c =
    sym (count_of-end c.args.ranks.now c.loop-rank.rank-index c.loop-rank.ends (forest_of c.loop-rank.forest)
    (omega arith)) ∙ c.loop-rank.invariant.same
