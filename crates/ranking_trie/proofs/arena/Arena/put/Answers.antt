use Rattle.std.proofs.Common.{◌≡◌, ℕ, ◌+◌, List, [], ◌++◌, replicate, sym, subst}
use Rattle.std.specs.List.Sorted.{IsPermutation}
use Rattle.std.proofs.lemmas.List.{nil_from_length}
use Rattle.ranking_trie.specs.Arena.{forest_in}
use Rattle.ranking_trie.specs.Bag.{bag}
use Rattle.ranking_trie.proofs.BagLemmas.{put_empty, put_behind}
use Rattle.ranking_trie.proofs.arena.Arena.put.Goals as goal

pub returns-then-ranks-eq0-clause-bag : goal.returns-then-ranks-eq0-clause-bag
returns-then-ranks-eq0-clause-bag g c =
    let none : c.args.ranks.now ≡ [] = nil_from_length c.args.ranks.now c.if-ranks-eq0.true in
    let others = bag (forest_in c.args.self.now c.args.first) in
    subst (λ (r : List ℕ). IsPermutation (replicate {A = List ℕ} (c.args.ends + c.args.count) [] ++ others)
    (replicate c.args.count r ++ (replicate c.args.ends [] ++ others))) (sym none)
    (put_empty c.args.ends c.args.count others)

pub returns-clause-bag : goal.returns-clause-bag
returns-clause-bag g c =
    put_behind (replicate c.args.ends []) (bag (forest_in c.args.self.now c.args.first))
    (bag (forest_in c.add.new.self c.add.result)) (replicate c.args.count c.args.ranks.now) c.add.ensures.bag
