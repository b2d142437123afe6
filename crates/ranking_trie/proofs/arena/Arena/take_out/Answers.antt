use Rattle.std.proofs.Common.{◌≡◌, ℕ, ◌-◌, ◌≤◌, List, [], ◌++◌, replicate, arith, ap, sym, subst}
use Rattle.std.specs.List.Sorted.{IsPermutation}
use Rattle.std.proofs.lemmas.List.{nil_from_length}
use Rattle.ranking_trie.specs.Arena.{forest_in}
use Rattle.ranking_trie.specs.Bag.{bag}
use Rattle.ranking_trie.specs.BallotBag.{count_of}
use Rattle.ranking_trie.proofs.BagLemmas.{take_empty, put_behind}
use Rattle.ranking_trie.proofs.CountLemmas.{count_of_blank}
use Rattle.ranking_trie.proofs.arena.Arena.take_out.Goals as goal

some_end :
    (ranks : List ℕ) (ends count : ℕ) (others : List (List ℕ)) → ranks ≡ [] → count ≤ count_of ranks others
    → count_of [] others ≡ ends → count ≤ ends
some_end ranks ends count others none held are = omega (arith, ap (λ (r : List ℕ). count_of r others) none)

pub overflow_sub-result : goal.overflow_sub-result
overflow_sub-result g c =
    some_end c.args.ranks.now c.args.ends c.args.count (replicate c.args.ends [] ++ bag (forest_in c.args.self.now c.args.first))
    (nil_from_length c.args.ranks.now c.if-ranks-eq0.true) c.requires.held
    (count_of_blank c.args.ends (forest_in c.args.self.now c.args.first))

pub returns-then-ranks-eq0-clause-bag : goal.returns-then-ranks-eq0-clause-bag
returns-then-ranks-eq0-clause-bag g c =
    let none : c.args.ranks.now ≡ [] = nil_from_length c.args.ranks.now c.if-ranks-eq0.true in
    let others = bag (forest_in c.args.self.now c.args.first) in
    let some =
    some_end c.args.ranks.now c.args.ends c.args.count (replicate c.args.ends [] ++ others) none
    c.requires.held (count_of_blank c.args.ends (forest_in c.args.self.now c.args.first)) in
    subst (λ (r : List ℕ). IsPermutation (replicate {A = List ℕ} c.args.ends [] ++ others)
    (replicate c.args.count r ++ (replicate (c.args.ends - c.args.count) [] ++ others))) (sym none)
    (take_empty c.args.ends c.args.count others some)

pub returns-clause-bag : goal.returns-clause-bag
returns-clause-bag g c =
    put_behind (replicate c.args.ends []) (bag (forest_in c.remove.new.self c.remove.result)) (bag (forest_in c.args.self.now c.args.first))
    (replicate c.args.count c.args.ranks.now) c.remove.ensures.bag
