use Rattle.std.proofs.Common.{get_or}
use Rattle.ranking_trie.specs.Arena.{forest_in}
use Rattle.ranking_trie.proofs.FrontLemmas.{known_set}
use Rattle.ranking_trie.proofs.fronts.Fronts.note.Goals as goal

pub returns-clause-known : goal.returns-clause-known
returns-clause-known c =
    let ranks = c.args.ranks.now in
    known_set c.args.self.now c.set.new.self (forest_in c.args.arena.now c.args.first) (get_or ranks 0 0)
    (get_or ranks 1 0) c.place_of_two-place.result c.set.ensures.candidates c.set.ensures.own c.set.ensures.others
    c.place_of_two-place.ensures
    (λ a b some_a few_a some_b few_b other is. c.requires.known a b some_a few_a some_b few_b is)
