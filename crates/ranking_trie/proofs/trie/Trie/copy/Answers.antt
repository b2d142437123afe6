use Rattle.std.proofs.Common.{[], ◌++◌, replicate, ap, sym, subst, ◌∙◌}
use Rattle.ranking_trie.specs.Arena.{forest_in}
use Rattle.ranking_trie.specs.Bag.{bag, node_count, IsRising}
use Rattle.ranking_trie.specs.BallotBag.{IsSoundBag}
use Rattle.ranking_trie.specs.Forest.{Forest}
use Rattle.ranking_trie.proofs.FrontLemmas.{nothing_known}
use Rattle.ranking_trie.proofs.SpareLemmas.{left_out}
use Rattle.ranking_trie.proofs.trie.Trie.copy.Goals as goal

pub invariant_of-result : goal.invariant_of-result
invariant_of-result c =
    let t = c.self.inside in
    let kept = left_out t.arena c.in_ok-copy.field-0 t.first c.self.invariant.3 c.in_ok-copy.ensures.nodes
    c.in_ok-copy.ensures.free c.in_ok-copy.ensures.spare in (
      subst (λ (f : Forest). IsSoundBag t.candidates t.total (replicate t.ends [] ++ bag f)) (sym kept.forest)
          c.self.invariant.0,
      subst (IsRising 0) (sym kept.forest) c.self.invariant.1,
      c.self.invariant.2 ∙ ap node_count (sym kept.forest),
      kept.apart,
      c.new.ensures.candidates,
      nothing_known c.new.result c.new.ensures.empty
          (forest_in c.in_ok-copy.field-0 t.first),
    )
