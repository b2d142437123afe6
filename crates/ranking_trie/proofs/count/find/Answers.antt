use Rattle.std.proofs.Common.{◌∷◌, arith, ap, sym, subst, ◌∙◌}
use Rattle.ranking_trie.specs.Forest.{Forest}
use Rattle.ranking_trie.specs.Bag.{bag, node_count, IsRising}
use Rattle.ranking_trie.specs.BallotBag.{count_of}
use Rattle.ranking_trie.specs.Siblings.{forest_of}
use Rattle.ranking_trie.proofs.CountLemmas.{node_has, behind_has, none_has}
use Rattle.ranking_trie.proofs.count.find.Goals as goal

pub returns-then-c-node-clause-rising : goal.returns-then-c-node-clause-rising
returns-then-c-node-clause-rising c =
    (subst (λ (x : Forest). IsRising c.loop-node.invariant.rising.0 x) c.in-Some.ensures.some.1
    c.loop-node.invariant.rising.1).2

pub returns-then-c-node-clause-found : goal.returns-then-c-node-clause-found
returns-then-c-node-clause-found c = λ s.
    let node = c.in-Some.node in
    let is = c.in-Some.ensures.some.1 in
    let f = subst (λ (x : Forest). IsRising c.loop-node.invariant.rising.0 x) is c.loop-node.invariant.rising.1 in
    node_has c.args.c node.candidate node.ends s (forest_of node.inner) (forest_of node.next) c.if-c-node.true f.3
    ∙ (ap (λ (g : Forest). count_of (c.args.c ∷ s) (bag g)) (sym is) ∙ c.loop-node.invariant.same s)

pub returns-then-c-node-2-clause-missing : goal.returns-then-c-node-2-clause-missing
returns-then-c-node-2-clause-missing c = λ s.
    let node = c.in-Some.node in
    let is = c.in-Some.ensures.some.1 in
    let f = subst (λ (x : Forest). IsRising c.loop-node.invariant.rising.0 x) is c.loop-node.invariant.rising.1 in
    sym (c.loop-node.invariant.same s)
    ∙ (ap (λ (g : Forest). count_of (c.args.c ∷ s) (bag g)) is
    ∙ none_has c.args.c node.candidate node.ends s (forest_of node.inner) (forest_of node.next) (omega arith) f.3)

pub loop-node-smaller : goal.loop-node-smaller
loop-node-smaller c = omega (arith, ap node_count c.in-Some.ensures.some.1)

pub loop-node-preserved : goal.loop-node-preserved
loop-node-preserved c =
    let node = c.in-Some.node in
    let is = c.in-Some.ensures.some.1 in
    let f = subst (λ (x : Forest). IsRising c.loop-node.invariant.rising.0 x) is c.loop-node.invariant.rising.1 in
    record {
      same = λ s.
          behind_has c.args.c node.candidate node.ends s (forest_of node.inner) (forest_of node.next) (omega arith)
          ∙ (ap (λ (g : Forest). count_of (c.args.c ∷ s) (bag g)) (sym is) ∙ c.loop-node.invariant.same s);
      rising = (node.candidate, f.3);
    }

pub returns-clause-missing : goal.returns-clause-missing
returns-clause-missing c = λ s.
    sym (c.loop-node.invariant.same s)
    ∙ ap (λ (g : Forest). count_of (c.args.c ∷ s) (bag g)) c.in_default.ensures.none
