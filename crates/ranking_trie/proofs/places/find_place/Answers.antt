use Rattle.std.proofs.Common.{arith}
use Rattle.ranking_trie.proofs.SiblingLemmas.{one_passed, fewer_behind, rising_on}
use Rattle.ranking_trie.proofs.places.find_place.Goals as goal

pub returns-then-c-node-clause-rising : goal.returns-then-c-node-clause-rising
returns-then-c-node-clause-rising c =
    rising_on c.args.nodes.now c.args.first c.args.c c.loop-at.before c.loop-at.at c.requires.rising
    c.loop-at.invariant (omega arith) c.requires.number c.if-c-node.true

pub loop-at-smaller : goal.loop-at-smaller
loop-at-smaller c =
    fewer_behind c.args.nodes.now c.args.first c.args.c c.loop-at.before c.loop-at.at c.loop-at.invariant
    (omega arith)

pub loop-at-preserved : goal.loop-at-preserved
loop-at-preserved c =
    one_passed c.args.nodes.now c.args.first c.args.c c.loop-at.before c.loop-at.at c.loop-at.invariant
    (omega arith) c.if-c-node.false
