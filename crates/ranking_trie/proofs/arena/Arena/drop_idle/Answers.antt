use Rattle.std.proofs.Common.{◌≡◌, ◌≢◌, ℕ, ◌-◌, [], ◌∷◌, length, set, length-set, arith, ap, sym, subst, ◌∙◌}
use Rattle.ranking_trie.specs.declared.node.Node.{Node}
use Rattle.ranking_trie.specs.Arena.{forest_in, HasNode}
use Rattle.ranking_trie.specs.Forest.{Empty}
use Rattle.ranking_trie.specs.Places.{root, node_at}
use Rattle.ranking_trie.proofs.ArenaLemmas.{node_in}
use Rattle.ranking_trie.proofs.ChangeLemmas.{rising_at, some_ballots}
use Rattle.ranking_trie.proofs.DropLemmas.{IsDropped, dropped, last_within}
use Rattle.ranking_trie.proofs.PathLemmas.{keeps_all, others_all}
use Rattle.ranking_trie.proofs.arena.Arena.drop_idle.Goals as goal

pub node-node-requires-clause-some : goal.node-node-requires-clause-some
node-node-requires-clause-some c =
    let h = c.requires.node.1 in
    (node_in c.args.self.now c.args.first c.requires.node.0 h.ends c.args.place h.passed h.inner h.next
    c.requires.apart h.is).some

pub node-node-requires-clause-within : goal.node-node-requires-clause-within
node-node-requires-clause-within c =
    let h = c.requires.node.1 in
    (node_in c.args.self.now c.args.first c.requires.node.0 h.ends c.args.place h.passed h.inner h.next
    c.requires.apart h.is).within

pub returns-then-node-gt0-clause-rising : goal.returns-then-node-gt0-clause-rising
returns-then-node-gt0-clause-rising c =
    let h = c.requires.node.1 in
    let n = node_in c.args.self.now c.args.first c.requires.node.0 h.ends c.args.place h.passed h.inner h.next
    c.requires.apart h.is in
    let ends : c.node-node.result.ends ≡ h.ends = ap (λ (x : Node). x.ends) (c.node-node.ensures ∙ n.node) in
    rising_at (forest_in c.args.self.now c.args.first) c.requires.node.0 c.args.before c.args.place h
    (omega (arith, ends, c.if-node-gt0.true))

pub returns-then-node-ne0-clause-rising : goal.returns-then-node-ne0-clause-rising
returns-then-node-ne0-clause-rising c =
    let h = c.requires.node.1 in
    let n = node_in c.args.self.now c.args.first c.requires.node.0 h.ends c.args.place h.passed h.inner h.next
    c.requires.apart h.is in
    let first : c.node-node.result.first ≡ root h.inner = ap (λ (x : Node). x.first) (c.node-node.ensures ∙ n.node) in
    let some : h.inner ≢ Empty = λ empty. c.if-node-ne0.true (first ∙ ap root empty) in
    rising_at (forest_in c.args.self.now c.args.first) c.requires.node.0 c.args.before c.args.place h
    (omega (arith, some_ballots 0 h.inner h.inner_rising some))

pub returns-then-node-gt0-clause-kept : goal.returns-then-node-gt0-clause-kept
returns-then-node-gt0-clause-kept c = λ e h.
    let f = forest_in c.args.self.now c.args.first in
    others_all (e ∷ []) f f (keeps_all f)

pub returns-then-node-ne0-clause-kept : goal.returns-then-node-ne0-clause-kept
returns-then-node-ne0-clause-kept c = λ e h.
    let f = forest_in c.args.self.now c.args.first in
    others_all (e ∷ []) f f (keeps_all f)

pub give_back-requires-clause-some : goal.give_back-requires-clause-some
give_back-requires-clause-some c =
    let h = c.requires.node.1 in
    (node_in c.args.self.now c.args.first c.requires.node.0 h.ends c.args.place h.passed h.inner h.next
    c.requires.apart h.is).some

pub give_back-requires-clause-within : goal.give_back-requires-clause-within
give_back-requires-clause-within c =
    let h = c.requires.node.1 in
    (node_in c.args.self.now c.args.first c.requires.node.0 h.ends c.args.place h.passed h.inner h.next
    c.requires.apart h.is).within

pub lead-requires : goal.lead-requires
lead-requires c =
    let old = c.args.self.now in
    let x : Node = record { candidate = 0; ends = 0; first = 0; next = old.free } in
    omega (
      arith,
      last_within old c.args.first c.requires.node.0 c.args.before c.args.place c.requires.apart c.requires.node.1,
      ap length c.give_back.ensures.nodes,
      length-set old.nodes.items (c.args.place - 1) x,
    )

pub returns : goal.returns
returns c =
    let old = c.args.self.now in
    let mid = c.give_back.new.self in
    let new = c.lead.new.self in
    let node : c.node-node.result ≡ node_at old.nodes.items c.args.place = c.node-node.ensures in
    let ends : (node_at old.nodes.items c.args.place).ends ≡ 0 =
    sym (ap (λ (x : Node). x.ends) node) ∙ omega (arith, c.if-node-gt0.false) in
    let first : (node_at old.nodes.items c.args.place).first ≡ 0 =
    sym (ap (λ (x : Node). x.first) node) ∙ omega (arith, c.if-node-ne0.false) in
    let next : c.node-node.result.next ≡ (node_at old.nodes.items c.args.place).next = ap (λ (x : Node). x.next) node in
    let d : (e : ℕ) → HasNode (forest_in old c.args.first) e c.args.before c.args.place
    → IsDropped old c.args.first new c.lead.result e =
    λ e h. dropped old mid new c.args.first e c.args.before c.args.place c.lead.result h c.requires.apart ends
    first c.give_back.ensures.nodes c.give_back.ensures.free
    c.give_back.ensures.spare (λ none. c.lead.ensures.begin none ∙ next) c.lead.ensures.untouched
    c.lead.ensures.behind
    (λ some. subst (λ (r : ℕ). new.nodes.items
    ≡ set mid.nodes.items (c.args.before - 1) (record (node_at mid.nodes.items c.args.before) { next = r })) next
    (c.lead.ensures.linked some))
    c.lead.ensures.free c.lead.ensures.spare in
    let own = d c.requires.node.0 c.requires.node.1 in
    record { moved = own.moved; bag = own.bag; rising = own.rising; kept = λ e h. (d e h).kept; room = omega arith }
