use Rattle.std.proofs.Common.{◌+◌, arith, refl}
use Rattle.ranking_trie.proofs.SpareLemmas.{pushed}
use Rattle.ranking_trie.proofs.arena.Arena.push_spare.Goals as goal

pub returns-clause-same : goal.returns-clause-same
returns-clause-same c = λ first apart.
    (pushed c.args.self.now
    (record { nodes = c.push.new.self; free = c.len-place.result + 1; spare = c.args.self.now.spare + 1 }) first
    apart c.in_ok-push.ensures.items (omega (arith, c.args.self.now.nodes.ok.0, c.len-place.ensures)) refl).apart

pub returns-clause-forest : goal.returns-clause-forest
returns-clause-forest c = λ first apart.
    (pushed c.args.self.now
    (record { nodes = c.push.new.self; free = c.len-place.result + 1; spare = c.args.self.now.spare + 1 }) first
    apart c.in_ok-push.ensures.items (omega (arith, c.args.self.now.nodes.ok.0, c.len-place.ensures)) refl).forest
