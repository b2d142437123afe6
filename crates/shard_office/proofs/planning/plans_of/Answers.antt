use Rattle.std.proofs.Common.{List, subst}
use Rattle.shard_office.specs.Values.{SeenShard}
use Rattle.shard_office.specs.Turned.{ArePlansOf}
use Rattle.shard_office.proofs.planning.plans_of.Goals as goal

pub returns-clause-plans : goal.returns-clause-plans
returns-clause-plans g c =
    subst (λ (held : List SeenShard). ArePlansOf held c.of.result) c.deref.ensures.value
    (rw c.of.ensures c.in_ok-plans.ensures.plans)
