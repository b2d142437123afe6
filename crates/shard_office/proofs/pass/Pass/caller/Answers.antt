use Rattle.std.proofs.Common.{subst}
use Rattle.shard_office.specs.Passes.{HasSeenItsOwn}
use Rattle.shard_office.proofs.Mine.{seen_its_own}
use Rattle.shard_office.proofs.pass.Pass.caller.Goals as goal

pub returns-clause-own : goal.returns-clause-own
returns-clause-own c =
    subst HasSeenItsOwn c.self.view_is
    (seen_its_own c.self.inside.desk.office.value c.self.inside.desk.caller
    c.self.inside.desk.shards.items c.self.inside.desk.register c.self.invariant)
