use Rattle.shard_office.proofs.LateLemmas.{nothing_late, clerk_saw_all}
use Rattle.shard_office.proofs.laws.the_clerk_has_seen_all.Goals as goal

pub returns : goal.returns
returns c = record { later = nothing_late; all = clerk_saw_all }
