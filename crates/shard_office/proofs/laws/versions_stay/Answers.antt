use Rattle.shard_office.proofs.HistoryLemmas.{version_stands}
use Rattle.shard_office.proofs.VersionLemmas.{version_stays, version_in}
use Rattle.shard_office.proofs.laws.versions_stay.Goals as goal

pub returns : goal.returns
returns c = record {
  stay = version_stays;
  histories = version_in;
  stand = λ shards version history some legal. version_stands shards history some legal version;
}
