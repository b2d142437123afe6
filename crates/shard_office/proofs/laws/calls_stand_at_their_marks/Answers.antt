use Rattle.shard_office.proofs.HistoryLemmas.{change_stands, strike_stands, freeze_stands}
use Rattle.shard_office.proofs.laws.calls_stand_at_their_marks.Goals as goal

pub returns : goal.returns
returns c = record {
  change = λ shards s e before now history some legal. change_stands shards history some legal s e before now;
  strike =
      λ shards caller candidate answer before now history some legal.
      strike_stands shards history some legal caller candidate answer before now;
  freeze =
      λ shards caller version before now history some legal. freeze_stands shards history some legal caller
      version before now;
}
