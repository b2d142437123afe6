use Rattle.std.proofs.Common.{sym, ◌∙◌, ap}
use Rattle.shard_office.specs.Closing.{sight_in}
use Rattle.std.proofs.Common.{◌++◌}
use Rattle.shard_office.proofs.SightLemmas.{goes_further}
use Rattle.shard_office.proofs.HistoryLemmas as lemmas
use Rattle.shard_office.proofs.laws.histories_go_on.Goals as goal

pub returns : goal.returns
returns c = record {
  sights = goes_further;
  histories = lemmas.histories_go_on;
  show =
      λ shards history some legal. (
        lemmas.sight_whole shards history some legal,
        lemmas.sight_shows shards history some legal,
      );
  alike = λ shards history longer some legal legal' on.
      let begins =
      lemmas.histories_go_on (sight_in shards history) (sight_in shards longer)
      (lemmas.sight_whole shards history some legal) on in (
        begins.0,
        sym (lemmas.sight_shows shards longer some legal')
            ∙ (begins.1 ∙ ap (λ l. l ++ begins.0) (lemmas.sight_shows shards history some legal)),
      );
}
