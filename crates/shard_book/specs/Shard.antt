-- What a shard's book stands for.
use Rattle.std.specs.Prelude.{◌≡◌, ℕ, ◌≤◌, true, List, All}
use Rattle.batch_core.specs.declared.change.Change.{Change}
use Rattle.batch_core.specs.declared.entry.Entry.{Entry}
use Rattle.batch_core.specs.Histories.{IsLegal}
use Rattle.batch_core.specs.Lawful.{AreLawful}
use Rattle.batch_core.specs.Shards.{is_of_shard}
use Rattle.ranking_trie.specs.Lines.{rank_count}
use Rattle.shard_book.specs.Turnover.{brought}

-- the book of one of so many shards: its entries, the single ballots of its trie, and room for so many more entries
-- and so many more ranks
pub record ShardState : Type 0 where
  pub shard : ℕ
  pub shards : ℕ
  pub candidates : ℕ
  pub entries : List Entry
  pub ballots : List (List ℕ)
  pub spare : ℕ
  pub spare_ranks : ℕ

-- room for this change: for its entry, and for the ranks of its lines
pub record HasRoom (book : ShardState) (change : Change) : Type 0 where
  pub entry : 1 ≤ book.spare
  pub ranks : rank_count (brought change) ≤ book.spare_ranks

-- lawful changes of this shard alone, legal by themselves
pub record AreOfShard (candidates shards shard : ℕ) (entries : List Entry) : Type 0 where
  pub legal : IsLegal entries
  pub changes : All (λ e. is_of_shard shards shard e.call ≡ true) entries
  pub lawful : AreLawful candidates entries
