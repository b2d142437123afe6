-- Batches dealt out among shards that are numbered from 1.
use Rattle.std.specs.Prelude.{ℕ, ◌+◌, ◌-◌, ◌%◌, ◌==◌, Bool, false}
use Rattle.batch_core.specs.declared.call.Call.{Call}
use Rattle.batch_core.specs.declared.call.Call.TheVariants.{Change, Freeze, Strike}
use Rattle.batch_core.specs.Book.{batch_of}

-- the shard of a batch: 1, 2, 3 and so on, and after the last shard 1 again
abbrev pub shard_of : ℕ → ℕ → ℕ
shard_of batch shards = (batch - 1) % shards + 1

-- whether a call changes a batch of shard s
abbrev pub is_of_shard : ℕ → ℕ → Call → Bool
is_of_shard shards s (Change change) = shard_of (batch_of change) shards == s
is_of_shard shards s Freeze = false
is_of_shard shards s (Strike candidate) = false
