-- What a pass is seen as, and what its seats keep.
use Rattle.std.specs.Prelude.{◌≡◌, ℕ, ◌+◌, false, List, map, length, Some, slice_get}
use Rattle.turn_lock.specs.Sights.{Sight as SeatSight, KnowsOwn}
use Rattle.turn_lock.specs.Entries.{owned_by, owned}
use Rattle.batch_core.specs.declared.entry.Entry.{Entry}
use Rattle.batch_core.specs.Histories.{own_calls}
use Rattle.call_register.specs.declared.mark.Mark.{Mark}
use Rattle.call_register.specs.Walk.{left, NoneBy}
use Rattle.shard_office.specs.declared.shard_value.ShardName.{ShardName}
use Rattle.shard_office.specs.declared.register_value.RegisterName.{RegisterName}
use Rattle.shard_office.specs.declared.window.Window.{Window}
use Rattle.shard_office.specs.Owners.{owner_of_entry, owner_of_mark}
use Rattle.shard_office.specs.Office.{OfficeState, ties_at}
use Rattle.shard_office.specs.Sight.{Sight, by_shard, entries_of, calls_in}

-- a caller at an office: what it has seen of it, and of that the marks and entries that it made itself
pub record PassState : Type 0 where
  pub office : OfficeState
  pub caller : ℕ
  pub sight : Sight
  pub mine : Sight

-- a pass's own calls with their replies, in order: its caller's calls in what it has seen
abbrev pub own : PassState → List Entry
own pass = calls_in pass.caller pass.sight

-- Of what was seen the caller's own entries and marks are those that it made, and each of these entries has its mark.
pub record HasSeenItsOwn (pass : PassState) : Type 0 where
  pub entries : (s : ℕ) → own_calls pass.caller (entries_of pass.sight s) ≡ entries_of pass.mine s
  pub marks : owned_by owner_of_mark pass.caller pass.sight.marks ≡ owned owner_of_mark pass.mine.marks
  pub marked : (s : ℕ) → NoneBy pass.caller (left pass.sight.marks (by_shard pass.sight.lists) s)

abbrev pub ShardSeat : Type 0
ShardSeat = SeatSight Entry ShardName

abbrev pub RegisterSeat : Type 0
RegisterSeat = SeatSight Mark RegisterName

-- what seats have seen
abbrev pub lists_of : List ShardSeat → List (List Entry)
lists_of seats = map (λ s. s.seen) seats

abbrev pub sight_of : List ShardSeat → RegisterSeat → Sight
sight_of seats register = record { marks = register.seen; lists = lists_of seats }

-- what they gave
abbrev pub mine_of : List ShardSeat → RegisterSeat → Sight
mine_of seats register = record { marks = register.mine; lists = map (λ s. s.mine) seats }

-- the seat is one of this window, that of the shard at index i among so many shards and candidates
pub record IsOfWindow (shards candidates i : ℕ) (w : Window) (s : ShardSeat) : Type 0 where
  pub lock : s.lock ≡ w.lock
  pub name : s.name ≡ Some (record { shard = i + 1; shards = shards; candidates = candidates; tie = w.tie })

-- the seat is at the window of the shard at index i, between two calls
pub record IsAtShard (o : OfficeState) (caller i : ℕ) (s : ShardSeat) : Type 0 where
  pub window : (w : Window) → slice_get o.identity.windows i ≡ Some w → IsOfWindow o.shards o.candidates i w s
  pub numbered : s.caller ≡ caller
  pub free : s.holds ≡ false
  pub knows : KnowsOwn owner_of_entry s

pub record IsAtRegister (o : OfficeState) (caller : ℕ) (s : RegisterSeat) : Type 0 where
  pub lock : s.lock ≡ o.identity.register
  pub name : s.name ≡ Some (record { shards = o.shards; candidates = o.candidates; ties = ties_at o.identity.windows })
  pub numbered : s.caller ≡ caller
  pub free : s.holds ≡ false
  pub knows : KnowsOwn owner_of_mark s

-- a caller's seats between two calls: one at each lock, and the mark of each own entry was seen
pub record AreAt (o : OfficeState) (caller : ℕ) (seats : List ShardSeat) (register : RegisterSeat) : Type 0 where
  pub count : length seats ≡ o.shards
  pub shards : (i : ℕ) (s : ShardSeat) → slice_get seats i ≡ Some s → IsAtShard o caller i s
  pub registered : IsAtRegister o caller register
  pub marked : (t : ℕ) → NoneBy caller (left register.seen (by_shard (lists_of seats)) t)
