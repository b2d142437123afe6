-- Closed offices.
use Rattle.std.specs.Prelude.{◌≡◌, ℕ, ◌+◌, ◌-◌, ◌≤◌, true, false, List, [], length, map, Some, slice_get}
use Rattle.std.specs.List.{range_with_len}
use Rattle.turn_lock.specs.Entries.{Begins, owned_by, owned}
use Rattle.turn_lock.specs.Numbers.{has}
use Rattle.turn_lock.specs.Sights.{given_by}
use Rattle.batch_core.specs.declared.entry.Entry.{Entry}
use Rattle.shard_office.specs.declared.window.Window.{Window}
use Rattle.batch_core.specs.Entries.{EntryList}
use Rattle.batch_core.specs.Histories.{IsLegal, own_calls}
use Rattle.call_register.specs.declared.mark.Mark.{Mark}
use Rattle.call_register.specs.Marks.{marks_of}
use Rattle.call_register.specs.Weaving.{Lists, weave, MatchEntries, marks_in, part}
use Rattle.call_register.specs.Woven.{AreOfShards}
use Rattle.call_register.specs.Walk.{NoneBy}
use Rattle.shard_book.specs.Shard.{AreOfShard}
use Rattle.shard_office.specs.Owners.{owner_of_entry}
use Rattle.shard_office.specs.Sight.{Sight, GoesOn}
use Rattle.shard_office.specs.Passes.{PassState, ShardSeat, IsOfWindow, own}
use Rattle.shard_office.specs.Clerk.{ClerkState, callers_of}

-- what an office of so many shards held in the end, and what its clerk stood for
pub record ClosingState : Type 0 where
  pub clerk : ClerkState
  pub marks : List Mark
  pub lists : List EntryList

-- all that can be seen of a history: its marks, and its parts
abbrev pub sight_in : ℕ → List Entry → Sight
sight_in shards history = record { marks = marks_in shards history; lists = map (λ s. part shards s history) (range_with_len 1 shards) }

-- The pass fits the history: this goes on from what the pass has seen, and its caller's calls are just the pass's own.
pub record FitsHistory (pass : PassState) (history : List Entry) : Type 0 where
  pub begins : GoesOn pass.sight (sight_in pass.office.shards history)
  pub own_are : own_calls pass.caller history ≡ own pass

-- The history of an office that this clerk closed: it is legal, the clerk and each pass taken in fit it, and no other caller
-- has a call in it.
pub record IsClosed (clerk : ClerkState) (history : List Entry) : Type 0 where
  pub legal : IsLegal history
  pub desk : FitsHistory clerk.desk history
  pub passes : (k : ℕ) (q : PassState) → slice_get clerk.taken k ≡ Some q → FitsHistory q history
  pub others : (p : ℕ) → 1 ≤ p → has p (callers_of clerk.taken) ≡ false → NoneBy p history

-- All that an office held whose clerk stood for this: for each shard a list of its own changes, legal by itself, with an
-- entry for each of its marks. The history woven of them is the closed office's.
pub record HoldsAll (clerk : ClerkState) (marks : List Mark) (lists : Lists) : Type 0 where
  pub of_shards : AreOfShards clerk.desk.office.shards lists
  pub fit : MatchEntries marks lists
  pub closed : IsClosed clerk (weave marks lists)

-- the first seat of a shard's lock may close it
pub record MayEnd (shards candidates : ℕ) (windows : List Window) (i : ℕ) (s : ShardSeat) : Type 0 where
  pub window : (w : Window) → slice_get windows i ≡ Some w → IsOfWindow shards candidates i w s
  pub first : s.is_first ≡ true
  pub free : s.holds ≡ false
  pub alone : s.out ≡ []

-- the entries of the lock at place i, which this seat closed
pub record IsEnded (shards candidates : ℕ) (marks : List Mark) (i : ℕ) (s : ShardSeat) (entries : List Entry) : Type 0 where
  pub begins : Begins s.seen entries
  pub given : (p : ℕ) → owned_by owner_of_entry p entries ≡ owned owner_of_entry (given_by s p)
  pub whole : marks_of (i + 1) marks ≡ length entries
  pub of_shard : AreOfShard candidates shards (i + 1) entries

-- the lists of the locks from the last one down, of which n are left
abbrev pub AreEnded : (shards candidates all : ℕ) → List Mark → List ShardSeat → List EntryList → Type 0
AreEnded shards candidates all marks seats lists =
    (j : ℕ) (l : EntryList) (s : ShardSeat) → slice_get lists j ≡ Some l → slice_get seats (all - 1 - j) ≡ Some s
    → IsEnded shards candidates marks (all - 1 - j) s l.items
