-- Turns of shards that one caller holds together.
use Rattle.std.specs.Prelude.{◌≡◌, ℕ, ◌+◌, ◌<◌, ◌≤◌, true, false, List, length, map, Some, slice_get, IsPermutation}
use Rattle.shard_office.specs.declared.window.Window.{Window}
use Rattle.turn_lock.specs.Entries.{Begins}
use Rattle.turn_lock.specs.Sights.{KnowsOwn}
use Rattle.plain_ballots.specs.Ballots.{plain}
use Rattle.batch_core.specs.declared.entry.Entry.{Entry}
use Rattle.batch_core.specs.Book.{empty, standing}
use Rattle.batch_core.specs.Histories.{after_all}
use Rattle.call_register.specs.declared.mark.Mark.{Mark}
use Rattle.call_register.specs.Marks.{marks_of}
use Rattle.shard_book.specs.Shard.{AreOfShard}
use Rattle.frozen_plan.specs.Plan.{PlanRows, plan_ballots}
use Rattle.shard_office.specs.Owners.{owner_of_entry}
use Rattle.shard_office.specs.Values.{SeenShard}
use Rattle.shard_office.specs.Names.{shard_name}
use Rattle.shard_office.specs.Passes.{ShardSeat}

-- the seat at each place is of the lock there
abbrev pub AreOf : List Window → List ShardSeat → Type 0
AreOf windows seats = (i : ℕ) (w : Window) (s : ShardSeat) → slice_get windows i ≡ Some w → slice_get seats i ≡ Some s → s.lock ≡ w.lock

-- the value at each place has the tie there
abbrev pub AreTied : List Window → List SeenShard → Type 0
AreTied windows held = (i : ℕ) (w : Window) (v : SeenShard) → slice_get windows i ≡ Some w → slice_get held i ≡ Some v → v.tie ≡ w.tie

-- the seat took the turn
pub record Took (old new : ShardSeat) : Type 0 where
  pub same : new ≡ record old { holds = true; seen = new.seen }
  pub begins : Begins old.seen new.seen
  pub knows : KnowsOwn owner_of_entry new

-- the seat gave the turn back as it had it
pub record GaveBack (old new : ShardSeat) : Type 0 where
  pub same : new ≡ record old { holds = false }
  pub knows : KnowsOwn owner_of_entry new

-- the value is as the seat has seen it, which has its turn
pub record IsHeld (v : SeenShard) (s : ShardSeat) : Type 0 where
  pub holds : s.holds ≡ true
  pub entries : v.book.entries ≡ s.seen
  pub name : s.name ≡ Some (shard_name v)

-- the value at each place is held by the seat there
abbrev pub AreHeld : List SeenShard → List ShardSeat → Type 0
AreHeld held seats = (i : ℕ) (v : SeenShard) (s : ShardSeat) → slice_get held i ≡ Some v → slice_get seats i ≡ Some s → IsHeld v s

-- the first n seats took their turns, and the others are as they were
pub record TookTurns (n : ℕ) (olds news : List ShardSeat) : Type 0 where
  pub len : length news ≡ length olds
  pub taken : (i : ℕ) (x y : ShardSeat) → i < n → slice_get olds i ≡ Some x → slice_get news i ≡ Some y → Took x y
  pub others : (i : ℕ) → n ≤ i → slice_get news i ≡ slice_get olds i

-- the seats from place n on gave their turns back, and the others are as they were
pub record GaveTurns (n : ℕ) (olds news : List ShardSeat) : Type 0 where
  pub len : length news ≡ length olds
  pub given : (i : ℕ) (x y : ShardSeat) → n ≤ i → slice_get olds i ≡ Some x → slice_get news i ≡ Some y → GaveBack x y
  pub others : (i : ℕ) → i < n → slice_get news i ≡ slice_get olds i

-- the shard at this place has as many entries as marks; they are its own, lawful, and legal by themselves
pub record IsAgreed (marks : List Mark) (i : ℕ) (v : SeenShard) : Type 0 where
  pub whole : marks_of (i + 1) marks ≡ length v.book.entries
  pub of_shard : AreOfShard v.book.candidates v.book.shards v.book.shard v.book.entries

-- the same of the first n
abbrev pub AreAgreed : ℕ → List Mark → List SeenShard → Type 0
AreAgreed n marks held = (i : ℕ) (v : SeenShard) → i < n → slice_get held i ≡ Some v → IsAgreed marks i v

-- the plan stands for the ballots that stand in the shard
pub record IsPlanOf (v : SeenShard) (plan : PlanRows) : Type 0 where
  pub of : plan.candidates ≡ v.book.candidates
  pub ballots : IsPermutation (plan_ballots plan.rows) (plain (standing (after_all empty v.book.entries)))

abbrev pub ArePlansOf : List SeenShard → List PlanRows → Type 0
ArePlansOf held plans = (i : ℕ) (v : SeenShard) (p : PlanRows) → slice_get held i ≡ Some v → slice_get plans i ≡ Some p → IsPlanOf v p

-- the value at this place is of this shard, among so many shards and candidates
pub record IsNamed (shards candidates i : ℕ) (v : SeenShard) : Type 0 where
  pub shard : v.book.shard ≡ i + 1
  pub of_shards : v.book.shards ≡ shards
  pub of_candidates : v.book.candidates ≡ candidates

abbrev pub AreNamed : ℕ → ℕ → List SeenShard → Type 0
AreNamed shards candidates held = (i : ℕ) (v : SeenShard) → slice_get held i ≡ Some v → IsNamed shards candidates i v

-- what the held values have as entries
abbrev pub entries_held : List SeenShard → List (List Entry)
entries_held held = map (λ v. v.book.entries) held
