-- What is on a caller's desk.
use Rattle.std.specs.Prelude.{◌≡◌, false}
use Rattle.shard_office.specs.declared.desk.Desk.{Desk}
use Rattle.shard_office.specs.Sight.{Sight}
use Rattle.shard_office.specs.Passes.{PassState, AreAt, sight_of, mine_of}
use Rattle.shard_office.specs.Moves.{Looks}

-- what its seats have seen
abbrev pub seen : Desk → Sight
seen desk = sight_of desk.shards.items desk.register

-- what they gave
abbrev pub made : Desk → Sight
made desk = mine_of desk.shards.items desk.register

-- the pass with this desk
abbrev pub pass_at : Desk → PassState
pass_at desk = record { office = desk.office.value; caller = desk.caller; sight = seen desk; mine = made desk }

-- its seats are between two calls
abbrev pub IsSeated : Desk → Type 0
IsSeated desk = AreAt desk.office.value desk.caller desk.shards.items desk.register

-- the same desk after a freeze, made or not: its seats may have seen more, and that at the register may have given a mark
pub record Stays (old new : Desk) : Type 0 where
  pub office : new.office.value ≡ old.office.value
  pub caller : new.caller ≡ old.caller
  pub looks : Looks old.shards.items new.shards.items
  pub register :
      new.register ≡ record old.register { holds = false; seen = new.register.seen; mine = new.register.mine }
