use Rattle.std.proofs.Common.{◌≡◌, ◌≤◌}
use Rattle.std.specs.Prelude.{vec_len}
use Rattle.shard_office.specs.Turned.{AreHeld, AreOf, GaveTurns}
use Rattle.shard_office.proofs.turns.give_all.Given as goal

abbrev pub invariant-loop-value : goal.invariant-loop-value
invariant-loop-value l = record {
  count : vec_len l.held ≤ vec_len l.windows;
  len : vec_len l.seats ≡ vec_len l.windows;
  own : AreOf l.windows.items l.seats.items;
  held : AreHeld l.held.items l.seats.items;
  given : GaveTurns (vec_len l.held) l.initial.seats.items l.seats.items;
}

abbrev pub decreases-loop-value : goal.decreases-loop-value
decreases-loop-value l = vec_len l.held
