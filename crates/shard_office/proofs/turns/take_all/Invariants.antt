use Rattle.std.proofs.Common.{◌≡◌, ◌≤◌}
use Rattle.std.specs.Prelude.{vec_len, vec_capacity}
use Rattle.shard_office.specs.Turned.{AreHeld, AreOf, TookTurns}
use Rattle.shard_office.proofs.turns.take_all.Given as goal

abbrev pub invariant-loop : goal.invariant-loop
invariant-loop g l = record {
  count : vec_len l.held ≡ l.counter;
  len : vec_len l.seats ≡ vec_len l.windows;
  room : vec_len l.windows ≤ vec_capacity l.held;
  own : AreOf l.windows.items l.seats.items;
  held : AreHeld l.held.items l.seats.items;
  taken : TookTurns l.counter l.initial.seats.items l.seats.items;
}
