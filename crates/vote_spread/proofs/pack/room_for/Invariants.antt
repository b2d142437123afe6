use Rattle.std.proofs.Common.{◌≡◌, vec_len, vec_capacity}
use Rattle.vote_spread.proofs.pack.room_for.Given as goal

abbrev pub invariant-loop : goal.invariant-loop
invariant-loop l = record {
  many : vec_len l.room ≡ l.counter;
  capacity : vec_capacity l.room ≡ l.len;
}
