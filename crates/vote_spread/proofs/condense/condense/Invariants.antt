use Rattle.std.proofs.Common.{◌≡◌, ◌+◌, ◌-◌, ◌≤◌, vec_len, vec_capacity}
use Rattle.vote_spread.specs.Stem.{stems_of}
use Rattle.vote_spread.specs.Rows.{seen}
use Rattle.vote_spread.proofs.Underway.{IsUnderway}
use Rattle.vote_spread.proofs.RoomLemmas.{room_left}
use Rattle.vote_spread.proofs.condense.condense.Given as goal

abbrev pub invariant-loop-i : goal.invariant-loop-i
invariant-loop-i l = record {
  capacity : vec_capacity l.rows ≡ vec_capacity l.fn.rows;
  room : vec_len l.rows + room_left (stems_of l.tails l.branches) l.from l.to l.i ≤ vec_capacity l.fn.rows;
  underway : IsUnderway l.classes (stems_of l.tails l.branches) l.from l.to l.i l.reached (seen l.rows.items);
}

abbrev pub decreases-loop-i : goal.decreases-loop-i
decreases-loop-i l = l.to - l.i
