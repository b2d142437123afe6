use Rattle.std.proofs.Common.{◌≡◌, ◌≤◌, ◌++◌, length, map, take, drop}
use Rattle.std.specs.List.{flat_map}
use Rattle.vote_spread.specs.Merged.{front, behind}
use Rattle.vote_spread.proofs.merge.take_nodes.Given as goal

abbrev pub invariant-loop-part : goal.invariant-loop-part
invariant-loop-part l = record {
  taken : l.parts ≡ map (behind l.candidate) (take l.part-index l.fn.parts) ++ drop l.part-index l.fn.parts;
  nodes : take l.many l.room ≡ flat_map (front l.candidate) (take l.part-index l.fn.parts);
  few : l.many ≤ l.part-index;
  as_much_room : length l.room ≡ length l.fn.room;
}
