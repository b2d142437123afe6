use Rattle.std.proofs.Common.{◌≡◌, ◌+◌, ◌*◌, ◌≤◌, ◌++◌, length, take}
use Rattle.std.specs.List.{flat_map}
use Rattle.blt_writer.specs.Text.{number_then}
use Rattle.blt_writer.proofs.page.put_ranks.Given as goal

abbrev pub invariant-loop-candidate : goal.invariant-loop-candidate
invariant-loop-candidate l = record {
  text : take l.behind l.bytes ≡ take l.fn.at l.fn.bytes ++ flat_map (number_then 32) (take l.candidate-index l.ranking);
  short : l.behind ≤ l.fn.at + 4 * l.candidate-index;
  same_length : length l.bytes ≡ length l.fn.bytes;
}
