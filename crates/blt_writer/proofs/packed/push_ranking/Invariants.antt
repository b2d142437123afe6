use Rattle.std.proofs.Common.{◌≡◌, ◌+◌, ◌-◌, ◌≤◌, ◌++◌, length, take, vec_len, vec_capacity}
use Rattle.blt_writer.proofs.packed.push_ranking.Given as goal

abbrev pub invariant-loop-candidate : goal.invariant-loop-candidate
invariant-loop-candidate l = record {
  items : l.longer.items ≡ l.initial.longer.items ++ take l.candidate-index l.candidates;
  room : vec_len l.longer + (length l.candidates - l.candidate-index) ≤ vec_capacity l.longer;
}
