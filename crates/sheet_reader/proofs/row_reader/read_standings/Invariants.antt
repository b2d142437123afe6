use Rattle.std.proofs.Common.{◌≡◌, ◌++◌, length}
use Rattle.sheet_reader.specs.Parts.{standing_lines}
use Rattle.sheet_reader.proofs.row_reader.read_standings.Given as goal

abbrev pub invariant-loop-p : goal.invariant-loop-p
invariant-loop-p g l = record {
  states : length l.states ≡ length l.fn.states;
  keeps : length l.keeps ≡ length l.fn.states;
  votes : length l.votes ≡ length l.fn.states;
  read : l.fn.lines ≡ standing_lines g.row.P l.p l.states l.keeps l.votes ++ l.lines;
}
