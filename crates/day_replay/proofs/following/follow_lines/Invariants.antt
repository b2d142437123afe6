use Rattle.std.proofs.Common.{◌≡◌, length}
use Rattle.day_reader.specs.declared.script.Script.{Script}
use Rattle.std.specs.Prelude.{List}
use Rattle.day_replay.specs.Calls.{AreAnswerable, IsUnderWay, calls_left}
use Rattle.day_replay.specs.Nearest.{HasSaid}
use Rattle.day_replay.proofs.Way.{IsNextLine}
use Rattle.day_replay.proofs.following.follow_lines.Given as goal

abbrev pub invariant-lines : goal.invariant-lines
invariant-lines l = record {
  candidates : l.replay.candidates ≡ l.fn.replay.candidates;
  teams : length l.left.teams.items ≡ 16;
  answerable : AreAnswerable l.replay.candidates l.left.teams.items;
  way : (scripts : List Script) → IsUnderWay scripts l.fn.left.teams.items l.fn.replay.history → IsUnderWay scripts l.left.teams.items l.replay.history;
  said : HasSaid l.fn.text l.replay.history;
  next : IsNextLine l.fn.text l.line l.rest (length l.replay.history);
}

abbrev pub decreases-lines : goal.decreases-lines
decreases-lines l = calls_left l.left.teams.items
