use Rattle.std.proofs.Common.{◌≡◌, ◌++◌, length}
use Rattle.std.specs.Prelude.{List}
use Rattle.batch_core.specs.declared.entry.Entry.{Entry}
use Rattle.day_reader.specs.declared.script.Script.{Script}
use Rattle.day_replay.specs.Calls.{AreAnswerable, IsUnderWay, calls_left}
use Rattle.day_replay.proofs.following.make_the_rest.Given as goal

abbrev pub invariant-calls : goal.invariant-calls
invariant-calls l = record {
  candidates : l.replay.candidates ≡ l.fn.replay.candidates;
  teams : length l.left.teams.items ≡ 16;
  answerable : AreAnswerable l.replay.candidates l.left.teams.items;
  way : (scripts : List Script) → IsUnderWay scripts l.fn.left.teams.items l.fn.replay.history → IsUnderWay scripts l.left.teams.items l.replay.history;
  more : (more : List Entry) × (l.replay.history ≡ l.fn.replay.history ++ more);
}

abbrev pub decreases-calls : goal.decreases-calls
decreases-calls l = calls_left l.left.teams.items
