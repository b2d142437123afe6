use Rattle.std.proofs.Common.{◌≡◌, ℕ, ◌≤◌, []}
use Rattle.day_replay.specs.Calls.{left_of}
use Rattle.day_replay.specs.Saying.{Says}
use Rattle.day_replay.proofs.lines.team_said.Given as goal

abbrev pub invariant-loop-place : goal.invariant-loop-place
invariant-loop-place l =
    (team : ℕ) → 1 ≤ team → team ≤ l.place → Says l.n team l.fn.line → left_of l.left.teams.items team ≡ []
