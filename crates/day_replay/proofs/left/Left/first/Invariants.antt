use Rattle.std.proofs.Common.{◌≡◌, ℕ, ◌≤◌, []}
use Rattle.day_replay.specs.Calls.{left_of}
use Rattle.day_replay.proofs.left.Left.first.Given as goal

abbrev pub invariant-loop-place : goal.invariant-loop-place
invariant-loop-place l = (team : ℕ) → 1 ≤ team → team ≤ l.place → left_of l.self.teams.items team ≡ []
