use Rattle.std.proofs.Common.{◌≡◌, ℕ, ◌≤◌, ◌++◌, All, length}
use Rattle.day_lines.specs.DayHistory.{calls_in}
use Rattle.day_replay.specs.Calls.{left_of}
use Rattle.day_replay.proofs.left.Left.of.Given as goal

abbrev pub invariant-scripts : goal.invariant-scripts
invariant-scripts l =
    All (λ script. (1 ≤ script.team) × (script.team ≤ 16)) l.scripts
    × (length l.teams.items ≡ 16)
    × ((team : ℕ) → 1 ≤ team → calls_in l.scripts team ++ left_of l.teams.items team ≡ calls_in l.fn.scripts team)

abbrev pub decreases-scripts : goal.decreases-scripts
decreases-scripts l = length l.scripts
