-- The calls that are left of a day's scripts, for each team: team t's at index t - 1.
use Rattle.std.specs.Prelude.{◌≡◌, ◌≢◌, ℕ, ◌+◌, ◌-◌, ◌≤◌, List, [], ◌∷◌, ◌++◌, All, length, reverse, slice_index_or}
use Rattle.batch_core.specs.declared.call.Call.{Call}
use Rattle.batch_core.specs.declared.entry.Entry.{Entry}
use Rattle.batch_core.specs.Histories.{IsLegal, own_calls}
use Rattle.day_reader.specs.declared.script.Script.{Script}
use Rattle.day_reader.specs.Said.{IsAnswerable}
use Rattle.day_lines.specs.DayHistory.{calls_of, calls_in}

-- the next ones of this team, where each list stands from its end
abbrev pub left_of : List (List Call) → ℕ → List Call
left_of left team = reverse (slice_index_or left (team - 1) [])

-- an office of so many candidates can answer each of them
abbrev pub AreAnswerable : ℕ → List (List Call) → Type 0
AreAnswerable candidates left = (team : ℕ) → 1 ≤ team → All (IsAnswerable candidates) (left_of left team)

-- how many calls are left in all
abbrev pub calls_left : List (List Call) → ℕ
calls_left [] = 0
calls_left (calls ∷ left) = length calls + calls_left left

-- The next call of this team was taken.
pub record IsTaken (team : ℕ) (call : Call) (old new : List (List Call)) : Type 0 where
  pub next : left_of old team ≡ call ∷ left_of new team
  pub others : (other : ℕ) → 1 ≤ other → other ≢ team → left_of new other ≡ left_of old other
  pub fewer : calls_left new + 1 ≡ calls_left old
  pub teams : length new ≡ length old
  pub answerable : (candidates : ℕ) → AreAnswerable candidates old → IsAnswerable candidates call × AreAnswerable candidates new

-- A legal history in which each team has made the first calls of its script, and has these left; nobody else has called.
pub record IsUnderWay (scripts : List Script) (left : List (List Call)) (history : List Entry) : Type 0 where
  pub legal : IsLegal history
  pub no_clerk : own_calls 0 history ≡ []
  pub each : (team : ℕ) → 1 ≤ team → calls_of (own_calls team history) ++ left_of left team ≡ calls_in scripts team

-- One call more was made, by this team.
abbrev pub HasCalled : (team : ℕ) → (old new : List Entry) → Type 0
HasCalled team old new = (e : Entry) × (e.caller ≡ team) × (new ≡ old ++ e ∷ [])
