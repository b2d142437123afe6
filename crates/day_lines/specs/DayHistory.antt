-- The history of a day: which calls it has, and how it ends.
use Rattle.std.specs.Prelude.{◌≡◌, ℕ, ◌≤◌, ◌==◌, List, [], ◌∷◌, ◌++◌, map, filter}
use Rattle.std.specs.List.{flat_map}
use Rattle.batch_core.specs.declared.call.Call.{Call}
use Rattle.batch_core.specs.declared.call.Call.TheVariants.{Freeze}
use Rattle.batch_core.specs.declared.reply.Reply.TheVariants.{Frozen}
use Rattle.batch_core.specs.declared.entry.Entry.{Entry}
use Rattle.batch_core.specs.Histories.{IsLegal, own_calls}
use Rattle.day_reader.specs.declared.script.Script.{Script}

-- ---- calls

-- the calls of these entries
abbrev pub calls_of : List Entry → List Call
calls_of entries = map (λ e. e.call) entries

-- the calls of a team in the scripts, none where it has no script
abbrev pub calls_in : List Script → ℕ → List Call
calls_in scripts team = flat_map (λ s. s.calls) (filter (λ s. s.team == team) scripts)

-- the clerk is caller 0
abbrev pub clerk_freeze : Entry
clerk_freeze = record { caller = 0; call = Freeze; reply = Frozen }

-- ---- a history

-- The clerk's freeze is the last of all calls, and the clerk makes no other call.
pub record EndsWithTheClerk (history : List Entry) : Type 0 where
  pub before : List Entry
  pub last : history ≡ before ++ clerk_freeze ∷ []
  pub no_other : own_calls 0 before ≡ []

-- The history of these scripts: each team's calls are its whole script, in its order, and nobody else calls.
pub record IsHistoryOf (scripts : List Script) (history : List Entry) : Type 0 where
  pub legal : IsLegal history
  pub ends : EndsWithTheClerk history
  pub whole : (team : ℕ) → 1 ≤ team → calls_of (own_calls team history) ≡ calls_in scripts team
