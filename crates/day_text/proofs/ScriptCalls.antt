-- Every call in the history of a day file's teams is of a team from 1 to 16 or of the clerk, and may stand in the file.
use Rattle.std.proofs.Common.{◌≡◌, ℕ, ◌≤◌, ◌==◌, List, [], ◌∷◌, map, filter, All, sym, subst, arith}
use Rattle.std.specs.Prelude.{slice_index_or}
use Rattle.std.specs.List.{range_with_len}
use Rattle.std.proofs.lemmas.List.Elements.{All-nil, All-cons, All-head, All-tail, All-filter}
use Rattle.batch_core.specs.declared.call.Call.{Call}
use Rattle.batch_core.specs.declared.entry.Entry.{Entry}
use Rattle.input_text.specs.Range.{IsIn}
use Rattle.day_reader.specs.declared.script.Script.{Script}
use Rattle.day_reader.specs.Call.{IsCall}
use Rattle.day_reader.specs.Day.{AreTeams, by_number}
use Rattle.day_lines.specs.DayHistory.{IsHistoryOf}
use Rattle.day_lines.proofs.HistoryCalls.{all_callers, each_caller}
use Rattle.day_reader.proofs.CallRankings.{all_flat}

-- scripts by rising number are the same scripts
by_number_same : (Q : Script → Type 0) (teams : List Script) → All Q teams → All Q (by_number teams)
unfolding by_number
by_number_same Q teams are =
    all_flat Q (λ number. filter (λ (s : Script). s.team == number) teams) (range_with_len 1 16)
    (λ k d inside. All-filter (λ (s : Script). s.team == slice_index_or (range_with_len 1 16) k d) Q teams are)

module _ (candidates : ℕ) where
  -- what may be said of a caller's call
  abbrev pub IsAsked : ℕ → Call → Type 0
  IsAsked caller call = (caller ≤ 16) × IsCall candidates call

  abbrev AsksSo : Script → Type 0
  AsksSo s = All (IsAsked s.team) s.calls

  each_team :
      (teams : List Script) → All (IsIn 16) (map (λ s. s.team) teams) → All (λ s. All (IsCall candidates) s.calls) teams
      → All AsksSo teams
  each_team [] numbers calls = All-nil AsksSo
  each_team (s ∷ teams) numbers calls =
      let Calls : Script → Type 0 = λ s. All (IsCall candidates) s.calls in
      let number = All-head (IsIn 16) s.team (map (λ (s : Script). s.team) teams) numbers in
      let own = All-head Calls s teams calls in
      All-cons AsksSo s teams (λ k d inside. (number.most, own k d inside))
      (each_team teams (All-tail (IsIn 16) s.team (map (λ (s : Script). s.team) teams) numbers)
      (All-tail Calls s teams calls))

  pub each_call :
      (teams scripts : List Script) (history : List Entry) → AreTeams candidates teams → scripts ≡ by_number teams
      → IsHistoryOf scripts history → All (λ e. IsAsked e.caller e.call) history
  each_call teams scripts history are is whole =
      let all = by_number_same AsksSo teams (each_team teams are.numbers.in_range are.calls) in
      all_callers IsAsked history
      (each_caller IsAsked scripts history whole (subst (All AsksSo) (sym is) all) (omega arith, tt))
