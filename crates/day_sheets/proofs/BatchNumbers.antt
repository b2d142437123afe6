-- The batches of a day's calls have numbers.
use Rattle.std.proofs.Common.{ℕ, List, All}
use Rattle.batch_core.specs.declared.change.Change.TheVariants.{Enter, Correct, Withdraw}
use Rattle.batch_core.specs.declared.call.Call.{Call}
use Rattle.batch_core.specs.declared.call.Call.TheVariants.{Change, Freeze, Strike}
use Rattle.batch_core.specs.declared.entry.Entry.{Entry}
use Rattle.day_reader.specs.declared.script.Script.{Script}
use Rattle.day_reader.specs.Said.{IsAnswerable, AreScripts}
use Rattle.day_lines.specs.DayHistory.{IsHistoryOf}
use Rattle.day_lines.proofs.HistoryCalls.{all_callers, each_caller}
use Rattle.day_sheets.specs.Standing.{HasNumber, HaveNumbers}

-- a call of a day file is about a batch with a number
numbered : (candidates : ℕ) (call : Call) → IsAnswerable candidates call → HasNumber call
numbered candidates (Change (Enter batch ballots)) may = may.0
numbered candidates (Change (Correct batch revision ballots)) may = may.0
numbered candidates (Change (Withdraw batch revision)) may = may.0
numbered candidates Freeze may = tt
numbered candidates (Strike candidate) may = tt

all_numbered :
    (candidates : ℕ) (scripts : List Script) → All (λ s. All (IsAnswerable candidates) s.calls) scripts
    → All (λ s. All HasNumber s.calls) scripts
all_numbered candidates scripts all k d inside j e within = numbered candidates _ (all k d inside j e within)

-- The changes in a history of a day's scripts have batch numbers.
pub have_numbers :
    (candidates : ℕ) (scripts : List Script) (history : List Entry) → AreScripts candidates scripts
    → IsHistoryOf scripts history → HaveNumbers history
have_numbers candidates scripts history are is =
    all_callers (λ caller. HasNumber) history
    (each_caller (λ caller. HasNumber) scripts history is (all_numbered candidates scripts are.calls) tt)
