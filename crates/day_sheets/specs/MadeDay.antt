-- The day that the text of a made day says.
use Rattle.std.specs.Prelude.{ℕ, ◌+◌, ◌%◌, ◌==◌, ◌≤◌, List, [], ◌∷◌, ◌++◌, map, codes, true, if◌then◌else◌}
use Rattle.std.specs.List.{flat_map, range_with_len}
use Rattle.fixed_place.specs.declared.omega.TheConstants.{USUAL_OMEGA}
use Rattle.plain_ballots.specs.Ballots.{BallotList}
use Rattle.plain_ballots.specs.declared.ballot_line.BallotLine.{BallotLine}
use Rattle.candidate_roll.specs.Roll.{withdrawn_marks}
use Rattle.input_text.specs.Scan.{scan}
use Rattle.input_text.specs.Refusal.{IsAccepted}
use Rattle.batch_core.specs.declared.change.Change.TheVariants.{Enter, Correct, Withdraw}
use Rattle.batch_core.specs.declared.call.Call.{Call}
use Rattle.batch_core.specs.declared.call.Call.TheVariants.{Change}
use Rattle.day_reader.specs.declared.script.Script.{Script}
use Rattle.day_reader.specs.declared.day.Day.{Day}
use Rattle.day_reader.specs.Day.{IsDay, by_number}
use Rattle.meek_trial.specs.declared.day.TheConstants.{MOST_TRIAL}
use Rattle.meek_trial.specs.Draws.{drawn, ranking}
use Rattle.meek_trial.specs.Trial.{draws_before, revision, first, title, trial_day}

-- ---- ballots

-- line l of a batch, from 0, by the number drawn for it
abbrev pub drawn_line : (l x : ℕ) → BallotLine
drawn_line l x = record { count = 1 + l % 9; ranking = ranking x }

-- n lines, the first of them drawn after the k-th number
unfoldable pub drawn_lines : (number k n : ℕ) → List BallotLine
drawn_lines number k n = map (λ l. drawn_line l (drawn number (k + l + 1))) (range_with_len 0 n)

abbrev pub drawn_ballots : (number k : ℕ) → BallotList
drawn_ballots number k = record { candidates = 12; lines = drawn_lines number k 40 }

-- ---- calls

abbrev pub corrections : (number b : ℕ) → List Call
corrections number b = if b % 3 == 0 then Change (Correct b 1 (drawn_ballots number (draws_before b + 40))) ∷ [] else []

abbrev pub withdrawals : ℕ → List Call
withdrawals b = if b % 7 == 0 then Change (Withdraw b (revision b)) ∷ [] else []

-- the calls of a batch
abbrev pub batch_calls : (number b : ℕ) → List Call
batch_calls number b = (Change (Enter b (drawn_ballots number (draws_before b))) ∷ [] ++ corrections number b) ++ withdrawals b

-- the calls of n batches from the first of a team on
unfoldable pub team_calls : (number team n : ℕ) → List Call
team_calls number team n = flat_map (batch_calls number) (range_with_len (first number team) n)

abbrev pub team_script : (number team : ℕ) → Script
team_script number team = record { team = team; calls = team_calls number team number }

-- teams 1 to n
unfoldable pub team_scripts : (number n : ℕ) → List Script
team_scripts number n = map (team_script number) (range_with_len 1 n)

-- ---- the day

abbrev pub trial_names : List (List ℕ)
trial_names =
    codes "C1" ∷ codes "C2" ∷ codes "C3" ∷ codes "C4" ∷ codes "C5" ∷ codes "C6" ∷ codes "C7" ∷ codes "C8" ∷ codes "C9"
    ∷ codes "C10" ∷ codes "C11" ∷ codes "C12" ∷ []

abbrev pub trial_lots : List ℕ
trial_lots = 12 ∷ 11 ∷ 10 ∷ 9 ∷ 8 ∷ 7 ∷ 6 ∷ 5 ∷ 4 ∷ 3 ∷ 2 ∷ 1 ∷ []

abbrev pub made_day : ℕ → Day
made_day number = record {
  roll = record { seats = 4; names = trial_names; title = title number; withdrawn = withdrawn_marks 12 [] };
  lots = trial_lots;
  places = 9;
  omega = USUAL_OMEGA;
  scripts = by_number (team_scripts number 4);
}

-- The text of a made day is the file of its day.
abbrev pub MadeDaysAreDays : Type 0
MadeDaysAreDays = (number : ℕ) → 1 ≤ number → number ≤ MOST_TRIAL → IsAccepted IsDay (scan (trial_day number) true) (made_day number)
