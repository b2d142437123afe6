-- The summary of a made day: what is at the end, and the outcome of its count.
use Rattle.std.specs.Prelude.{◌≡◌, ℕ, ◌≤◌, Bool, false, List, [], ◌∷◌, ◌++◌, length, map, count_by, codes, decimal, Option, Some, None, IsPermutation}
use Rattle.std.specs.Option.{is_some}
use Rattle.std.specs.List.{range_with_len}
use Rattle.plain_ballots.specs.Ballots.{plain}
use Rattle.candidate_roll.specs.Roll.{RollList}
use Rattle.candidate_roll.specs.declared.state.State.{State}
use Rattle.frozen_plan.specs.Plan.{PlanRows, all_ballots}
use Rattle.meek_rule.specs.Situation.{is_elected}
use Rattle.meek_rule.specs.Row.{Row}
use Rattle.meek_count.specs.Rows.{IsCount}
use Rattle.sheet_text.specs.Lines.{text_of_lines, listed}
use Rattle.lane_sheet.specs.Due.{CountDue, due_of}
use Rattle.lane_sheet.specs.Plans.{CanBeCounted}
use Rattle.batch_core.specs.declared.batch.Batch.{Batch}
use Rattle.batch_core.specs.declared.entry.Entry.{Entry}
use Rattle.batch_core.specs.Book.{BookState, empty, last_batch}
use Rattle.batch_core.specs.Histories.{after_all, standing_after, struck_after}
use Rattle.day_lines.specs.declared.terms.Terms.{Terms}
use Rattle.day_sheets.specs.declared.summary.Summary.{Summary}
use Rattle.day_lines.specs.DayText.{roll_with}

-- ---- batches

-- whether a batch stands: it was entered, and it is not gone
abbrev pub stands : Option Batch → Bool
stands None = false
stands (Some batch) = is_some batch.standing

-- how many batches of a book stand
abbrev pub standing_batches : BookState → ℕ
standing_batches book = count_by (λ number. stands (book.batches number)) (range_with_len 1 last_batch)

-- ---- rows

-- the round of the last row, 0 where there is none
abbrev pub last_round : List Row → ℕ
last_round [] = 0
last_round (row ∷ []) = row.round
last_round (row ∷ next ∷ rows) = last_round (next ∷ rows)

-- ---- the text

-- the summary of these calls, and of the count of this many ballots that had these rows
abbrev pub summary_of : (number : ℕ) → List Entry → (ballots : ℕ) → List Row → Summary
summary_of number history ballots rows = record {
  number = number;
  calls = length history;
  batches = standing_batches (after_all empty history);
  ballots = ballots;
  rounds = last_round rows;
  iterations = length rows;
}

-- its lines: last the elected candidates, in rising order
abbrev pub summary_lines : Summary → List State → List (List ℕ)
summary_lines summary last =
    (codes "trial " ++ decimal summary.number)
    ∷ (codes "calls " ++ decimal summary.calls)
    ∷ (codes "batches " ++ decimal summary.batches)
    ∷ (codes "ballots " ++ decimal summary.ballots)
    ∷ (codes "rounds " ++ decimal summary.rounds)
    ∷ (codes "iterations " ++ decimal summary.iterations)
    ∷ (codes "elected" ++ listed 1 (map is_elected last))
    ∷ []

-- the text is the summary of these calls, and of the count that is due
abbrev pub IsSummaryDue : (number places : ℕ) → List Entry → CountDue → List ℕ → Type 0
IsSummaryDue number places history due text =
    (rows : List Row) × (last : List State)
    × IsCount places due.omega due.ballots due.roll due.lots rows last
    × (text ≡ text_of_lines (summary_lines (summary_of number history (length due.ballots) rows) last))

-- there is one count, of at most as many candidates as a made day has
abbrev pub IsSummedUp : List CountDue → Type 0
IsSummedUp dues = (due : CountDue) × (dues ≡ due ∷ []) × (length due.roll.names ≤ 12)

-- the text is the summary of the only count
abbrev pub IsOnlySummary : (number places : ℕ) → List Entry → List CountDue → List ℕ → Type 0
IsOnlySummary number places history dues text = (due : CountDue) × (dues ≡ due ∷ []) × IsSummaryDue number places history due text

-- The summary of a history that ends with the clerk's freeze: the count is that of the freeze's sheet, over the single
-- ballots of the batches that stand after all calls.
abbrev pub IsSummary : (number : ℕ) → Terms → List Entry → List ℕ → Type 0
IsSummary number terms history text =
    let n = length history in
    IsSummaryDue number terms.places history
    (due_of terms.omega terms.lots (roll_with terms.roll (struck_after history n)) (plain (standing_after history n))) text

-- The plans are of what stands after all calls of a history, and in the roll all struck candidates are withdrawn too.
pub record AreLastStanding (terms : Terms) (history : List Entry) (roll : RollList) (plans : List PlanRows) : Type 0 where
  pub roll_is : roll ≡ roll_with terms.roll (struck_after history (length history))
  pub ballots : IsPermutation (all_ballots plans) (plain (standing_after history (length history)))
  pub counted : CanBeCounted (length terms.roll.names) plans
