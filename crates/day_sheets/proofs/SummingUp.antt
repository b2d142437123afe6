-- The summary of what stands after all calls of a day.
use Rattle.std.proofs.Common.{◌≡◌, ℕ, ◌≤◌, List, [], ◌∷◌, length, sym, ap, ◌∙◌, subst, arith}
use Rattle.std.specs.Prelude.{IsPermutation, All}
use Rattle.std.proofs.lemmas.List.Elements.{All-nil, All-cons}
use Rattle.std.proofs.lemmas.List.Sorted.{length_permutation}
use Rattle.plain_ballots.specs.Ballots.{plain}
use Rattle.candidate_roll.specs.Roll.{RollList}
use Rattle.candidate_roll.specs.declared.state.State.{State}
use Rattle.fixed_place.specs.Rounding.{scale}
use Rattle.meek_rule.specs.Rule.{Meek}
use Rattle.meek_rule.specs.Situation.{Situation}
use Rattle.meek_count.specs.Rows.{Rows, IsCount}
use Rattle.meek_count.specs.Laws.{OrderOfBallotsChangesNothing}
use Rattle.meek_count.specs.Progress.{Progress, HasJustBegun}
use Rattle.sheet_text.specs.Lines.{text_of_lines}
use Rattle.lane_sheet.specs.Due.{CountDue, due_in, due_of}
use Rattle.batch_core.specs.declared.entry.Entry.{Entry}
use Rattle.batch_core.specs.Book.{empty}
use Rattle.batch_core.specs.Histories.{after_all, standing_after, struck_after}
use Rattle.frozen_plan.specs.Plan.{PlanRows, all_ballots}
use Rattle.lane_sheet.specs.Plans.{CanBeCounted}
use Rattle.frozen_version.specs.Versions.{VersionState}
use Rattle.day_sheets.specs.declared.summary.Summary.{Summary}
use Rattle.day_lines.specs.declared.terms.Terms.{Terms}
use Rattle.day_sheets.specs.declared.turns.Turns.{Turns}
use Rattle.day_sheets.specs.CountedOut.{IsCountedOut}
use Rattle.day_lines.specs.DayText.{roll_with, terms_of}
use Rattle.day_sheets.specs.MadeDay.{made_day}
use Rattle.day_sheets.specs.Summary.{standing_batches, summary_of, summary_lines, IsSummary, IsSummaryDue}
use Rattle.day_sheets.specs.Summary.{IsOnlySummary, AreLastStanding}
use Rattle.day_sheets.proofs.LastFreeze.{IsClerks}

-- ---- the summary

-- the summary of a count that was made to its end
pub summary_is :
    (number : ℕ) (history : List Entry) (start : Progress) (turns : Turns) (summary : Summary) (last : List State)
    → HasJustBegun (scale 9) start → IsCountedOut 9 start turns last
    → summary
    ≡ record {
      number = number;
      calls = length history;
      batches = standing_batches (after_all empty history);
      ballots = length start.ballots;
      rounds = turns.rounds;
      iterations = turns.iterations;
    }
    → IsSummaryDue number 9 history (due_in start) (text_of_lines (summary_lines summary last))
summary_is number history start turns summary last begun out says =
    let counted : IsCount 9 start.situation.omega start.ballots start.roll start.lots out.rows last =
    subst (λ (now : Situation). Rows Meek (scale 9) start.ballots start.lots now out.rows last) begun out.to_the_end in
    let same : summary ≡ summary_of number history (length start.ballots) out.rows =
    says
    ∙ (λ i. let s : Summary =
    record {
      number = number;
      calls = length history;
      batches = standing_batches (after_all empty history);
      ballots = length start.ballots;
      rounds = out.rounds i;
      iterations = out.iterations i;
    } in
    s) in
    (out.rows, last, counted, ap (λ (s : Summary). text_of_lines (summary_lines s last)) same)

in_order :
    (number places omega : ℕ) (history : List Entry) (one other : List (List ℕ)) (roll : RollList) (lots : List ℕ)
    (text : List ℕ) → OrderOfBallotsChangesNothing
    → IsPermutation one other → IsSummaryDue number places history (due_of omega lots roll one) text
    → IsSummaryDue number places history (due_of omega lots roll other) text
in_order number places omega history one other roll lots text leaves same (rows, last, counted, is) = (
  rows,
  last,
  (leaves Meek places omega one other roll lots rows last same).0 counted,
  is
      ∙ ap (λ (n : ℕ). text_of_lines (summary_lines (summary_of number history n rows) last))
      (sym (length_permutation one other same)),
)

only_one : (one other : CountDue) → one ∷ [] ≡ other ∷ [] → other ≡ one
only_one one other same = cc

-- the summary of what stands after all calls
pub sums_up :
    (number : ℕ) (terms : Terms) (history : List Entry) (roll : RollList) (plans : List PlanRows) (text : List ℕ)
    → terms.places ≡ 9 → OrderOfBallotsChangesNothing → AreLastStanding terms history roll plans
    → IsOnlySummary number 9 history (due_of terms.omega terms.lots roll (all_ballots plans) ∷ []) text
    → IsSummary number terms history text
sums_up number terms history roll plans text nine leaves stand (due, only, is) =
    let of : CountDue → Type 0 = λ d. IsSummaryDue number 9 history d text in
    let given = due_of terms.omega terms.lots roll (all_ballots plans) in
    let of_roll =
    subst (λ (r : RollList). of (due_of terms.omega terms.lots r (all_ballots plans))) stand.roll_is
    (subst of (only_one given due only) is) in
    let standing = plain (standing_after history (length history)) in
    let struck = roll_with terms.roll (struck_after history (length history)) in
    subst (λ (p : ℕ). IsSummaryDue number p history (due_of terms.omega terms.lots struck standing) text) (sym nine)
    (in_order number 9 terms.omega history (all_ballots plans) standing struck terms.lots text leaves stand.ballots of_roll)

-- what the clerk's version has stands after all calls
pub stands_last :
    (n : ℕ) (terms : Terms) (history : List Entry) (version : VersionState) (roll : RollList) (plans : List PlanRows)
    → n ≡ length terms.roll.names → IsClerks n history version → roll ≡ roll_with terms.roll version.struck
    → plans ≡ version.plans → All (λ p. p.candidates ≡ version.candidates) plans → length (all_ballots plans) ≤ 999900000
    → AreLastStanding terms history roll plans
stands_last n terms history version roll plans names is of_roll of_plans of_all few = record {
  roll_is =
      of_roll
      ∙ ap (roll_with terms.roll) (is.stands.struck ∙ ap (struck_after history) is.at);
  ballots =
      subst (λ (p : List PlanRows). IsPermutation (all_ballots p)
      (plain (standing_after history (length history)))) (sym of_plans)
      (subst (λ (k : ℕ). IsPermutation (all_ballots version.plans) (plain (standing_after history k))) is.at
      is.stands.ballots);
  counted = record {
    candidates_are = subst (λ (k : ℕ). All (λ (p : PlanRows). p.candidates ≡ k) plans) (is.candidates ∙ names) of_all;
    few_ballots = omega (arith, few);
  };
}

-- ---- what is counted

-- the roll of the count is of the candidates of the made day's lots
pub one_roll :
    (number : ℕ) (terms : Terms) (roll : RollList) (rolls : List RollList) (struck : List ℕ)
    → terms ≡ terms_of (made_day number) → roll ≡ roll_with terms.roll struck → rolls ≡ roll ∷ []
    → All (λ r. length r.names ≡ length terms.lots) rolls
one_roll number terms roll rolls struck made of_roll only =
    let Of : RollList → Type 0 = λ r. length r.names ≡ length terms.lots in
    let lots : length terms.lots ≡ 12 = ap (λ (t : Terms). length t.lots) made in
    let names : length terms.roll.names ≡ 12 = ap (λ (t : Terms). length t.roll.names) made in
    subst (All Of) (sym only)
    (All-cons Of roll [] (ap (λ (r : RollList). length r.names) of_roll ∙ (names ∙ sym lots)) (All-nil Of))

pub one_list :
    (number : ℕ) (terms : Terms) (plans : List PlanRows) (lists : List (List PlanRows))
    → terms ≡ terms_of (made_day number) → lists ≡ plans ∷ [] → CanBeCounted (length terms.roll.names) plans
    → All (CanBeCounted (length terms.lots)) lists
one_list number terms plans lists made only counted =
    let lots : length terms.lots ≡ 12 = ap (λ (t : Terms). length t.lots) made in
    let names : length terms.roll.names ≡ 12 = ap (λ (t : Terms). length t.roll.names) made in
    let n = length terms.lots in
    subst (All (CanBeCounted n)) (sym only)
    (All-cons (CanBeCounted n) plans [] (subst (λ (k : ℕ). CanBeCounted k plans) (names ∙ sym lots) counted)
    (All-nil (CanBeCounted n)))

-- the made day has 12 candidates
pub twelve :
    (number : ℕ) (terms : Terms) (roll : RollList) (struck : List ℕ) → terms ≡ terms_of (made_day number)
    → roll ≡ roll_with terms.roll struck → length roll.names ≤ 12
twelve number terms roll struck made of_roll =
    let names : length terms.roll.names ≡ 12 = ap (λ (t : Terms). length t.roll.names) made in
    let same : length roll.names ≡ length terms.roll.names = ap (λ (r : RollList). length r.names) of_roll in
    omega (arith, names, same)
