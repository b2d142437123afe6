-- One sheet for each election.
use Rattle.std.proofs.Common.{ℕ, List, length, refl, ap, sym, ◌∙◌}
use Rattle.std.specs.List.Sorted.{IsPermutation}
use Rattle.std.proofs.lemmas.List.Sorted.{IsPermutation-sym, length_permutation}
use Rattle.candidate_roll.specs.Roll.{RollList}
use Rattle.candidate_roll.specs.declared.state.State.{State}
use Rattle.meek_rule.specs.Row.{Row}
use Rattle.meek_rule.specs.Rule.{Rule}
use Rattle.meek_count.proofs.WholeCount.{one_count, count-IsPermutation}
use Rattle.sheet_text.specs.Lines.{text_of_lines}
use Rattle.sheet_text.specs.Sheet.{sheet_lines, IsSheetUnder}
use Rattle.sheet_text.specs.Laws.{EachElectionHasOneSheet, OrderOfBallotsLeavesTheSheet}

pub one_sheet : EachElectionHasOneSheet
one_sheet rule places units ballots roll lots election =
    let count = one_count rule places units ballots roll lots election in
    let text_with : List Row → List State → List ℕ =
    λ rows last. text_of_lines (sheet_lines places roll (length ballots) rows last) in (
      text_with count.0 count.1,
      (count.0, count.1, count.2.are, refl),
      λ other sheet.
          let same = count.2.only sheet.0 sheet.1 sheet.2 in
          sheet.3 ∙ ap (λ (rows : List Row). text_with rows sheet.1) same.0
          ∙ ap (λ (last : List State). text_with count.0 last) same.1,
    )

moved_sheet :
    (rule : Rule) (places units : ℕ) (ballots other : List (List ℕ)) (roll : RollList) (lots : List ℕ)
    (text : List ℕ) → IsPermutation ballots other → IsSheetUnder rule places units ballots roll lots text
    → IsSheetUnder rule places units other roll lots text
moved_sheet rule places units ballots other roll lots text moved sheet = (
  sheet.0,
  sheet.1,
  (count-IsPermutation rule places units ballots other roll lots sheet.0 sheet.1 moved).0 sheet.2,
  sheet.3
      ∙ ap (λ (n : ℕ). text_of_lines (sheet_lines places roll n sheet.0 sheet.1))
      (sym (length_permutation ballots other moved)),
)

pub sheet-IsPermutation : OrderOfBallotsLeavesTheSheet
sheet-IsPermutation rule places units ballots other roll lots text moved = (
  moved_sheet rule places units ballots other roll lots text moved,
  moved_sheet rule places units other ballots roll lots text (IsPermutation-sym ballots other moved),
)
