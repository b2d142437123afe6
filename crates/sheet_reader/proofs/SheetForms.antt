-- The sheet of an election has the form, with the values of its count.
use Rattle.std.proofs.Common.{◌≡◌, ℕ, List, length, refl, sym, ◌∙◌, subst}
use Rattle.candidate_roll.specs.Roll.{RollList}
use Rattle.candidate_roll.specs.declared.state.State.{State}
use Rattle.meek_rule.specs.Row.{Row}
use Rattle.meek_rule.specs.Rule.{Rule}
use Rattle.meek_count.specs.Laws.{IsElection, EachElectionHasOneCount, RowsStayInRange}
use Rattle.meek_count.specs.Rows.{IsCountUnder}
use Rattle.sheet_text.specs.Lines.{text_of_lines}
use Rattle.sheet_text.specs.Sheet.{sheet_lines}
use Rattle.sheet_reader.specs.Form.{HasForm}
use Rattle.sheet_reader.specs.Laws.{HasNames, values_of, SheetsHaveTheForm, SheetsAreReadBack}
use Rattle.sheet_reader.proofs.FormValues.{values_are_read}

-- what a count makes of an election has the form
count_has_form :
    RowsStayInRange
    → (rule : Rule) (places units : ℕ) (ballots : List (List ℕ)) (roll : RollList) (lots : List ℕ) (rows : List Row)
    (last : List State)
    → IsElection places units ballots roll lots → HasNames roll → IsCountUnder rule places units ballots roll lots rows last
    → HasForm places (text_of_lines (sheet_lines places roll (length ballots) rows last)) (values_of roll (length ballots) rows last)
count_has_form in_range rule places units ballots roll lots rows last is named counted =
    let ranges = in_range rule places units ballots roll lots rows last is counted in
    record {
      in_range = record {
        title = named.title;
        seats = (is.sound_roll.some_seat, is.sound_roll.few_seats);
        ballots = is.few_ballots;
        candidates = (is.sound_roll.some_candidate, is.sound_roll.few_candidates);
        names = named.names;
        rows = ranges.0;
        last = ranges.1;
      };
      text = refl;
    }

pub sheets_have_form : RowsStayInRange → EachElectionHasOneCount → SheetsHaveTheForm
sheets_have_form in_range one_count rule places units ballots roll lots text rows last is named sheet counted =
    let only = one_count rule places units ballots roll lots is in
    let here = only.2.only rows last counted in
    let there = only.2.only sheet.0 sheet.1 sheet.2 in
    let same : text ≡ text_of_lines (sheet_lines places roll (length ballots) rows last) =
    sheet.3
    ∙ (λ i. text_of_lines
    (sheet_lines places roll (length ballots) ((there.0 ∙ sym here.0) i) ((there.1 ∙ sym here.1) i))) in
    subst (λ (t : List ℕ). HasForm places t (values_of roll (length ballots) rows last)) (sym same)
    (count_has_form in_range rule places units ballots roll lots rows last is named counted)

pub sheets_are_read : RowsStayInRange → EachElectionHasOneCount → SheetsAreReadBack
sheets_are_read in_range one_count rule places units ballots roll lots text rows last result is named sheet counted read =
    values_are_read places text (values_of roll (length ballots) rows last) result is.places_from is.places_to
    (sheets_have_form in_range one_count rule places units ballots roll lots text rows last is named sheet counted)
    read
