-- The verdict on the sheet of a count is that it is true by the terms of the count, and by no other places.
use Rattle.std.proofs.Common.{ℕ, ◌≤◌, List, length, arith}
use Rattle.candidate_roll.specs.Roll.{RollList}
use Rattle.check_words.specs.declared.places.Places.{Places}
use Rattle.check_words.specs.declared.places.Places.TheVariants.{Six, Seven, Eight, Nine}
use Rattle.sheet_reader.specs.Form.{HasForm}
use Rattle.sheet_reader.specs.Laws.{HasNames, values_of}
use Rattle.sheet_reader.specs.Laws.{IterationsSayTheirPlaces, SheetsHaveTheForm}
use Rattle.sheet_reader.specs.Values.{SheetList}
use Rattle.sheet_check.specs.declared.terms.Terms.{Terms}
use Rattle.sheet_check.specs.Laws.{CanBeCounted, OtherPlacesAreNotTrue, SheetsAreTrue}
use Rattle.sheet_check.specs.Terms.{IsSheetBy, places_of, rule_of}

at_least_six : (places : Places) → 6 ≤ places_of places
at_least_six Six = omega arith
at_least_six Seven = omega arith
at_least_six Eight = omega arith
at_least_six Nine = omega arith

at_most_nine : (places : Places) → places_of places ≤ 9
at_most_nine Six = omega arith
at_most_nine Seven = omega arith
at_most_nine Eight = omega arith
at_most_nine Nine = omega arith

-- A sheet by some terms has the form at their places.
module _ (forms : SheetsHaveTheForm) where
  form_of :
      (terms : Terms) (ballots : List (List ℕ)) (roll : RollList) (text : List ℕ) → CanBeCounted terms ballots roll
      → HasNames roll → IsSheetBy terms (places_of terms.places) ballots roll text
      → (values : SheetList) × HasForm (places_of terms.places) text values
  form_of terms ballots roll text election named (rows, last, counted, is) = (
    values_of roll (length ballots) rows last,
    forms (rule_of terms.rule) (places_of terms.places) terms.omega ballots roll terms.lots text rows last election named
        (rows, last, counted, is) counted,
  )

  pub sheets_true : SheetsAreTrue
  sheets_true terms ballots roll text election named sheet = (
    (
      places_of terms.places,
      at_least_six terms.places,
      at_most_nine terms.places,
      form_of terms ballots roll text election named sheet,
    ),
    sheet,
  )

  pub other_places : IterationsSayTheirPlaces → OtherPlacesAreNotTrue
  other_places say terms places ballots roll text values election named from to form some other (has, sheet) =
      let mine = form_of terms ballots roll text election named sheet in
      other
      (say places (places_of terms.places) text values mine.0 from to (at_least_six terms.places)
      (at_most_nine terms.places) form mine.1 some)
