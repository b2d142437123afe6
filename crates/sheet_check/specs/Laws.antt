-- Each text has one verdict, and the verdict on a sheet is that it is true by the terms of its count, and by no other places.
use Rattle.std.specs.Prelude.{◌≡◌, ◌≢◌, ℕ, ◌≤◌, List, []}
use Rattle.candidate_roll.specs.Roll.{RollList}
use Rattle.meek_count.specs.Laws.{IsElection}
use Rattle.sheet_reader.specs.Form.{HasForm}
use Rattle.sheet_reader.specs.Laws.{HasNames}
use Rattle.sheet_reader.specs.Values.{SheetList}
use Rattle.sheet_check.specs.declared.terms.Terms.{Terms}
use Rattle.sheet_check.specs.declared.verdict.Verdict.{Verdict}
use Rattle.sheet_check.specs.declared.verdict.Verdict.TheVariants.{True}
use Rattle.sheet_check.specs.Judged.{IsVerdict}
use Rattle.sheet_check.specs.Terms.{IsSheetBy, places_of}

-- the lots of the terms are of this election, and it can be counted by the terms
abbrev pub CanBeCounted : Terms → List (List ℕ) → RollList → Type 0
CanBeCounted terms ballots roll = IsElection (places_of terms.places) terms.omega ballots roll terms.lots

-- The three verdicts exclude each other, and the first line that differs is one.
abbrev pub EachTextHasOneVerdict : Type 0
EachTextHasOneVerdict =
    (terms : Terms) (ballots : List (List ℕ)) (roll : RollList) (bytes : List ℕ) (one other : Verdict)
    → CanBeCounted terms ballots roll
    → IsVerdict terms ballots roll bytes one → IsVerdict terms ballots roll bytes other → one ≡ other

-- The sheet of a count, by either rule, at any number of places and with any omega, is true by the terms of that count.
abbrev pub SheetsAreTrue : Type 0
SheetsAreTrue =
    (terms : Terms) (ballots : List (List ℕ)) (roll : RollList) (text : List ℕ)
    → CanBeCounted terms ballots roll → HasNames roll
    → IsSheetBy terms (places_of terms.places) ballots roll text → IsVerdict terms ballots roll text True

-- A text with an iteration that has the form of a sheet at some number of places is true by no terms with other places.
abbrev pub OtherPlacesAreNotTrue : Type 0
OtherPlacesAreNotTrue =
    (terms : Terms) (places : ℕ) (ballots : List (List ℕ)) (roll : RollList) (text : List ℕ) (values : SheetList)
    → CanBeCounted terms ballots roll → HasNames roll
    → 6 ≤ places → places ≤ 9 → HasForm places text values → values.rows ≢ [] → places ≢ places_of terms.places
    → ¬ IsVerdict terms ballots roll text True
