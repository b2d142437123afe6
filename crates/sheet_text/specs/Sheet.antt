-- The sheet of a count by either rule.
use Rattle.std.specs.Prelude.{◌≡◌, ℕ, true, List, [], ◌∷◌, ◌++◌, length, Option, ◌⊎◌}
use Rattle.std.specs.List.{flat_map}
use Rattle.std.specs.Io.KnownBytes.{Appends}
use Rattle.byte_edge.specs.Bytes.{AppendsFront}
use Rattle.fixed_place.specs.Rounding.{scale}
use Rattle.candidate_roll.specs.Roll.{RollList}
use Rattle.candidate_roll.specs.declared.state.State.{State}
use Rattle.meek_rule.specs.Rule.{Rule, Meek}
use Rattle.meek_rule.specs.Situation.{is_complete, finished}
use Rattle.meek_rule.specs.Row.{Row}
use Rattle.meek_count.specs.Rows.{IsCountUnder}
use Rattle.meek_count.specs.Progress.{Progress, RowsLead}
use Rattle.sheet_text.specs.Lines.{text_of_lines, head_lines, row_lines, result_lines}

-- how the sheet of a count of so many ballots begins, up to these rows
abbrev pub lines_up_to : (places : ℕ) → RollList → (ballots : ℕ) → List Row → List (List ℕ)
lines_up_to places roll ballots rows = head_lines roll ballots ++ flat_map (row_lines places) rows

-- the lines of the count of so many ballots that had these rows and ended with these states
abbrev pub sheet_lines : (places : ℕ) → RollList → (ballots : ℕ) → List Row → List State → List (List ℕ)
sheet_lines places roll ballots rows last =
    lines_up_to places roll ballots rows ++ result_lines roll.names last

-- The text is the sheet of these ballots by a rule, at so many places and with this omega: that of the rows and the
-- last states of their count. Where a price is in place of a keep value it is printed in its place.
abbrev pub IsSheetUnder : Rule → (places omega : ℕ) → List (List ℕ) → RollList → (lots : List ℕ) → List ℕ → Type 0
IsSheetUnder rule places omega ballots roll lots text =
    (rows : List Row) × (last : List State)
    × IsCountUnder rule places omega ballots roll lots rows last
    × (text ≡ text_of_lines (sheet_lines places roll (length ballots) rows last))

-- the same by Meek's rule
abbrev pub IsSheet : (places omega : ℕ) → List (List ℕ) → RollList → (lots : List ℕ) → List ℕ → Type 0
IsSheet places omega ballots roll lots text = IsSheetUnder Meek places omega ballots roll lots text

-- the sheet of a count that was just begun
abbrev pub IsSheetOf : Rule → (places : ℕ) → Progress → List ℕ → Type 0
IsSheetOf rule places count text = IsSheetUnder rule places count.situation.omega count.ballots count.roll count.lots text

abbrev pub AppendsSheet : Rule → (places : ℕ) → Progress → (old new : Option (List ℕ)) → Type 0
AppendsSheet rule places count old new = (text : List ℕ) × IsSheetOf rule places count text × Appends old new text

-- some front of the sheet, maybe all of it
abbrev pub AppendsFrontOfSheet : Rule → (places : ℕ) → Progress → (old new : Option (List ℕ)) → Type 0
AppendsFrontOfSheet rule places count old new = (text : List ℕ) × IsSheetOf rule places count text × AppendsFront old new text

-- The count is at its end: it is complete, and ending it changes nothing any more.
pub record HasEnded (count : Progress) : Type 0 where
  pub complete : is_complete count.situation ≡ true
  pub settled : finished count.situation ≡ count.situation

-- all of some lines was appended, and then some front of others, maybe all of it
abbrev pub AppendsAndFront : (old new : Option (List ℕ)) → (whole part : List (List ℕ)) → Type 0
AppendsAndFront old new whole part =
    (between : Option (List ℕ)) × Appends old between (text_of_lines whole) × AppendsFront between new (text_of_lines part)

-- The writing stopped in the head, and nothing was counted.
abbrev pub StopsInHead : (start now : Progress) → (old new : Option (List ℕ)) → Type 0
StopsInHead start now old new =
    (now ≡ start) × AppendsFront old new (text_of_lines (head_lines start.roll (length start.ballots)))

-- The writing stopped in a row, which is that of the last iteration that was made.
pub record StopsInRow (rule : Rule) (places : ℕ) (start now : Progress) (old new : Option (List ℕ)) : Type 0 where
  pub done : List Row
  pub leads : RowsLead rule (scale places) start (done ++ now.row ∷ []) now
  pub written : AppendsAndFront old new (lines_up_to places start.roll (length start.ballots) done) (row_lines places now.row)

-- Where a count stands whose sheet was broken off: where the writing stopped, in the head, in a row or in the result.
abbrev pub StandsWhereItStopped : Rule → (places : ℕ) → (start now : Progress) → (old new : Option (List ℕ)) → Type 0
StandsWhereItStopped rule places start now old new =
    StopsInHead start now old new ⊎ (StopsInRow rule places start now old new ⊎ HasEnded now)
