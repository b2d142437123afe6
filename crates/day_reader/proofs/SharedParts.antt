-- What the laws of ballot files say of rolls and of ballot lines.
use Rattle.std.proofs.Common.{◌≡◌, ℕ, List, [], ◌∷◌, ◌++◌, refl, sym, ◌∙◌, ap, Ok}
use Rattle.std.specs.Prelude.{is_ok}
use Rattle.plain_ballots.specs.declared.ballot_line.BallotLine.{BallotLine}
use Rattle.input_text.specs.Token.{Item}
use Rattle.input_text.specs.Judged.{Judged, after, Progress, GoesOn, Ends, closed}
use Rattle.input_text.proofs.Tables.{in_parts}
use Rattle.input_text.proofs.Following.{one_more}
use Rattle.blt_reader.specs.Poll.{Poll}
use Rattle.blt_reader.specs.Blt.{AreLines, ballots}
use Rattle.blt_reader.specs.BallotTable.{Limit, Lines, Between, at_line}
use Rattle.blt_reader.specs.BltTable as blt
use Rattle.blt_reader.specs.Front.{begun, AreBegun, IsLineFront, IsFront, IsFileFront}
use Rattle.blt_reader.specs.Said.{of_a_roll, ExpectsLinesRightly}
use Rattle.day_reader.specs.Shared.{Shared}

-- ---- a roll without ballots

module _ (shared : Shared) where
  abbrev RollTable : Progress blt.Expected Poll → Item → Judged (Progress blt.Expected Poll)
  RollTable = blt.at_file_token of_a_roll

  abbrev Start : Progress blt.Expected Poll
  Start = GoesOn blt.Candidates

  -- each front part of a roll is read as such
  pub reads_roll_front :
      (expected : Progress blt.Expected Poll) (items : List Item) → IsFileFront 0 expected items
      → after RollTable Start items ≡ Ok expected
  reads_roll_front expected items front = (shared.rolls of_a_roll items expected).1 front

  -- one item more
  pub roll_goes_on :
      (expected next : Progress blt.Expected Poll) (item : Item) (items : List Item) → IsFileFront 0 expected items
      → RollTable expected item ≡ Ok next → IsFileFront 0 next (items ++ item ∷ [])
  roll_goes_on = one_more RollTable Start (IsFileFront 0) (shared.rolls of_a_roll)

  -- each front part can go on to a roll
  pub roll_can_end :
      (expected : blt.Expected) (items : List Item) → IsFront 0 expected items
      → (more : List Item) × (poll : Poll) × (after RollTable (GoesOn expected) more ≡ Ok (Ends poll))
  roll_can_end expected items front =
      let read = reads_roll_front (GoesOn expected) items front in
      let can = (shared.open_rolls of_a_roll items).0 (ap is_ok read) in
      let all = reads_roll_front (Ends can.1) (items ++ can.0) can.2 in
      (can.0, can.1, sym (in_parts RollTable Start (GoesOn expected) items can.0 read) ∙ all)

-- ---- ballot lines

module _ (rightly : ExpectsLinesRightly) (candidates : ℕ) (limit : Limit) where
  abbrev LineTable : Progress Lines (List BallotLine) → Item → Judged (Progress Lines (List BallotLine))
  LineTable = closed (at_line candidates limit)

  abbrev Begin : Progress Lines (List BallotLine)
  Begin = GoesOn (Between [])

  pub no_lines : AreLines candidates limit.most []
  no_lines = ((rightly candidates limit [] Begin).0 refl).0

  pub line_goes_on :
      (lines : Lines) (next : Progress Lines (List BallotLine)) (item : Item) → AreBegun candidates limit.most lines
      → at_line candidates limit lines item ≡ Ok next → IsLineFront candidates limit.most next (begun lines ++ item ∷ [])
  line_goes_on lines next item are e =
      one_more LineTable Begin (IsLineFront candidates limit.most) (rightly candidates limit) (GoesOn lines)
      next item (begun lines)
      (are, refl) e

  pub reads_begun :
      (lines : Lines) → AreBegun candidates limit.most lines → after LineTable Begin (begun lines) ≡ Ok (GoesOn lines)
  reads_begun lines are = (rightly candidates limit (begun lines) (GoesOn lines)).1 (are, refl)

  pub reads_ballots :
      (lines : List BallotLine) → AreLines candidates limit.most lines
      → after LineTable Begin (ballots lines) ≡ Ok (Ends lines)
  reads_ballots lines are = (rightly candidates limit (ballots lines) (Ends lines)).1 (are, refl)
