-- Front parts of a day file, by what is expected after them.
use Rattle.std.specs.Prelude.{◌≡◌, ◌<◌, ◌≤◌, ℕ, ⊤, List, [], ◌∷◌, ◌++◌, length, map, Some}
use Rattle.batch_core.specs.declared.limits.TheConstants.{LAST_NUMBER, MOST_OF_BATCH, MOST_TEAMS}
use Rattle.std.specs.List.{flat_map}
use Rattle.candidate_roll.specs.Roll.{RollList}
use Rattle.input_text.specs.Token.{Item, Number}
use Rattle.input_text.specs.Range.{IsIn}
use Rattle.blt_reader.specs.Blt.{IsBlt}
use Rattle.input_text.specs.Judged.{Progress, GoesOn, Ends}
use Rattle.blt_reader.specs.Front as blt
use Rattle.blt_reader.specs.Front.{begun, AreBegun}
use Rattle.day_reader.specs.declared.keyword.Keyword.TheVariants as key
use Rattle.day_reader.specs.declared.day.Day.{Day}
use Rattle.day_reader.specs.Keyword.{word}
use Rattle.day_reader.specs.Day.{AreDifferent, AreAllLots, lots_items, IsScale, MayBeScale, scale_items, team_items, AreTeams, IsDay}
use Rattle.day_reader.specs.CallTable.{InCall, EnterBatch, CorrectBatch, WithdrawBatch, CorrectRevision, WithdrawRevision, EnterLines, CorrectLines, StrikeCandidate}
use Rattle.day_reader.specs.TeamTable.{InTeams, TeamNumber, InTeam, WithinCall, and_team}
use Rattle.day_reader.specs.DayTable.{Head, Expected, InRoll, BehindTitle, Lot, BehindLots, Places, BehindPlaces, Omega, BehindOmega, Teams}

-- ---- a call

-- the items of a call so far
abbrev pub begun_call : InCall → List Item
begun_call EnterBatch = word key.Enter ∷ []
begun_call CorrectBatch = word key.Correct ∷ []
begun_call WithdrawBatch = word key.Withdraw ∷ []
begun_call (CorrectRevision batch) = word key.Correct ∷ Number batch ∷ []
begun_call (WithdrawRevision batch) = word key.Withdraw ∷ Number batch ∷ []
begun_call (EnterLines batch lines) = word key.Enter ∷ Number batch ∷ begun lines
begun_call (CorrectLines batch revision lines) = word key.Correct ∷ Number batch ∷ Number revision ∷ begun lines
begun_call StrikeCandidate = word key.Strike ∷ []

abbrev pub IsBegunCall : ℕ → InCall → Type 0
IsBegunCall candidates (CorrectRevision batch) = IsIn LAST_NUMBER batch
IsBegunCall candidates (WithdrawRevision batch) = IsIn LAST_NUMBER batch
IsBegunCall candidates (EnterLines batch lines) = IsIn LAST_NUMBER batch × AreBegun candidates MOST_OF_BATCH lines
IsBegunCall candidates (CorrectLines batch revision lines) = IsIn LAST_NUMBER batch × IsIn LAST_NUMBER revision × AreBegun candidates MOST_OF_BATCH lines
IsBegunCall candidates expected = ⊤

-- ---- the teams

-- the items of the teams so far
abbrev pub begun_teams : InTeams → List Item
begun_teams (TeamNumber before) = flat_map team_items before ++ word key.Team ∷ []
begun_teams (InTeam before script) = flat_map team_items before ++ team_items script
begun_teams (WithinCall before script expected) = flat_map team_items before ++ (team_items script ++ begun_call expected)

abbrev pub AreBegunTeams : ℕ → InTeams → Type 0
AreBegunTeams candidates (TeamNumber before) = AreTeams candidates before × (length before < MOST_TEAMS)
AreBegunTeams candidates (InTeam before script) = AreTeams candidates (and_team before script)
AreBegunTeams candidates (WithinCall before script expected) = AreTeams candidates (and_team before script) × IsBegunCall candidates expected

-- ---- the whole file

-- a roll, strings that are not kept, and then these items
pub record IsBehind (roll : RollList) (part items : List Item) : Type 0 where
  pub roll_items : List Item
  pub spelled : items ≡ roll_items ++ part
  pub is_roll : IsBlt 0 roll_items (record { roll = roll; lines = [] })

abbrev pub head_items : Head → List Item
head_items head = lots_items head.lots ++ scale_items head.scale

-- lots and a scale that a file may have
pub record IsHead (head : Head) : Type 0 where
  pub lots : AreAllLots (length head.roll.names) head.lots
  pub scale : MayBeScale head.scale

abbrev pub IsPlaces : ℕ → Type 0
IsPlaces places = (6 ≤ places) × (places ≤ 9)

-- The items are a front part of a day file that ends where this is expected.
abbrev pub IsFront : Expected → List Item → Type 0
IsFront (InRoll expected) items = blt.IsFront 0 expected items
IsFront (BehindTitle roll) items = IsBlt 0 items (record { roll = roll; lines = [] })
IsFront (Lot roll lots) items = AreDifferent (length roll.names) lots × IsBehind roll (word key.Lots ∷ map Number lots) items
IsFront (BehindLots roll lots) items = AreAllLots (length roll.names) lots × IsBehind roll (lots_items lots) items
IsFront (Places roll lots) items = AreAllLots (length roll.names) lots × IsBehind roll (lots_items lots ++ word key.Places ∷ []) items
IsFront (BehindPlaces roll lots places) items = AreAllLots (length roll.names) lots × IsPlaces places × IsBehind roll (lots_items lots ++ word key.Places ∷ Number places ∷ []) items
IsFront (Omega roll lots places) items = AreAllLots (length roll.names) lots × IsPlaces places × IsBehind roll (lots_items lots ++ word key.Places ∷ Number places ∷ word key.Omega ∷ []) items
IsFront (BehindOmega roll lots scale) items = AreAllLots (length roll.names) lots × IsScale scale × IsBehind roll (lots_items lots ++ scale_items (Some scale)) items
IsFront (Teams head expected) items = IsHead head × AreBegunTeams (length head.roll.names) expected × IsBehind head.roll (head_items head ++ begun_teams expected) items

-- up to the end at most
abbrev pub IsFileFront : Progress Expected Day → List Item → Type 0
IsFileFront (GoesOn expected) items = IsFront expected items
IsFileFront (Ends day) items = IsDay items day
