-- What is expected in a day file, and what an item leads to there.
use Rattle.std.specs.Prelude.{ℕ, List, [], ◌∷◌, ◌++◌, length, ◌==◌, if◌then◌else◌, nat_le, Option, Some, None, Ok, Err}
use Rattle.std.specs.List.{list_any}
use Rattle.fixed_place.specs.declared.omega.TheConstants.{MOST_OMEGA}
use Rattle.candidate_roll.specs.Roll.{RollList}
use Rattle.input_text.specs.declared.fault_kind.FaultKind.TheVariants.{BadNumber, BadLots, WordExpected, BadPlaces, BadOmega, Trailing}
use Rattle.input_text.specs.Token.{Item, Number, Text}
use Rattle.input_text.specs.Judged.{Judged, then_on, Progress, GoesOn, Ends, carried, carried_to, going_on}
use Rattle.blt_reader.specs.BltTable as blt
use Rattle.blt_reader.specs.Said.{of_a_roll}
use Rattle.day_reader.specs.declared.keyword.Keyword.{Keyword}
use Rattle.day_reader.specs.declared.keyword.Keyword.TheVariants as key
use Rattle.day_reader.specs.declared.script.Script.{Script}
use Rattle.day_reader.specs.declared.day.Day.{Day}
use Rattle.day_reader.specs.Keyword.{as_keyword}
use Rattle.day_reader.specs.Day.{Scale, scale_of, by_number}
use Rattle.day_reader.specs.CallTable.{as_between}
use Rattle.day_reader.specs.TeamTable.{InTeams, TeamNumber, at_teams}

-- ---- the lots

abbrev pub at_lot_number : ℕ → List ℕ → ℕ → Judged (Progress (List ℕ) (List ℕ))
at_lot_number candidates lots n =
    if n == 0 then (if length lots == candidates then Ok (Ends lots) else Err BadLots)
    else (if nat_le n candidates then (if list_any (λ c. c == n) lots then Err BadLots else Ok (GoesOn (lots ++ n ∷ [])))
    else Err BadLots)

-- a candidate or 0, after these lots
abbrev pub at_lot : ℕ → List ℕ → Item → Judged (Progress (List ℕ) (List ℕ))
at_lot candidates lots (Number n) = at_lot_number candidates lots n
at_lot candidates lots item = Err BadNumber

-- ---- the whole file

-- what is before the teams
pub record Head : Type 0 where
  pub roll : RollList
  pub lots : List ℕ
  pub scale : Option Scale

-- what is expected, and what was read before it
pub data Expected : Type 0 where
  InRoll : (expected : blt.Expected) → Expected
  -- a string that is not kept, or the lots
  BehindTitle : (roll : RollList) → Expected
  -- a candidate or 0
  Lot : (roll : RollList) (lots : List ℕ) → Expected
  -- the places, a team or the end
  BehindLots : (roll : RollList) (lots : List ℕ) → Expected
  Places : (roll : RollList) (lots : List ℕ) → Expected
  -- the word `omega`
  BehindPlaces : (roll : RollList) (lots : List ℕ) (places : ℕ) → Expected
  Omega : (roll : RollList) (lots : List ℕ) (places : ℕ) → Expected
  -- a team or the end
  BehindOmega : (roll : RollList) (lots : List ℕ) (scale : Scale) → Expected
  Teams : (head : Head) (expected : InTeams) → Expected

abbrev pub day_of : Head → List Script → Day
day_of head teams = record {
  roll = head.roll;
  lots = head.lots;
  places = (scale_of head.scale).places;
  omega = (scale_of head.scale).omega;
  scripts = by_number teams;
}

abbrev pub behind_title : RollList → Keyword → Judged (Progress Expected Day)
behind_title roll key.Lots = Ok (GoesOn (Lot roll []))
behind_title roll keyword = Err WordExpected

-- the first team, or the end
abbrev pub behind_head : Head → Keyword → Judged (Progress Expected Day)
behind_head head key.Team = Ok (GoesOn (Teams head (TeamNumber [])))
behind_head head key.End = Ok (Ends (day_of head []))
behind_head head keyword = Err WordExpected

abbrev pub behind_lots : RollList → List ℕ → Keyword → Judged (Progress Expected Day)
behind_lots roll lots key.Places = Ok (GoesOn (Places roll lots))
behind_lots roll lots keyword = behind_head (record { roll = roll; lots = lots; scale = None }) keyword

abbrev pub behind_places : RollList → List ℕ → ℕ → Keyword → Judged (Progress Expected Day)
behind_places roll lots places key.Omega = Ok (GoesOn (Omega roll lots places))
behind_places roll lots places keyword = Err WordExpected

-- a day file up to its end
unfoldable pub at_token : Expected → Item → Judged (Progress Expected Day)
at_token (InRoll expected) item = carried (λ more. InRoll more) (λ poll. BehindTitle poll.roll) (blt.at_token of_a_roll expected item)
at_token (BehindTitle roll) (Text bytes) = Ok (GoesOn (BehindTitle roll))
at_token (BehindTitle roll) item = then_on (as_keyword item) (behind_title roll)
at_token (Lot roll lots) item = carried (λ more. Lot roll more) (λ all. BehindLots roll all) (at_lot (length roll.names) lots item)
at_token (BehindLots roll lots) item = then_on (as_keyword item) (behind_lots roll lots)
at_token (Places roll lots) item = then_on (as_between 6 9 BadPlaces item) (λ places. Ok (GoesOn (BehindPlaces roll lots places)))
at_token (BehindPlaces roll lots places) item = then_on (as_keyword item) (behind_places roll lots places)
at_token (Omega roll lots places) item = then_on (as_between 1 MOST_OMEGA BadOmega item) (λ omega. Ok (GoesOn (BehindOmega roll lots (record { places = places; omega = omega }))))
at_token (BehindOmega roll lots scale) item = then_on (as_keyword item) (behind_head (record { roll = roll; lots = lots; scale = Some scale }))
at_token (Teams head expected) item = carried_to (λ more. GoesOn (Teams head more)) (λ teams. Ends (day_of head teams)) (at_teams (length head.roll.names) expected item)

-- nothing is after the end
abbrev pub behind_end : Day → Item → Judged (Progress Expected Day)
behind_end day item = Err Trailing

-- a whole day file
abbrev pub at_file_token : Progress Expected Day → Item → Judged (Progress Expected Day)
at_file_token = going_on at_token behind_end
