-- A day file, as the list of what its tokens say.
use Rattle.std.specs.Prelude.{◌≡◌, ◌≢◌, ◌≤◌, ◌==◌, ℕ, List, [], ◌∷◌, ◌++◌, length, map, filter, All, AllPairs, Option, Some, None, unwrap_or, ⊤}
use Rattle.batch_core.specs.declared.limits.TheConstants.{MOST_TEAMS}
use Rattle.std.specs.List.{flat_map, range_with_len}
use Rattle.fixed_place.specs.declared.omega.TheConstants.{MOST_OMEGA, USUAL_OMEGA}
use Rattle.input_text.specs.Token.{Item, Number}
use Rattle.input_text.specs.Range.{IsIn}
use Rattle.blt_reader.specs.Blt.{IsBlt}
use Rattle.day_reader.specs.declared.keyword.Keyword.TheVariants as key
use Rattle.day_reader.specs.declared.script.Script.{Script}
use Rattle.day_reader.specs.declared.day.Day.{Day}
use Rattle.day_reader.specs.Keyword.{word}
use Rattle.day_reader.specs.Call.{call_items, IsCall, freezes}

-- different numbers from 1 to the greatest
pub record AreDifferent (greatest : ℕ) (numbers : List ℕ) : Type 0 where
  pub in_range : All (IsIn greatest) numbers
  pub different : AllPairs (λ a b. a ≢ b) numbers

-- ---- lots

-- each of so many candidates appears once
pub record AreAllLots (candidates : ℕ) (lots : List ℕ) : Type 0 where
  pub numbers : AreDifferent candidates lots
  pub all : length lots ≡ candidates

-- the word `lots`, candidates, and 0
abbrev pub lots_items : List ℕ → List Item
lots_items lots = word key.Lots ∷ map Number lots ++ Number 0 ∷ []

-- ---- places and omega

-- the places after the point, and omega in units of the last place
pub record Scale : Type 0 where
  pub places : ℕ
  pub omega : ℕ

-- a file may leave them out
abbrev pub scale_items : Option Scale → List Item
scale_items (Some scale) = word key.Places ∷ Number scale.places ∷ word key.Omega ∷ Number scale.omega ∷ []
scale_items None = []

-- 6 to 9 places, and an omega of at most a million units
pub record IsScale (scale : Scale) : Type 0 where
  pub least_places : 6 ≤ scale.places
  pub most_places : scale.places ≤ 9
  pub omega_in : IsIn MOST_OMEGA scale.omega

abbrev pub MayBeScale : Option Scale → Type 0
MayBeScale (Some scale) = IsScale scale
MayBeScale None = ⊤

-- nine places and the usual omega, where a file says nothing else
abbrev pub scale_of : Option Scale → Scale
scale_of scale = unwrap_or scale (record { places = 9; omega = USUAL_OMEGA })

-- ---- teams

-- the word `team`, the team's number, and its calls
abbrev pub team_items : Script → List Item
team_items script = word key.Team ∷ Number script.team ∷ flat_map call_items script.calls

-- numbers from 1 to 16, no number twice, calls of so many candidates, and at most eight freezes
pub record AreTeams (candidates : ℕ) (teams : List Script) : Type 0 where
  pub numbers : AreDifferent MOST_TEAMS (map (λ script. script.team) teams)
  pub calls : All (λ script. All (IsCall candidates) script.calls) teams
  pub few_freezes : freezes teams ≤ 8

-- the teams by rising number
unfoldable pub by_number : List Script → List Script
by_number teams = flat_map (λ number. filter (λ script. script.team == number) teams) (range_with_len 1 MOST_TEAMS)

-- ---- the file

-- A ballot file without ballots, an order of lots in which each candidate appears once, maybe the places and omega, the
-- teams in any order, and the word `end`.
pub record IsDay (items : List Item) (day : Day) : Type 0 where
  pub roll_items : List Item
  pub scale : Option Scale
  pub teams : List Script
  pub spelled : items ≡ roll_items ++ (lots_items day.lots ++ (scale_items scale ++ (flat_map team_items teams ++ word key.End ∷ [])))
  pub roll : IsBlt 0 roll_items (record { roll = day.roll; lines = [] })
  pub lots : AreAllLots (length day.roll.names) day.lots
  pub scale_in : MayBeScale scale
  pub places : day.places ≡ (scale_of scale).places
  pub omega : day.omega ≡ (scale_of scale).omega
  pub teams_are : AreTeams (length day.roll.names) teams
  pub scripts : day.scripts ≡ by_number teams
