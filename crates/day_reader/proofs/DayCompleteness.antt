-- The table of day files accepts each front part of a file, and each front part can go on to a file.
use Rattle.std.proofs.Common.{◌≡◌, ℕ, ◌+◌, ◌-◌, ◌<◌, ◌≤◌, List, [], ◌∷◌, ◌++◌, length, map, refl, sym, ◌∙◌}
use Rattle.std.proofs.Common.{ap, subst, arith, append_assoc, Ok}
use Rattle.std.specs.Prelude.{Some, None}
use Rattle.std.specs.List.{flat_map}
use Rattle.candidate_roll.specs.Roll.{RollList}
use Rattle.input_text.specs.Token.{Item, Number}
use Rattle.input_text.specs.Judged.{after, Progress, GoesOn, Ends, closed}
use Rattle.blt_reader.specs.BltTable as blt
use Rattle.blt_reader.specs.Front as blt_front
use Rattle.input_text.proofs.Tables.{in_parts, place_of, carries}
use Rattle.day_reader.specs.declared.keyword.Keyword.{Keyword}
use Rattle.day_reader.specs.declared.keyword.Keyword.TheVariants as key
use Rattle.day_reader.specs.declared.script.Script.{Script}
use Rattle.day_reader.specs.declared.day.Day.{Day}
use Rattle.day_reader.specs.Keyword.{word}
use Rattle.day_reader.specs.Day.{lots_items, scale_items, scale_of, team_items, AreTeams, by_number, IsDay}
use Rattle.day_reader.specs.TeamTable.{InTeams, TeamNumber, InTeam, WithinCall, and_team, at_teams}
use Rattle.day_reader.specs.DayTable.{Head, Expected, InRoll, BehindTitle, Lot, BehindLots, Places}
use Rattle.day_reader.specs.DayTable.{BehindPlaces, Omega, BehindOmega, Teams, day_of, at_token}
use Rattle.day_reader.specs.DayTable.{at_file_token}
use Rattle.day_reader.specs.Front.{begun_teams, AreBegunTeams, begun_call, IsBehind, head_items, IsFront}
use Rattle.day_reader.specs.Said.{start}
use Rattle.day_reader.specs.Shared.{Shared}
use Rattle.day_reader.proofs.SharedParts.{reads_roll_front, roll_can_end}
use Rattle.day_reader.proofs.DifferentNumbers.{at_most}
use Rattle.day_reader.proofs.TeamLists.{items_push}
use Rattle.day_reader.proofs.TeamCompleteness as teams
use Rattle.day_reader.proofs.HeadCompleteness.{Reads, behind_it, in_roll, reads_roll, reads_begun_lots}
use Rattle.day_reader.proofs.HeadCompleteness.{reads_lots, behind_all_lots, lots_can_end, in_lots, lots_word}
use Rattle.day_reader.proofs.HeadCompleteness.{places_word, reads_places, omega_word, reads_omega, reads_head}
use Rattle.day_reader.proofs.HeadCompleteness.{first_team, no_team}

-- ---- the teams

-- a list is empty or has a last element
last_of : {A : Type 0} (x : A) (xs : List A) → (front : List A) × (last : A) × (x ∷ xs ≡ front ++ last ∷ [])
last_of x [] = ([], x, refl)
last_of {A} x (y ∷ xs) = let rest = last_of y xs in (x ∷ rest.0, rest.1, ap (λ (l : List A). x ∷ l) rest.2)

module _ (shared : Shared) where
  module _ (head : Head) where
    abbrev Candidates : ℕ
    Candidates = length head.roll.names

    in_teams :
        (items : List Item) (first last : Progress InTeams (List Script))
        → after (closed (at_teams Candidates)) first items ≡ Ok last
        → after at_file_token (place_of (λ e. GoesOn (Teams head e)) (λ found. Ends (day_of head found)) first) items
        ≡ Ok (place_of (λ e. GoesOn (Teams head e)) (λ found. Ends (day_of head found)) last)
    unfolding at_token
    in_teams items =
        carries (at_teams Candidates) at_file_token (λ e. GoesOn (Teams head e))
        (λ found. Ends (day_of head found)) (λ e item. refl) items

    some_teams :
        (before : List Script) (script : Script) → AreTeams Candidates (and_team before script)
        → Reads (behind_it head) (flat_map team_items before ++ team_items script)
        (GoesOn (Teams head (InTeam before script)))
    some_teams before script are =
        ap (λ (l : List Item). after at_file_token (GoesOn (behind_it head)) l)
        (teams.first_word shared.lines Candidates before script)
        ∙ first_team head (teams.teams_rest shared.lines Candidates before script)
        ∙ in_teams (teams.teams_rest shared.lines Candidates before script) (GoesOn (TeamNumber []))
        (GoesOn (InTeam before script)) (teams.reads_teams shared.lines Candidates before [] script are)

    -- after some teams
    and_then :
        (before : List Script) (script : Script) (items : List Item) (last : Progress InTeams (List Script))
        → AreTeams Candidates (and_team before script)
        → after (closed (at_teams Candidates)) (GoesOn (InTeam before script)) items ≡ Ok last
        → Reads (behind_it head) ((flat_map team_items before ++ team_items script) ++ items)
        (place_of (λ e. GoesOn (Teams head e)) (λ found. Ends (day_of head found)) last)
    and_then before script items last are read =
        in_parts at_file_token (GoesOn (behind_it head)) (GoesOn (Teams head (InTeam before script)))
        (flat_map team_items before ++ team_items script) items (some_teams before script are)
        ∙ in_teams items (GoesOn (InTeam before script)) last read

    reads_teams_then :
        (found : List Script) (keyword : Keyword) (last : Progress InTeams (List Script)) → AreTeams Candidates found
        → ((before : List Script) (script : Script) → found ≡ and_team before script
        → after (closed (at_teams Candidates)) (GoesOn (InTeam before script)) (word keyword ∷ []) ≡ Ok last)
        → (found ≡ []
        → Reads (behind_it head) (word keyword ∷ [])
        (place_of (λ e. GoesOn (Teams head e)) (λ found. Ends (day_of head found)) last))
        → Reads (behind_it head) (flat_map team_items found ++ word keyword ∷ [])
        (place_of (λ e. GoesOn (Teams head e)) (λ found. Ends (day_of head found)) last)
    reads_teams_then [] keyword last are behind none = none refl
    reads_teams_then (first ∷ more) keyword last are behind none =
        let split = last_of first more in
        ap (λ (l : List Item). after at_file_token (GoesOn (behind_it head)) (l ++ word keyword ∷ []))
        (ap (λ (l : List Script). flat_map team_items l) split.2 ∙ items_push split.0 split.1)
        ∙ and_then split.0 split.1 (word keyword ∷ []) last (subst (AreTeams Candidates) split.2 are)
        (behind split.0 split.1 split.2)

    reads_all_teams :
        (found : List Script) → AreTeams Candidates found
        → Reads (behind_it head) (flat_map team_items found ++ word key.End ∷ []) (Ends (day_of head found))
    reads_all_teams found are = reads_teams_then found key.End (Ends found) are
        (λ before script is. teams.team_can_end shared.lines Candidates before script
        ∙ ap (λ (l : List Script). Ok (Ends l)) (sym is))
        (λ none. no_team head ∙ ap (λ (l : List Script). Ok (Ends (day_of head l))) (sym none))

    reads_begun_teams :
        (expected : InTeams) → AreBegunTeams Candidates expected
        → Reads (behind_it head) (begun_teams expected) (GoesOn (Teams head expected))
    reads_begun_teams (TeamNumber before) is = reads_teams_then before key.Team (GoesOn (TeamNumber before)) is.0
        (λ front last same. teams.reads_next shared.lines Candidates front last
        (subst (λ (l : List Script). length l < 16) same is.1)
        ∙ ap (λ (l : List Script). Ok (GoesOn (TeamNumber l))) (sym same))
        (λ none. first_team head [] ∙ ap (λ (l : List Script). Ok (GoesOn (Teams head (TeamNumber l)))) (sym none))
    reads_begun_teams (InTeam before script) are = some_teams before script are
    reads_begun_teams (WithinCall before script expected) is =
        ap (λ (l : List Item). after at_file_token (GoesOn (behind_it head)) l)
        (sym (append_assoc (flat_map team_items before) (team_items script) (begun_call expected)))
        ∙ and_then before script (begun_call expected) (GoesOn (WithinCall before script expected)) is.0
        (teams.reads_begun_call shared.lines Candidates before script expected is.1)

  -- ---- the whole file

  past_roll :
      (is : RollList) (part items : List Item) (next : Progress Expected Day) → IsBehind is part items
      → Reads (BehindTitle is) part next → Reads (InRoll blt.Candidates) items next
  past_roll is part items next behind read =
      ap (λ (l : List Item). after at_file_token (GoesOn (InRoll blt.Candidates)) l) behind.spelled
      ∙ in_parts at_file_token (GoesOn (InRoll blt.Candidates)) (GoesOn (BehindTitle is)) behind.roll_items part
      (reads_roll shared is behind.roll_items behind.is_roll)
      ∙ read

  -- each front part is read as such
  pub reads_front :
      (expected : Expected) (items : List Item) → IsFront expected items
      → after at_file_token start items ≡ Ok (GoesOn expected)
  reads_front (InRoll expected) items front =
      in_roll items (GoesOn blt.Candidates) (GoesOn expected)
      (reads_roll_front shared (GoesOn expected) items front)
  reads_front (BehindTitle is) items front = reads_roll shared is items front
  reads_front (Lot is lots) items front =
      past_roll is (word key.Lots ∷ map Number lots) items _ front.1 (reads_begun_lots is lots front.0)
  reads_front (BehindLots is lots) items front = past_roll is (lots_items lots) items _ front.1 (reads_lots is lots front.0)
  reads_front (Places is lots) items front =
      past_roll is (lots_items lots ++ word key.Places ∷ []) items _ front.1
      (behind_all_lots is lots (word key.Places ∷ []) front.0 ∙ places_word is lots [])
  reads_front (BehindPlaces is lots places) items front =
      past_roll is (lots_items lots ++ word key.Places ∷ Number places ∷ []) items _ front.2
      (behind_all_lots is lots (word key.Places ∷ Number places ∷ []) front.0 ∙ reads_places is lots places [] front.1)
  reads_front (Omega is lots places) items front =
      past_roll is (lots_items lots ++ word key.Places ∷ Number places ∷ word key.Omega ∷ []) items _ front.2
      (behind_all_lots is lots (word key.Places ∷ Number places ∷ word key.Omega ∷ []) front.0
      ∙ reads_places is lots places (word key.Omega ∷ []) front.1 ∙ omega_word is lots places [])
  reads_front (BehindOmega is lots scale) items front =
      past_roll is (lots_items lots ++ scale_items (Some scale)) items _ front.2
      (behind_all_lots is lots (scale_items (Some scale)) front.0 ∙ reads_omega is lots scale [] front.1)
  reads_front (Teams head expected) items front =
      past_roll head.roll (head_items head ++ begun_teams expected) items _ front.2
      (reads_head head (begun_teams expected) front.0 ∙ reads_begun_teams head expected front.1)

  same_day :
      (items : List Item) (day : Day) (is : IsDay items day)
      → day_of (record { roll = day.roll; lots = day.lots; scale = is.scale }) is.teams ≡ day
  same_day items day is =
      ap (λ (p : ℕ). record {
        roll = day.roll;
        lots = day.lots;
        places = p;
        omega = (scale_of is.scale).omega;
        scripts = by_number is.teams;
      }) (sym is.places)
      ∙ ap (λ (o : ℕ). record {
        roll = day.roll;
        lots = day.lots;
        places = day.places;
        omega = o;
        scripts = by_number is.teams;
      }) (sym is.omega)
      ∙ ap (λ (s : List Script). record
      { roll = day.roll; lots = day.lots; places = day.places; omega = day.omega; scripts = s })
      (sym is.scripts)

  pub reads_day : (items : List Item) (day : Day) → IsDay items day → after at_file_token start items ≡ Ok (Ends day)
  reads_day items day is =
      let head : Head = record { roll = day.roll; lots = day.lots; scale = is.scale } in
      let rest : List Item = flat_map team_items is.teams ++ word key.End ∷ [] in
      past_roll day.roll (head_items head ++ rest) items _ (record {
        roll_items = is.roll_items;
        spelled =
            is.spelled
            ∙ ap (λ (l : List Item). is.roll_items ++ l)
            (sym (append_assoc (lots_items day.lots) (scale_items is.scale) rest));
        is_roll = is.roll;
      }) (reads_head head rest (record { lots = is.lots; scale = is.scale_in }) ∙ reads_all_teams head is.teams is.teams_are)
      ∙ ap (λ (d : Day). Ok (Ends d)) (same_day items day is)

  -- ---- lists that can go on to a file

  abbrev CanGoOn : Expected → Type 0
  CanGoOn expected = (more : List Item) × (day : Day) × Reads expected more (Ends day)

  lots_missing : (is : RollList) (lots : List ℕ) → length lots ≤ length is.names → CanGoOn (Lot is lots)
  lots_missing is lots few =
      let counts : length lots + (length is.names - length lots) ≡ length is.names = omega (arith, few) in
      let rest = lots_can_end (length is.names) (length is.names - length lots) lots counts in
      let head : Head = record { roll = is; lots = rest.1; scale = None } in (
        rest.0 ++ word key.End ∷ [],
        day_of head [],
        in_parts at_file_token (GoesOn (Lot is lots)) (GoesOn (BehindLots is rest.1)) rest.0 (word key.End ∷ [])
            (in_lots is rest.0 (GoesOn lots) (Ends rest.1) rest.2) ∙ no_team head,
      )

  behind_the_title : (is : RollList) → CanGoOn (BehindTitle is)
  behind_the_title is =
      let rest =
      lots_missing is [] (omega arith) in
      (word key.Lots ∷ rest.0, rest.1, lots_word is rest.0 ∙ rest.2)

  one_unit : (is : RollList) (lots : List ℕ) (places : ℕ) → CanGoOn (Omega is lots places)
  unfolding at_token
  one_unit is lots places =
      let head : Head = record {
        roll = is;
        lots = lots;
        scale = Some (record { places = places; omega = 1 });
      } in (Number 1 ∷ word key.End ∷ [], day_of head [], no_team head)

  behind_the_places : (is : RollList) (lots : List ℕ) (places : ℕ) → CanGoOn (BehindPlaces is lots places)
  behind_the_places is lots places =
      let rest =
      one_unit is lots places in
      (word key.Omega ∷ rest.0, rest.1, omega_word is lots places rest.0 ∙ rest.2)

  six_places : (is : RollList) (lots : List ℕ) → CanGoOn (Places is lots)
  unfolding at_token
  six_places is lots = let rest = behind_the_places is lots 6 in (Number 6 ∷ rest.0, rest.1, rest.2)

  roll_missing :
      (expected : blt.Expected) (items : List Item) → blt_front.IsFront 0 expected items → CanGoOn (InRoll expected)
  roll_missing expected items front =
      let found = roll_can_end shared expected items front in
      let rest = behind_the_title found.1.roll in (
        found.0 ++ rest.0,
        rest.1,
        in_parts at_file_token (GoesOn (InRoll expected))
            (GoesOn (BehindTitle found.1.roll)) found.0 rest.0
            (in_roll found.0 (GoesOn expected) (Ends found.1) found.2) ∙ rest.2,
      )

  teams_missing :
      (head : Head) (expected : InTeams) (items : List Item) → IsFront (Teams head expected) items
      → CanGoOn (Teams head expected)
  teams_missing head expected items front =
      let rest =
      teams.teams_can_end shared.lines (length head.roll.names) expected front.1
      front.2.is_roll.up_to_title.candidates.least in
      (rest.0, day_of head rest.1, in_teams head rest.0 (GoesOn expected) (Ends rest.1) rest.2)

  pub can_go_on : (expected : Expected) (items : List Item) → IsFront expected items → CanGoOn expected
  can_go_on (InRoll expected) items front = roll_missing expected items front
  can_go_on (BehindTitle is) items front = behind_the_title is
  can_go_on (Lot is lots) items front = lots_missing is lots (at_most (length is.names) lots front.0)
  can_go_on (BehindLots is lots) items front =
      let head : Head = record { roll = is; lots = lots; scale = None } in (word key.End ∷ [], day_of head [], no_team head)
  can_go_on (Places is lots) items front = six_places is lots
  can_go_on (BehindPlaces is lots places) items front = behind_the_places is lots places
  can_go_on (Omega is lots places) items front = one_unit is lots places
  can_go_on (BehindOmega is lots scale) items front =
      let head : Head =
      record { roll = is; lots = lots; scale = Some scale } in
      (word key.End ∷ [], day_of head [], no_team head)
  can_go_on (Teams head expected) items front = teams_missing head expected items front
