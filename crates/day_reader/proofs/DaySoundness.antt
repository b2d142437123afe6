-- What the table of day files accepts so far is a front part of a day file.
use Rattle.std.proofs.Common.{◌≡◌, ℕ, true, List, [], ◌∷◌, ◌++◌, length, refl, sym, ◌∙◌, ap, subst}
use Rattle.std.proofs.Common.{arith, append_assoc, nat_le, Ok, Err}
use Rattle.std.specs.Prelude.{Some, None}
use Rattle.std.specs.List.{flat_map}
use Rattle.std.proofs.lemmas.Bool.{leb-true, and_parts}
use Rattle.std.proofs.lemmas.List.{append-nil}
use Rattle.fixed_place.specs.declared.omega.TheConstants.{MOST_OMEGA}
use Rattle.candidate_roll.specs.Roll.{RollList}
use Rattle.input_text.specs.declared.fault_kind.FaultKind.TheVariants.{BadPlaces, BadOmega}
use Rattle.input_text.specs.Token.{Item, Number, Text}
use Rattle.blt_reader.specs.Poll.{Poll}
use Rattle.input_text.specs.Judged.{Judged, Progress, GoesOn, Ends, carried_to}
use Rattle.blt_reader.specs.BltTable as blt
use Rattle.input_text.proofs.Judgements.{refused, in_range}
use Rattle.day_reader.specs.declared.keyword.Keyword.{Keyword}
use Rattle.day_reader.specs.declared.keyword.Keyword.TheVariants as key
use Rattle.day_reader.specs.declared.script.Script.{Script}
use Rattle.day_reader.specs.declared.day.Day.{Day}
use Rattle.day_reader.specs.Keyword.{word}
use Rattle.day_reader.specs.Day.{AreAllLots, lots_items, scale_items, team_items, AreTeams, IsDay}
use Rattle.day_reader.specs.CallTable.{is_between}
use Rattle.day_reader.specs.TeamTable.{InTeams, at_teams}
use Rattle.day_reader.specs.DayTable.{Head, Expected, InRoll, BehindTitle, Lot}
use Rattle.day_reader.specs.DayTable.{BehindLots, Places, BehindPlaces, Omega, BehindOmega, Teams, day_of}
use Rattle.day_reader.specs.DayTable.{behind_title, behind_head, behind_lots, behind_places, at_token}
use Rattle.day_reader.specs.DayTable.{at_file_token}
use Rattle.day_reader.specs.Front.{begun_teams, IsBehind, head_items, IsHead, IsPlaces, IsFront, IsFileFront}
use Rattle.day_reader.specs.Shared.{Shared}
use Rattle.day_reader.proofs.SharedParts.{roll_goes_on}
use Rattle.day_reader.proofs.TeamLists.{no_teams}
use Rattle.day_reader.proofs.CallSoundness.{number_goes_on}
use Rattle.day_reader.proofs.TeamSoundness.{word_goes_on, teams_go_on}
use Rattle.day_reader.proofs.RollSoundness.{Goes, arrives, behind_more, roll_goes, title_goes, lots_go}

-- ---- the end of the head, and of the file

-- the end of a file
is_day :
    (head : Head) (teams : List Script) (items : List Item) → IsHead head → AreTeams (length head.roll.names) teams
    → IsBehind head.roll (head_items head ++ (flat_map team_items teams ++ word key.End ∷ [])) items
    → IsDay items (day_of head teams)
is_day head teams items is are behind = record {
  roll_items = behind.roll_items;
  scale = head.scale;
  teams = teams;
  spelled =
      behind.spelled ∙ ap (λ (l : List Item). behind.roll_items ++ l)
      (append_assoc (lots_items head.lots) (scale_items head.scale) (flat_map team_items teams ++ word key.End ∷ []));
  roll = behind.is_roll;
  lots = is.lots;
  scale_in = is.scale;
  places = refl;
  omega = refl;
  teams_are = are;
  scripts = refl;
}

-- the word of a team or of the end, after the head
head_goes :
    (head : Head) (next : Progress Expected Day) (items : List Item) (keyword : Keyword) → IsHead head
    → IsBehind head.roll (head_items head) items → behind_head head keyword ≡ Ok next → Goes items (word keyword) next
head_goes head next items key.Team is behind e =
    arrives items (word key.Team) e
    (is, (no_teams (length head.roll.names), omega arith), behind_more head.roll items (word key.Team) behind refl)
head_goes head next items key.End is behind e =
    arrives items (word key.End) e
    (is_day head [] (items ++ word key.End ∷ []) is (no_teams (length head.roll.names))
    (behind_more head.roll items (word key.End) behind refl))
head_goes head next items keyword is behind e = absurd (refused e)

-- ---- the places and omega

module _ (roll : RollList) (lots : List ℕ) (next : Progress Expected Day) (items : List Item)
    (are : AreAllLots (length roll.names) lots) where
  -- the word of the places after the lots, or the end of a head without a scale
  lots_end :
      (keyword : Keyword) → IsBehind roll (lots_items lots) items → behind_lots roll lots keyword ≡ Ok next
      → Goes items (word keyword) next
  lots_end key.Places is e =
      arrives items (word key.Places) e (are, behind_more roll items (word key.Places) is refl)
  lots_end keyword is e =
      head_goes (record { roll = roll; lots = lots; scale = None }) next items keyword (record { lots = are; scale = tt })
      (subst (λ (l : List Item). IsBehind roll l items) (sym (append-nil (lots_items lots))) is) e

  -- the word `omega` after the places
  places_end :
      (places : ℕ) (keyword : Keyword) → IsPlaces places
      → IsBehind roll (lots_items lots ++ word key.Places ∷ Number places ∷ []) items
      → behind_places roll lots places keyword ≡ Ok next → Goes items (word keyword) next
  places_end places key.Omega within is e =
      arrives items (word key.Omega) e (
        are,
        within,
        behind_more roll items (word key.Omega) is
            (sym (append_assoc (lots_items lots) (word key.Places ∷ Number places ∷ []) (word key.Omega ∷ []))),
      )
  places_end places keyword within is e = absurd (refused e)

places_in : (n : ℕ) → is_between 6 9 n ≡ true → IsPlaces n
places_in n ok = let both = and_parts (nat_le 6 n) (nat_le n 9) ok in (leb-true 6 n both.0, leb-true n 9 both.1)

-- ---- the teams

-- what the table of teams makes of an item
teams_go :
    Shared → (head : Head) (expected : InTeams) (next : Progress Expected Day) (x : Item) (items : List Item)
    (judged : Judged (Progress InTeams (List Script))) → IsFront (Teams head expected) items
    → at_teams (length head.roll.names) expected x ≡ judged
    → carried_to (λ more. GoesOn (Teams head more)) (λ teams. Ends (day_of head teams)) judged ≡ Ok next
    → Goes items x next
teams_go shared head expected next x items (Ok progress) (is, begun, behind) judged e = by_progress progress judged e
  where
    more_behind :
        (teams : List Item) → teams ≡ begun_teams expected ++ x ∷ []
        → IsBehind head.roll (head_items head ++ teams) (items ++ x ∷ [])
    more_behind teams spelled =
        behind_more head.roll items x behind
        (ap (λ (l : List Item). head_items head ++ l) spelled
        ∙ sym (append_assoc (head_items head) (begun_teams expected) (x ∷ [])))

    by_progress :
        (progress : Progress InTeams (List Script)) → at_teams (length head.roll.names) expected x ≡ Ok progress
        → carried_to (λ more. GoesOn (Teams head more)) (λ teams. Ends (day_of head teams)) (Ok progress) ≡ Ok next
        → Goes items x next
    by_progress (GoesOn more) judged e =
        let (are, spelled) = teams_go_on shared.lines (length head.roll.names) expected (GoesOn more) x begun judged in
        arrives items x e (is, are, more_behind _ spelled)
    by_progress (Ends teams) judged e =
        let (are, spelled) = teams_go_on shared.lines (length head.roll.names) expected (Ends teams) x begun judged in
        arrives items x e (is_day head teams (items ++ x ∷ []) is are (more_behind _ spelled))
teams_go shared head expected next x items (Err kind) front judged e = absurd (refused e)

-- ---- the whole file

goes_on :
    Shared → (expected : Expected) (next : Progress Expected Day) (x : Item) (items : List Item) → IsFront expected items
    → at_token expected x ≡ Ok next → Goes items x next
unfolding at_token
goes_on shared (InRoll expected) next x items front e = roll_goes shared expected next x items _ front refl e
goes_on shared (BehindTitle roll) next (Text bytes) items is e =
    let titled : Progress blt.Expected Poll = Ends (record { roll = roll; lines = [] }) in
    arrives items (Text bytes) e (roll_goes_on shared titled titled (Text bytes) items is refl)
goes_on shared (BehindTitle roll) next x items is e =
    word_goes_on IsFileFront items x next (behind_title roll) e
    (λ keyword judged. title_goes roll next items keyword is judged)
goes_on shared (Lot roll lots) next x items (are, is) e = lots_go roll lots items are is next x _ refl e
goes_on shared (BehindLots roll lots) next x items (are, is) e =
    word_goes_on IsFileFront items x next (behind_lots roll lots) e
    (λ keyword judged. lots_end roll lots next items are keyword is judged)
goes_on shared (Places roll lots) next x items (are, is) e =
    number_goes_on IsFileFront items (is_between 6 9) BadPlaces x next (λ n. GoesOn (BehindPlaces roll lots n)) e (λ n ok. (
      are,
      places_in n ok,
      behind_more roll items (Number n) is
          (sym (append_assoc (lots_items lots) (word key.Places ∷ []) (Number n ∷ []))),
    ))
goes_on shared (BehindPlaces roll lots places) next x items (are, within, is) e =
    word_goes_on IsFileFront items x next (behind_places roll lots places) e
    (λ keyword judged. places_end roll lots next items are places keyword within is judged)
goes_on shared (Omega roll lots places) next x items (are, (least, most), is) e =
    number_goes_on IsFileFront items (is_between 1 MOST_OMEGA) BadOmega x next
    (λ n. GoesOn (BehindOmega roll lots (record { places = places; omega = n }))) e (λ n ok. (
      are,
      record { least_places = least; most_places = most; omega_in = in_range MOST_OMEGA n ok },
      behind_more roll items (Number n) is
          (sym (append_assoc (lots_items lots) (word key.Places ∷ Number places ∷ word key.Omega ∷ []) (Number n ∷ []))),
    ))
goes_on shared (BehindOmega roll lots scale) next x items (are, within, is) e =
    let head : Head = record { roll = roll; lots = lots; scale = Some scale } in
    word_goes_on IsFileFront items x next (behind_head head) e
    (λ keyword judged. head_goes head next items keyword (record { lots = are; scale = within }) is judged)
goes_on shared (Teams head expected) next x items front e = teams_go shared head expected next x items _ front refl e

-- What an item leads to, the items with it are a front part for.
pub day_goes_on :
    Shared → (expected next : Progress Expected Day) (x : Item) (items : List Item) → IsFileFront expected items
    → at_file_token expected x ≡ Ok next → Goes items x next
day_goes_on shared (GoesOn expected) next x items front e = goes_on shared expected next x items front e
day_goes_on shared (Ends day) next x items front e = absurd (refused e)
