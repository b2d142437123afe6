-- The table of day files accepts all that is before the teams.
use Rattle.std.proofs.Common.{◌≡◌, ◌≢◌, ℕ, zero, suc, ◌+◌, ◌==◌, List, [], ◌∷◌, ◌++◌, length, map, false, All}
use Rattle.std.proofs.Common.{AllPairs, refl, sym, ◌∙◌, ap, subst, arith, append_assoc, Ok}
use Rattle.std.specs.Prelude.{Option, Some, None}
use Rattle.std.specs.List.{list_any}
use Rattle.std.proofs.lemmas.Bool.{le-leb, eq-eqb}
use Rattle.std.proofs.lemmas.List.{append-nil, length_push}
use Rattle.std.proofs.lemmas.List.Elements.{All-head, All-tail}
use Rattle.fixed_place.specs.declared.omega.TheConstants.{MOST_OMEGA}
use Rattle.candidate_roll.specs.Roll.{RollList}
use Rattle.input_text.specs.Token.{Item, Number, Minus, Text, Word}
use Rattle.blt_reader.specs.Poll.{Poll}
use Rattle.input_text.specs.Range.{IsIn}
use Rattle.blt_reader.specs.Blt.{IsBlt}
use Rattle.input_text.specs.Judged.{Judged, then_on, after, Progress, GoesOn, Ends, carried, closed}
use Rattle.blt_reader.specs.BltTable as blt
use Rattle.blt_reader.specs.Said.{of_a_roll}
use Rattle.input_text.proofs.Judgements.{refused, same_value, nonzero, to_range}
use Rattle.input_text.proofs.Tables.{in_parts, carried_is, place_of, carries, accepts_along}
use Rattle.input_text.proofs.Repeats.{not_before}
use Rattle.day_reader.specs.declared.keyword.Keyword.{Keyword}
use Rattle.day_reader.specs.declared.keyword.Keyword.TheVariants as key
use Rattle.day_reader.specs.declared.day.Day.{Day}
use Rattle.day_reader.specs.Keyword.{word, as_keyword}
use Rattle.day_reader.specs.Day.{AreDifferent, AreAllLots, lots_items, Scale, IsScale, MayBeScale, scale_items}
use Rattle.day_reader.specs.TeamTable.{TeamNumber}
use Rattle.day_reader.specs.DayTable.{at_lot, Head, Expected, InRoll, BehindTitle, Lot, BehindLots, Places}
use Rattle.day_reader.specs.DayTable.{BehindPlaces, Omega, BehindOmega, Teams, day_of, behind_title}
use Rattle.day_reader.specs.DayTable.{behind_head, behind_lots, behind_places, at_token, at_file_token}
use Rattle.day_reader.specs.Front.{head_items, IsHead, IsPlaces}
use Rattle.day_reader.specs.Shared.{Shared}
use Rattle.day_reader.proofs.SharedParts.{reads_roll_front}
use Rattle.day_reader.proofs.Keywords.{reads_word}
use Rattle.day_reader.proofs.DifferentNumbers.{one_is_missing}

abbrev pub Reads : Expected → List Item → Progress Expected Day → Type 0
Reads expected items next = after at_file_token (GoesOn expected) items ≡ Ok next

-- a word that is judged by this rule
word_read :
    (expected : Expected) (f : Keyword → Judged (Progress Expected Day)) (keyword : Keyword) (next : Progress Expected Day)
    (items : List Item) → at_token expected (word keyword) ≡ then_on (as_keyword (word keyword)) f → f keyword ≡ Ok next
    → after at_file_token (GoesOn expected) (word keyword ∷ items) ≡ after at_file_token next items
word_read expected f keyword next items rule e =
    ap (λ (j : Judged (Progress Expected Day)). then_on j (λ n. after at_file_token n items))
    (rule ∙ ap (λ (j : Judged Keyword). then_on j f) (reads_word keyword) ∙ e)

-- ---- the roll

-- what is expected in a day file where this is expected in its roll
abbrev pub roll_place : Progress blt.Expected Poll → Progress Expected Day
roll_place = place_of (λ e. GoesOn (InRoll e)) (λ poll. GoesOn (BehindTitle poll.roll))

carried_on :
    (next : Progress blt.Expected Poll)
    → carried {W = Day} (λ e. InRoll e) (λ (poll : Poll). BehindTitle poll.roll) (Ok next)
    ≡ Ok (roll_place next)
carried_on (GoesOn next) = refl
carried_on (Ends poll) = refl

goes_along :
    (expected next : Progress blt.Expected Poll) (item : Item) → blt.at_file_token of_a_roll expected item ≡ Ok next
    → at_file_token (roll_place expected) item ≡ Ok (roll_place next)
unfolding at_token
goes_along (GoesOn expected) next item e =
    ap (λ (j : Judged (Progress blt.Expected Poll)). carried {W = Day} (λ e. InRoll e)
    (λ (poll : Poll). BehindTitle poll.roll) j) e ∙ carried_on next
goes_along (Ends poll) next (Text text) e = ap (λ (p : Progress blt.Expected Poll). Ok (roll_place p)) (same_value e)
goes_along (Ends poll) next (Number n) e = absurd (refused e)
goes_along (Ends poll) next (Minus n) e = absurd (refused e)
goes_along (Ends poll) next (Word letters) e = absurd (refused e)

-- what the table of ballot files accepts of a roll, that of day files does
pub in_roll :
    (items : List Item) (first last : Progress blt.Expected Poll) → after (blt.at_file_token of_a_roll) first items ≡ Ok last
    → after at_file_token (roll_place first) items ≡ Ok (roll_place last)
in_roll = accepts_along (blt.at_file_token of_a_roll) at_file_token roll_place goes_along

pub reads_roll :
    Shared → (is : RollList) (items : List Item) → IsBlt 0 items (record { roll = is; lines = [] })
    → Reads (InRoll blt.Candidates) items (GoesOn (BehindTitle is))
reads_roll shared is items file =
    let poll : Poll = record { roll = is; lines = [] } in
    in_roll items (GoesOn blt.Candidates) (Ends poll) (reads_roll_front shared (Ends poll) items file)

-- ---- the lots

module _ (candidates : ℕ) where
  reads_more_lots :
      (more before : List ℕ) → All (IsIn candidates) more → AllPairs (λ a b. a ≢ b) (before ++ more)
      → after (closed (at_lot candidates)) (GoesOn before) (map Number more) ≡ Ok (GoesOn (before ++ more))
  reads_more_lots [] before each different = ap (λ (l : List ℕ). Ok (GoesOn l)) (sym (append-nil before))
  reads_more_lots (n ∷ more) before each different =
      let in_it = All-head (IsIn candidates) n more each in
      let regrouped = append_assoc before (n ∷ []) more in
      rw (nonzero n in_it.least, le-leb n candidates in_it.most, not_before before more n different)
      (reads_more_lots more (before ++ n ∷ []) (All-tail (IsIn candidates) n more each)
      (subst (AllPairs (λ a b. a ≢ b)) (sym regrouped) different)
      ∙ ap (λ (l : List ℕ). Ok (GoesOn l)) regrouped)

  reads_some_lots :
      (lots : List ℕ) → AreDifferent candidates lots
      → after (closed (at_lot candidates)) (GoesOn []) (map Number lots) ≡ Ok (GoesOn lots)
  reads_some_lots lots are = reads_more_lots lots [] are.in_range are.different

  lots_end :
      (lots : List ℕ) → length lots ≡ candidates → after (closed (at_lot candidates)) (GoesOn lots) (Number 0 ∷ [])
      ≡ Ok (Ends lots)
  lots_end lots all = rw (eq-eqb (length lots) candidates all) refl

  reads_all_lots :
      (lots : List ℕ) → AreAllLots candidates lots
      → after (closed (at_lot candidates)) (GoesOn []) (map Number lots ++ Number 0 ∷ []) ≡ Ok (Ends lots)
  reads_all_lots lots are =
      in_parts (closed (at_lot candidates)) (GoesOn []) (GoesOn lots) (map Number lots) (Number 0 ∷ [])
      (reads_some_lots lots are.numbers) ∙ lots_end lots are.all

  one_lot :
      (lots : List ℕ) (n : ℕ) (items : List Item) → IsIn candidates n → list_any (λ c. c == n) lots ≡ false
      → after (closed (at_lot candidates)) (GoesOn lots) (Number n ∷ items)
      ≡ after (closed (at_lot candidates)) (GoesOn (lots ++ n ∷ [])) items
  one_lot lots n items is new = rw (nonzero n is.least, le-leb n candidates is.most, new) refl

  abbrev LotsCanEnd : List ℕ → Type 0
  LotsCanEnd lots =
      (more : List Item) × (all : List ℕ)
      × (after (closed (at_lot candidates)) (GoesOn lots) more ≡ Ok (Ends all))

  and_one :
      (lots : List ℕ) (n : ℕ) → IsIn candidates n → list_any (λ c. c == n) lots ≡ false → LotsCanEnd (lots ++ n ∷ [])
      → LotsCanEnd lots
  and_one lots n is new rest = (Number n ∷ rest.0, rest.1, one_lot lots n rest.0 is new ∙ rest.2)

  -- lots can go on, by how many candidates are missing
  pub lots_can_end : (missing : ℕ) (lots : List ℕ) → length lots + missing ≡ candidates → LotsCanEnd lots
  lots_can_end zero lots counts = (Number 0 ∷ [], lots, lots_end lots (omega (arith, counts)))
  lots_can_end (suc missing) lots counts =
      let new = one_is_missing candidates lots (omega (arith, counts)) in
      and_one lots new.0 new.1 new.2
      (lots_can_end missing (lots ++ new.0 ∷ []) (omega (arith, counts, length_push lots new.0)))

module _ (is : RollList) where
  pub in_lots :
      (items : List Item) (first last : Progress (List ℕ) (List ℕ))
      → after (closed (at_lot (length is.names))) first items ≡ Ok last
      → after at_file_token (place_of (λ lots. GoesOn (Lot is lots)) (λ lots. GoesOn (BehindLots is lots)) first) items
      ≡ Ok (place_of (λ lots. GoesOn (Lot is lots)) (λ lots. GoesOn (BehindLots is lots)) last)
  unfolding at_token
  in_lots items =
      carries (at_lot (length is.names)) at_file_token (λ lots. GoesOn (Lot is lots))
      (λ lots. GoesOn (BehindLots is lots))
      (λ lots item. carried_is (λ more. Lot is more) (λ all. BehindLots is all) (at_lot (length is.names) lots item)) items

  pub lots_word :
      (items : List Item) → after at_file_token (GoesOn (BehindTitle is)) (word key.Lots ∷ items)
      ≡ after at_file_token (GoesOn (Lot is [])) items
  unfolding at_token
  lots_word items = word_read (BehindTitle is) (behind_title is) key.Lots (GoesOn (Lot is [])) items refl refl

  pub reads_begun_lots :
      (lots : List ℕ) → AreDifferent (length is.names) lots
      → Reads (BehindTitle is) (word key.Lots ∷ map Number lots) (GoesOn (Lot is lots))
  reads_begun_lots lots are =
      lots_word (map Number lots)
      ∙ in_lots (map Number lots) (GoesOn []) (GoesOn lots) (reads_some_lots (length is.names) lots are)

  pub reads_lots :
      (lots : List ℕ) → AreAllLots (length is.names) lots
      → Reads (BehindTitle is) (lots_items lots) (GoesOn (BehindLots is lots))
  reads_lots lots are =
      lots_word (map Number lots ++ Number 0 ∷ [])
      ∙ in_lots (map Number lots ++ Number 0 ∷ []) (GoesOn []) (Ends lots) (reads_all_lots (length is.names) lots are)

  pub behind_all_lots :
      (lots : List ℕ) (items : List Item) → AreAllLots (length is.names) lots
      → after at_file_token (GoesOn (BehindTitle is)) (lots_items lots ++ items)
      ≡ after at_file_token (GoesOn (BehindLots is lots)) items
  behind_all_lots lots items are =
      in_parts at_file_token (GoesOn (BehindTitle is)) (GoesOn (BehindLots is lots)) (lots_items lots) items
      (reads_lots lots are)

  -- ---- the places and omega

  module _ (lots : List ℕ) where
    pub places_word :
        (items : List Item) → after at_file_token (GoesOn (BehindLots is lots)) (word key.Places ∷ items)
        ≡ after at_file_token (GoesOn (Places is lots)) items
    unfolding at_token
    places_word items =
        word_read (BehindLots is lots) (behind_lots is lots) key.Places (GoesOn (Places is lots)) items refl
        refl

    pub reads_places :
        (places : ℕ) (items : List Item) → IsPlaces places
        → after at_file_token (GoesOn (BehindLots is lots)) (word key.Places ∷ Number places ∷ items)
        ≡ after at_file_token (GoesOn (BehindPlaces is lots places)) items
    unfolding at_token
    reads_places places items in_it =
        places_word (Number places ∷ items) ∙ rw (le-leb 6 places in_it.0, le-leb places 9 in_it.1) refl

    pub omega_word :
        (places : ℕ) (items : List Item)
        → after at_file_token (GoesOn (BehindPlaces is lots places)) (word key.Omega ∷ items)
        ≡ after at_file_token (GoesOn (Omega is lots places)) items
    unfolding at_token
    omega_word places items =
        word_read (BehindPlaces is lots places) (behind_places is lots places) key.Omega
        (GoesOn (Omega is lots places)) items refl refl

    pub reads_omega :
        (scale : Scale) (items : List Item) → IsScale scale
        → after at_file_token (GoesOn (BehindLots is lots)) (scale_items (Some scale) ++ items)
        ≡ after at_file_token (GoesOn (BehindOmega is lots scale)) items
    unfolding at_token
    reads_omega scale items in_it =
        reads_places scale.places (word key.Omega ∷ Number scale.omega ∷ items) (in_it.least_places, in_it.most_places)
        ∙ omega_word scale.places (Number scale.omega ∷ items)
        ∙ rw (to_range MOST_OMEGA scale.omega in_it.omega_in) refl

-- ---- the head

-- what is expected after a head
abbrev pub behind_scale : RollList → List ℕ → Option Scale → Expected
behind_scale is lots None = BehindLots is lots
behind_scale is lots (Some scale) = BehindOmega is lots scale

abbrev pub behind_it : Head → Expected
behind_it head = behind_scale head.roll head.lots head.scale

reads_scale :
    (is : RollList) (lots : List ℕ) (scale : Option Scale) (items : List Item) → MayBeScale scale
    → after at_file_token (GoesOn (BehindLots is lots)) (scale_items scale ++ items)
    ≡ after at_file_token (GoesOn (behind_scale is lots scale)) items
reads_scale is lots None items in_it = refl
reads_scale is lots (Some scale) items in_it = reads_omega is lots scale items in_it

pub reads_head :
    (head : Head) (items : List Item) → IsHead head
    → after at_file_token (GoesOn (BehindTitle head.roll)) (head_items head ++ items)
    ≡ after at_file_token (GoesOn (behind_it head)) items
reads_head head items is =
    ap (λ (l : List Item). after at_file_token (GoesOn (BehindTitle head.roll)) l)
    (append_assoc (lots_items head.lots) (scale_items head.scale) items)
    ∙ behind_all_lots head.roll head.lots (scale_items head.scale ++ items) is.lots
    ∙ reads_scale head.roll head.lots head.scale items is.scale

head_word :
    (is : RollList) (lots : List ℕ) (scale : Option Scale) (keyword : Keyword) (next : Progress Expected Day)
    (items : List Item)
    → behind_lots is lots keyword ≡ behind_head (record { roll = is; lots = lots; scale = None }) keyword
    → behind_head (record { roll = is; lots = lots; scale = scale }) keyword ≡ Ok next
    → after at_file_token (GoesOn (behind_scale is lots scale)) (word keyword ∷ items) ≡ after at_file_token next items
unfolding at_token
head_word is lots None keyword next items same e =
    word_read (BehindLots is lots) (behind_lots is lots) keyword next items refl (same ∙ e)
head_word is lots (Some scale) keyword next items same e =
    word_read (BehindOmega is lots scale)
    (behind_head (record { roll = is; lots = lots; scale = Some scale })) keyword next items
    refl e

pub first_team :
    (head : Head) (items : List Item) → after at_file_token (GoesOn (behind_it head)) (word key.Team ∷ items)
    ≡ after at_file_token (GoesOn (Teams head (TeamNumber []))) items
first_team head items =
    head_word head.roll head.lots head.scale key.Team (GoesOn (Teams head (TeamNumber []))) items refl refl

pub no_team : (head : Head) → Reads (behind_it head) (word key.End ∷ []) (Ends (day_of head []))
no_team head = head_word head.roll head.lots head.scale key.End (Ends (day_of head [])) [] refl refl
