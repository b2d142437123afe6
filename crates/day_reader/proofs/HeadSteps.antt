-- What is between the lots and the first team, state by state: the places, omega, and the word of a team or of the end.
use Rattle.std.proofs.Common.{◌≡◌, ℕ, List, Bool, refl, sym, ◌∙◌, ap, Ok, Err}
use Rattle.std.specs.Prelude.{Some, None, Result}
use Rattle.fixed_place.specs.declared.omega.TheConstants.{MOST_OMEGA}
use Rattle.candidate_roll.specs.Roll.{RollList}
use Rattle.input_text.specs.declared.fault_kind.FaultKind.TheVariants.{WordExpected, BadPlaces, BadOmega}
use Rattle.input_text.specs.declared.input_fault.InputFault.{InputFault}
use Rattle.input_text.specs.Token.{Item, Scan, with_front}
use Rattle.input_text.specs.Judged.{Judged, then_on, GoesOn, reads}
use Rattle.input_text.specs.Reads.{Accepts}
use Rattle.input_text.proofs.Judgements.{refused, accepted, same_value, same_kind}
use Rattle.day_reader.specs.declared.keyword.Keyword.{Keyword}
use Rattle.day_reader.specs.declared.keyword.Keyword.TheVariants as key
use Rattle.day_reader.specs.declared.scale.Scale as scaled
use Rattle.day_reader.specs.Keyword.{word, as_keyword}
use Rattle.day_reader.specs.Day.{Scale}
use Rattle.day_reader.specs.CallTable.{as_between}
use Rattle.day_reader.specs.DayTable.{Head, BehindLots, Places, BehindPlaces, Omega, BehindOmega}
use Rattle.day_reader.specs.DayTable.{behind_head, behind_lots, behind_places, at_token}
use Rattle.day_reader.specs.Reads.{team_or_end, BeginsTeam, ReadsPlaces, ReadsScale}
use Rattle.day_reader.proofs.States.{State, read_at, out_of_place, is_word}

-- ---- the states

abbrev pub as_places : Item → Judged ℕ
as_places = as_between 6 9 BadPlaces

abbrev pub as_omega : Item → Judged ℕ
as_omega = as_between 1 MOST_OMEGA BadOmega

module _ (roll : RollList) (lots : List ℕ) where
  pub lots_rule :
      (item : Item) → at_token (BehindLots roll lots) item ≡ then_on (as_keyword item) (behind_lots roll lots)
  unfolding at_token
  lots_rule item = refl

  -- the word of the places, of a team or of the end, after the lots
  abbrev pub behind_the_lots : State Keyword
  behind_the_lots = record {
    expected = BehindLots roll lots;
    judge = as_keyword;
    leads = behind_lots roll lots;
    rule = lots_rule;
  }

  pub places_rule :
      (item : Item)
      → at_token (Places roll lots) item ≡ then_on (as_places item) (λ n. Ok (GoesOn (BehindPlaces roll lots n)))
  unfolding at_token
  places_rule item = refl

  -- the places after their word
  abbrev pub at_places : State ℕ
  at_places = record {
    expected = Places roll lots;
    judge = as_places;
    leads = λ n. Ok (GoesOn (BehindPlaces roll lots n));
    rule = places_rule;
  }

  module _ (places : ℕ) where
    pub omega_word_rule :
        (item : Item)
        → at_token (BehindPlaces roll lots places) item ≡ then_on (as_keyword item) (behind_places roll lots places)
    unfolding at_token
    omega_word_rule item = refl

    -- the word `omega` after the places
    abbrev pub behind_the_places : State Keyword
    behind_the_places = record {
      expected = BehindPlaces roll lots places;
      judge = as_keyword;
      leads = behind_places roll lots places;
      rule = omega_word_rule;
    }

    pub omega_rule :
        (item : Item) → at_token (Omega roll lots places) item
        ≡ then_on (as_omega item) (λ n. Ok (GoesOn (BehindOmega roll lots (record { places = places; omega = n }))))
    unfolding at_token
    omega_rule item = refl

    -- omega after its word
    abbrev pub at_omega : State ℕ
    at_omega = record {
      expected = Omega roll lots places;
      judge = as_omega;
      leads = λ n. Ok (GoesOn (BehindOmega roll lots (record { places = places; omega = n })));
      rule = omega_rule;
    }

  module _ (scale : Scale) where
    abbrev pub Scaled : Head
    Scaled = record { roll = roll; lots = lots; scale = Some scale }

    pub head_rule :
        (item : Item) → at_token (BehindOmega roll lots scale) item ≡ then_on (as_keyword item) (behind_head Scaled)
    unfolding at_token
    head_rule item = refl

    -- the word of a team or of the end, after omega
    abbrev pub behind_the_omega : State Keyword
    behind_the_omega = record {
      expected = BehindOmega roll lots scale;
      judge = as_keyword;
      leads = behind_head Scaled;
      rule = head_rule;
    }

  -- ---- words that may not stand there

  -- another word than that of the places is the first after a head without a scale
  pub not_places :
      (keyword : Keyword) → (keyword ≡ key.Places → ⊥)
      → behind_lots roll lots keyword ≡ behind_head (record { roll = roll; lots = lots; scale = None }) keyword
  not_places key.Places not = absurd (not refl)
  not_places keyword not = refl

  -- another word than `omega` may not stand after the places
  pub no_omega :
      (places : ℕ) (keyword : Keyword) → (keyword ≡ key.Omega → ⊥)
      → behind_places roll lots places keyword ≡ Err WordExpected
  no_omega places key.Omega not = absurd (not refl)
  no_omega places keyword not = refl

-- ---- a team or the end

-- A word in a state that goes on as after this head.
module _ (head : Head) (state : State Keyword) {old new : Scan} where
  -- the word of a team leads to the first team, and that of the end to a day without teams
  pub head_leads :
      (keyword : Keyword) (more : Bool) (is : Accepts state.judge old keyword new)
      → state.leads keyword ≡ behind_head head keyword → BeginsTeam keyword is.token.at (Ok more)
      → reads at_token state.expected old ≡ team_or_end head more new
  head_leads key.Team more is same begins =
      read_at state is same ∙ ap (λ (b : Bool). team_or_end head b new) (sym (same_value begins))
  head_leads key.End more is same begins =
      read_at state is same ∙ ap (λ (b : Bool). team_or_end head b new) (sym (same_value begins))
  head_leads keyword more is same begins = absurd (accepted begins)

  refused_word :
      (keyword : Keyword) (fault : InputFault) (is : Accepts state.judge old keyword new)
      → state.leads keyword ≡ Err WordExpected
      → ◌≡◌ {A = Result Bool InputFault} (Err fault) (Err (record { kind = WordExpected; at = is.token.at }))
      → reads at_token state.expected old ≡ Err (record { fault = fault; rest = new })
  refused_word keyword fault is refuses same =
      out_of_place state is refuses
      ∙ ap (λ (why : InputFault). Err (record { fault = why; rest = new })) (sym (same_kind same))

  -- any other word may not stand there
  pub head_fails :
      (keyword : Keyword) (fault : InputFault) (is : Accepts state.judge old keyword new)
      → state.leads keyword ≡ behind_head head keyword → BeginsTeam keyword is.token.at (Err fault)
      → reads at_token state.expected old ≡ Err (record { fault = fault; rest = new })
  head_fails key.Team fault is same begins = absurd (refused begins)
  head_fails key.End fault is same begins = absurd (refused begins)
  head_fails keyword fault is same begins = refused_word keyword fault is same begins

-- ---- after the lots

-- the word of the places leads to the places
pub reads_scale_part :
    (old mid new : Scan) (keyword : Keyword) (at : ℕ) → old ≡ with_front (record { at = at; item = word keyword }) mid
    → keyword ≡ key.Places → (result : Result scaled.Scale InputFault) → ReadsPlaces mid result new
    → ReadsScale old result new
reads_scale_part old mid new keyword at given is result found = by_result result found
  where
    to_places :
        (roll : RollList) (lots : List ℕ) → reads at_token (BehindLots roll lots) old ≡ reads at_token (Places roll lots) mid
    to_places roll lots = read_at (behind_the_lots roll lots) (is_word keyword given) (ap (behind_lots roll lots) is)

    by_result : (result : Result scaled.Scale InputFault) → ReadsPlaces mid result new → ReadsScale old result new
    by_result (Ok read) found = record {
      scale = Some (record { places = read.places; omega = read.omega });
      places = refl;
      omega = refl;
      same = λ roll lots. to_places roll lots ∙ found.same roll lots;
    }
    by_result (Err fault) found = λ roll lots. to_places roll lots ∙ found roll lots
