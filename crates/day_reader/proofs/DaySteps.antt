-- The parts of a day file, one after another.
use Rattle.std.proofs.Common.{◌≡◌, ℕ, List, [], length, Bool, true, false, refl, sym, ◌∙◌, ap, subst, Ok, Err}
use Rattle.std.specs.Prelude.{Result, IfOk, IfErr}
use Rattle.candidate_roll.specs.Roll.{RollList}
use Rattle.input_text.specs.declared.fault_kind.FaultKind.TheVariants.{Trailing}
use Rattle.input_text.specs.declared.input_fault.InputFault.{InputFault}
use Rattle.input_text.specs.declared.input_stop.InputStop.{InputStop}
use Rattle.input_text.specs.declared.input_stop.InputStop.TheVariants as stop
use Rattle.blt_reader.specs.declared.election.Election.{Election}
use Rattle.input_text.specs.Token.{Placed, AtEnd, AtFault, Scan, ends, with_front}
use Rattle.blt_reader.specs.Election.{poll}
use Rattle.input_text.specs.Judged.{GoesOn, Ends, ended, Stopped, outcome, reads}
use Rattle.blt_reader.specs.BltTable as blt
use Rattle.input_text.specs.Refusal.{IsAccepted}
use Rattle.blt_reader.specs.Said.{of_a_roll}
use Rattle.input_text.specs.Reads.{IfFault, Reads}
use Rattle.input_text.proofs.Tables.{behind_front, behind_inner, reads_front}
use Rattle.input_text.proofs.FrontRuling.{itself}
use Rattle.input_text.proofs.Reading.{inner_read, inner_stopped, inner_fails}
use Rattle.day_reader.specs.declared.scale.Scale as scaled
use Rattle.day_reader.specs.declared.script.Script.{Script}
use Rattle.day_reader.specs.declared.day.Day.{Day}
use Rattle.day_reader.specs.Day.{scale_of, by_number, IsDay}
use Rattle.day_reader.specs.TeamTable.{TeamNumber, at_teams}
use Rattle.day_reader.specs.DayTable.{at_lot, Head, Expected, InRoll, BehindTitle, Lot, BehindLots, Teams}
use Rattle.day_reader.specs.DayTable.{day_of, at_token, at_file_token}
use Rattle.day_reader.specs.Said.{said_by, IsDayRefusal, AcceptsDays, RefusesByTheRule}
use Rattle.day_reader.specs.Reads.{LeadsOrWants, team_or_end, IsScaled, next_team, with_scripts, ReadsScripts}
use Rattle.day_reader.specs.Reads.{IsAtEnd, SaysDay}
use Rattle.day_reader.proofs.Steps.{within}

-- ---- the teams

-- what is said of teams, as a day
abbrev as_day : Head → Result (List Script × Scan) Stopped → Result (Day × Scan) Stopped
as_day head read = behind_inner read (λ teams rest. Ok (day_of head teams, rest))

teams_in :
    (head : Head) (follows : Bool) (text : Scan) → team_or_end head follows text
    ≡ as_day head (next_team (length head.roll.names) [] follows text)
unfolding at_token
teams_in head true text =
    within (at_teams (length head.roll.names)) at_token (λ e. Teams head e)
    (λ teams. Ends (day_of head teams)) (λ e item. refl)
    (TeamNumber []) text
teams_in head false text = refl

module _ (candidates : ℕ) (follows : Bool) (old new : Scan) where
  pub teams_fail :
      (why : InputStop) → LeadsOrWants (next_team candidates [] follows old) (Err why)
      (λ (teams : List Script). Ok (teams, new)) new → ReadsScripts candidates follows old (Err why) new
  teams_fail (stop.Fault fault) is head same =
      teams_in head follows old ∙ ap (λ (n : ℕ). as_day head (next_team n [] follows old)) same
      ∙ ap (as_day head) is
  teams_fail stop.NoMemory is head same = tt

  pub teams_read :
      (teams : List Script) (result : Result (List Script) InputStop) → next_team candidates [] follows old ≡ Ok (teams, new)
      → IfOk result (λ scripts. scripts ≡ by_number teams) → IfErr result (λ why. why ≡ stop.NoMemory)
      → ReadsScripts candidates follows old result new
  teams_read teams (Ok scripts) is ordered memory head same =
      teams_in head follows old ∙ ap (λ (n : ℕ). as_day head (next_team n [] follows old)) same ∙ ap (as_day head) is
      ∙ ap (λ (s : List Script). Ok (with_scripts head s, new)) (sym ordered)
  teams_read teams (Err why) is ordered memory head same =
      subst (λ (w : InputStop). LeadsOrWants (team_or_end head follows old) (Err w)
      (λ (scripts : List Script). Ok (with_scripts head scripts, new)) new) (sym memory) tt

-- ---- up to the end

module _ (start : Scan) where
  abbrev pub GoesTo : Expected → Scan → Type 0
  GoesTo expected text = reads at_token (InRoll blt.Candidates) start ≡ reads at_token expected text

  pub roll_fails :
      (new : Scan) (why : InputStop) → Reads (blt.at_token of_a_roll) blt.Candidates poll start (Err why) new
      → Reads at_token (InRoll blt.Candidates) (λ (day : Day). day) start (Err why) new
  unfolding at_token
  roll_fails new why is =
      inner_fails (blt.at_token of_a_roll) at_token (λ e. InRoll e) (λ p. BehindTitle p.roll)
      (λ e item. refl) blt.Candidates start poll (λ (day : Day). day) (InRoll blt.Candidates) start new why refl is

  pub roll_read :
      (election : Election) (new : Scan) → reads (blt.at_token of_a_roll) blt.Candidates start ≡ Ok (poll election, new)
      → GoesTo (BehindTitle election.roll) new
  unfolding at_token
  roll_read election new is =
      inner_read (blt.at_token of_a_roll) at_token (λ e. InRoll e) (λ p. BehindTitle p.roll) (λ e item. refl)
      blt.Candidates start
      (poll election) new is

  -- where what follows is a day, the whole is
  pub goes_on_to :
      (expected : Expected) (old new : Scan) (result : Result Day InputStop) → GoesTo expected old
      → Reads at_token expected (λ (day : Day). day) old result new
      → Reads at_token (InRoll blt.Candidates) (λ (day : Day). day) start result new
  goes_on_to expected old new (Ok day) so_far is = so_far ∙ is
  goes_on_to expected old new (Err (stop.Fault fault)) so_far is = so_far ∙ is
  goes_on_to expected old new (Err stop.NoMemory) so_far is = tt

-- what leads nowhere says no day
pub leads_to_none :
    {A : Type 0} (expected : Expected) (old new : Scan) (why : InputStop) (onward : A → Result (Day × Scan) Stopped)
    → LeadsOrWants (reads at_token expected old) (Err why) onward new
    → Reads at_token expected (λ (day : Day). day) old (Err why) new
leads_to_none expected old new (stop.Fault fault) onward is = is
leads_to_none expected old new stop.NoMemory onward is = tt

module _ (roll : RollList) (candidates : ℕ) (all : length roll.names ≡ candidates) where
  pub order_read :
      (old mid new : Scan) (result : Result (List ℕ) InputStop)
      → reads at_token (BehindTitle roll) old ≡ reads at_token (Lot roll []) mid
      → Reads (at_lot candidates) [] (λ (lots : List ℕ). lots) mid result new
      → LeadsOrWants (reads at_token (BehindTitle roll) old) result (λ lots. reads at_token (BehindLots roll lots) new) new
  unfolding at_token
  order_read old mid new (Ok lots) so_far is =
      so_far ∙ inner_read (at_lot (length roll.names)) at_token (λ l. Lot roll l) (λ l. BehindLots roll l) (λ e item. refl)
      [] mid lots new
      (subst (λ n. reads (at_lot n) [] mid ≡ Ok (lots, new)) (sym all) is)
  order_read old mid new (Err (stop.Fault fault)) so_far is =
      so_far
      ∙ inner_stopped (at_lot (length roll.names)) at_token (λ l. Lot roll l) (λ l. BehindLots roll l)
      (λ e item. refl)
      [] mid (record { fault = fault; rest = new })
      (subst (λ n. reads (at_lot n) [] mid ≡ Err (record { fault = fault; rest = new })) (sym all) is)
  order_read old mid new (Err stop.NoMemory) so_far is = tt

  module _ (lots : List ℕ) (old mid new : Scan) (read : scaled.Scale) (is : IsScaled old read mid) where
    pub scripts_fail :
        {A : Type 0} (why : InputStop) (onward : A → Result (Day × Scan) Stopped)
        → ReadsScripts candidates read.team_follows mid (Err why) new
        → LeadsOrWants (reads at_token (BehindLots roll lots) old) (Err why) onward new
    scripts_fail (stop.Fault fault) onward scripts =
        is.same roll lots ∙ scripts (record { roll = roll; lots = lots; scale = is.scale }) all
    scripts_fail stop.NoMemory onward scripts = tt

    pub scripts_read : (scripts : List Script) → ReadsScripts candidates read.team_follows mid (Ok scripts) new
        → reads at_token (BehindLots roll lots) old
        ≡ Ok (
          record
              { roll = roll; lots = lots; places = read.places; omega = read.omega; scripts = scripts },
          new,
        )
    scripts_read scripts found =
        is.same roll lots ∙ found (record { roll = roll; lots = lots; scale = is.scale }) all
        ∙ ap (λ (n : ℕ). Ok (
          record {
            roll = roll;
            lots = lots;
            places = n;
            omega = (scale_of is.scale).omega;
            scripts = scripts;
          },
          new,
        )) (sym is.places)
        ∙ ap (λ (n : ℕ). Ok
        (record { roll = roll; lots = lots; places = read.places; omega = n; scripts = scripts }, new))
        (sym is.omega)

-- ---- after the end

abbrev Behind : Day → Scan → Result Day InputFault
Behind day text = outcome at_file_token ended (Ends day) text.tokens text.ending

pub trailing :
    (old new : Scan) (token : Placed) → old ≡ with_front token new
    → IsAtEnd old (Err (record { kind = Trailing; at = token.at }))
trailing old new token given day = ap (Behind day) given

pub well_ended : (old : Scan) (at : ℕ) → old ≡ ends (AtEnd at) → IsAtEnd old (Ok tt)
well_ended old at is day = ap (Behind day) is

pub faulted : (old : Scan) (fault : InputFault) → old ≡ ends (AtFault fault) → IsAtEnd old (Err fault)
faulted old fault is day = ap (Behind day) is

-- ---- the whole file

in_two : (text : Scan) → said_by text ≡ behind_front (reads at_token (InRoll blt.Candidates) text) Behind
in_two text =
    reads_front at_token at_file_token ended GoesOn Ends (λ s item. itself at_token (at_token s item))
    (λ s. refl) text.tokens text.ending (InRoll blt.Candidates)

pub says_all :
    (text rest : Scan) (day : Day) → reads at_token (InRoll blt.Candidates) text ≡ Ok (day, rest) → IsAtEnd rest (Ok tt)
    → SaysDay (said_by text) (Ok day)
says_all text rest day is end = in_two text ∙ ap (λ (r : Result (Day × Scan) Stopped). behind_front r Behind) is ∙ end day

pub says_trailing :
    (text rest : Scan) (day : Day) (fault : InputFault) → reads at_token (InRoll blt.Candidates) text ≡ Ok (day, rest)
    → IsAtEnd rest (Err fault) → SaysDay (said_by text) (Err (stop.Fault fault))
says_trailing text rest day fault is end =
    in_two text ∙ ap (λ (r : Result (Day × Scan) Stopped). behind_front r Behind) is ∙ end day

pub says_front :
    (text rest : Scan) (why : InputStop) → Reads at_token (InRoll blt.Candidates) (λ (day : Day). day) text (Err why) rest
    → SaysDay (said_by text) (Err why)
says_front text rest (stop.Fault fault) is = in_two text ∙ ap (λ (r : Result (Day × Scan) Stopped). behind_front r Behind) is
says_front text rest stop.NoMemory is = tt

-- ---- what is answered, by the laws

pub says_day :
    AcceptsDays → (text : Scan) (result : Result Day InputStop) → SaysDay (said_by text) result
    → IfOk result (λ day. IsAccepted IsDay text day)
says_day law text (Ok day) is = (law text day).0 is
says_day law text (Err why) is = tt

pub refuses_day :
    RefusesByTheRule → (text : Scan) (result : Result Day InputStop) → SaysDay (said_by text) result
    → IfFault result (λ fault. IsDayRefusal text fault)
refuses_day law text (Ok day) is = tt
refuses_day law text (Err (stop.Fault fault)) is = (law text fault).0 is
refuses_day law text (Err stop.NoMemory) is = tt
