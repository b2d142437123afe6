-- What holds in every count, where its sheet promises it.
use Rattle.std.specs.Prelude.{◌≡◌, ◌≢◌, ◌↔◌, ℕ, ◌*◌, ◌+◌, ◌≤◌, Bool, List, [], ◌++◌, length, All}
use Rattle.std.specs.List.Sorted.{IsPermutation}
use Rattle.fixed_place.specs.Rounding.{scale}
use Rattle.candidate_roll.specs.Roll.{RollList}
use Rattle.candidate_roll.specs.declared.state.State.{State}
use Rattle.lot_order.specs.Lots.{IsOrder}
use Rattle.meek_rule.specs.Rule.{Rule}
use Rattle.meek_rule.specs.Row.{Row}
use Rattle.meek_count.specs.Laws.{IsElection}
use Rattle.meek_count.specs.Rows.{IsCountUnder}
use Rattle.rule_laws.specs.Coalition.{IsSolid, elected_members, left_over, running_members, whole_quota}
use Rattle.rule_laws.specs.NoTies.{HasNoTie}
use Rattle.rule_laws.specs.Silent.{heard_count}
use Rattle.sheet_text.specs.Lines.{ended}
use Rattle.sheet_text.specs.Sheet.{IsSheetUnder}
use Rattle.sheet_reader.specs.Form.{HasForm}
use Rattle.sheet_reader.specs.Laws.{HasNames}
use Rattle.sheet_reader.specs.Values.{SheetList}
use Rattle.count_promise.specs.Left.{slack}
use Rattle.count_promise.specs.Quota.{promised_quota}
use Rattle.count_promise.specs.Lines.{no_lot, promise_text}

-- The text is the sheet of these values, and that of an election by a rule, at nine places.
pub record IsSheetOfCount (rule : Rule) (omega : ℕ) (ballots : List (List ℕ)) (roll : RollList) (lots text : List ℕ) (v : SheetList) : Type 0 where
  pub election : IsElection 9 omega ballots roll lots
  pub names : HasNames roll
  pub sheet : IsSheetUnder rule 9 omega ballots roll lots text
  pub values : HasForm 9 text v

-- Voters who rank the same candidates above all others, and are k quotas and the slack besides, have k of them elected, where so
-- many were not withdrawn. Ballots that rank nobody who runs ask for no greater quota. The slack is what `proportional within` names;
-- it is so too where a defeat with a great surplus makes it great.
abbrev pub PromisesHold : Type 0
PromisesHold =
    (rule : Rule) (omega : ℕ) (ballots coalition others : List (List ℕ)) (roll : RollList) (lots text : List ℕ) (v : SheetList)
    (members : List Bool) (k : ℕ)
    → IsSheetOfCount rule omega ballots roll lots text v
    → IsPermutation ballots (coalition ++ others)
    → All (IsSolid (length v.names) roll.withdrawn members) coalition
    → k ≤ running_members (length v.names) roll.withdrawn members
    → k * promised_quota v + slack v.rows ≤ length coalition * scale 9
    → k ≤ elected_members (length v.names) members v.last

-- Where the sheet has an iteration, its quota is that of the ballots that rank somebody who runs.
abbrev pub QuotaIsOfThoseHeard : Type 0
QuotaIsOfThoseHeard =
    (rule : Rule) (omega : ℕ) (ballots : List (List ℕ)) (roll : RollList) (lots text : List ℕ) (v : SheetList)
    → IsSheetOfCount rule omega ballots roll lots text v → v.rows ≢ []
    → promised_quota v ≡ whole_quota (scale 9) v.seats (heard_count roll.withdrawn ballots)

-- No iteration of a count leaves more over for any candidates than the slack.
abbrev pub SlackCoversAll : Type 0
SlackCoversAll =
    (rule : Rule) (places omega : ℕ) (ballots : List (List ℕ)) (roll : RollList) (lots : List ℕ) (rows : List Row) (last : List State) (members : List Bool)
    → IsCountUnder rule places omega ballots roll lots rows last
    → All (λ row. left_over members row.step row ≤ slack rows) rows

-- what is promised begins with the line that no lot decided anything
abbrev pub SaysNoLot : SheetList → Type 0
SaysNoLot v = (rest : List ℕ) × (promise_text v ≡ ended no_lot ++ rest)

-- It does exactly where no iteration has a tie.
abbrev pub NoLotMeansNoTie : Type 0
NoLotMeansNoTie = (text : List ℕ) (v : SheetList) → HasForm 9 text v → SaysNoLot v ↔ All HasNoTie v.rows

-- Where it does, each other order of lots gives the same sheet.
abbrev pub OtherLotsSameSheet : Type 0
OtherLotsSameSheet =
    (rule : Rule) (omega : ℕ) (ballots : List (List ℕ)) (roll : RollList) (lots other text : List ℕ) (v : SheetList)
    → IsSheetOfCount rule omega ballots roll lots text v → SaysNoLot v
    → IsOrder other → length other ≡ length lots
    → IsSheetUnder rule 9 omega ballots roll other text

-- Right at its limit: four solid voters have a quota of 3.333333334 votes and a slack of 0.666666666 besides, and elect one.
abbrev pub FourVotesForOne : Type 0
FourVotesForOne =
    (rule : Rule) (omega : ℕ) (ballots coalition others : List (List ℕ)) (roll : RollList) (lots text : List ℕ) (v : SheetList)
    (members : List Bool)
    → IsSheetOfCount rule omega ballots roll lots text v
    → IsPermutation ballots (coalition ++ others)
    → All (IsSolid (length v.names) roll.withdrawn members) coalition
    → 1 ≤ running_members (length v.names) roll.withdrawn members
    → length coalition ≡ 4 → promised_quota v ≡ 3333333334 → slack v.rows ≡ 666666666
    → 1 ≤ elected_members (length v.names) members v.last
