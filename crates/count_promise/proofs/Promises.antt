-- What the sheet of a count promises is so.
use Rattle.std.proofs.Common.{◌≡◌, ℕ, ◌+◌, ◌*◌, ◌≤◌, Bool, List, [], ◌∷◌, ◌++◌, length, All, refl, ap, sym, subst, ◌≢◌}
use Rattle.std.specs.List.Sorted.{IsPermutation}
use Rattle.fixed_place.specs.Rounding.{scale}
use Rattle.candidate_roll.specs.Roll.{RollList}
use Rattle.candidate_roll.specs.declared.state.State.{State}
use Rattle.meek_rule.specs.Rule.{Rule}
use Rattle.meek_rule.specs.Situation.{opening}
use Rattle.meek_rule.specs.Row.{Row}
use Rattle.meek_count.specs.Laws.{IsElection}
use Rattle.meek_count.specs.Rows.{IsCountUnder}
use Rattle.rule_laws.specs.Coalition.{CoalitionsAreSeated, IsSolid, elected_members, left_over, running_members, whole_quota}
use Rattle.rule_laws.specs.NoTies.{HasNoTie, LotsBreakTiesAlone}
use Rattle.rule_laws.specs.Silent.{FirstVotesAreThoseHeard, HeardCoalitionsAreSeated, heard_count}
use Rattle.sheet_reader.specs.Laws.{FormSaysItsValues, SheetsHaveTheForm, values_of}
use Rattle.sheet_reader.specs.Values.{SheetList}
use Rattle.count_promise.specs.Laws.{IsSheetOfCount, NoLotMeansNoTie, OtherLotsSameSheet, PromisesHold, QuotaIsOfThoseHeard, SlackCoversAll}
use Rattle.count_promise.specs.Left.{slack}
use Rattle.count_promise.specs.Quota.{promised_quota, quota_of, votes_heard}
use Rattle.count_promise.proofs.Bounds.{slack_covers}
use Rattle.count_promise.proofs.NoTie.{none_said, says_none}

-- the values are those of the count
values_are :
    SheetsHaveTheForm → FormSaysItsValues
    → (rule : Rule) (omega : ℕ) (ballots : List (List ℕ)) (roll : RollList) (lots text : List ℕ)
    (v : SheetList) (is : IsSheetOfCount rule omega ballots roll lots text v)
    → v ≡ values_of roll (length ballots) is.sheet.0 is.sheet.1
values_are forms says rule units ballots roll lots text v is =
    says 9 text v _ is.election.places_from is.election.places_to is.values
    (forms rule 9 units ballots roll lots text is.sheet.0 is.sheet.1 is.election is.names is.sheet is.sheet.2)

-- A coalition needs no more than quotas of the first total, or of all ballots where there is no iteration.
seated_by_heard :
    CoalitionsAreSeated → FirstVotesAreThoseHeard → HeardCoalitionsAreSeated
    → (rule : Rule) (places omega : ℕ) (ballots coalition others : List (List ℕ)) (roll : RollList) (lots : List ℕ) (rows : List Row)
    (last : List State) (members : List Bool) (k over : ℕ)
    → IsElection places omega ballots roll lots → IsPermutation ballots (coalition ++ others)
    → IsCountUnder rule places omega ballots roll lots rows last
    → All (IsSolid (length roll.names) roll.withdrawn members) coalition
    → k ≤ running_members (length roll.names) roll.withdrawn members
    → All (λ row. left_over members row.step row ≤ over) rows
    → k * quota_of roll.seats (votes_heard (scale places) (length ballots) rows) + over ≤ length coalition * scale places
    → k ≤ elected_members (length roll.names) members last
seated_by_heard whole total heard rule places units ballots coalition others roll lots [] last members k over is moved
    counted solid running left enough =
    whole rule places units ballots coalition others roll lots [] last members k over is moved counted solid running left
    enough
seated_by_heard whole total heard rule places units ballots coalition others roll lots (row ∷ rows) last members k over is
    moved counted solid running left enough =
    heard rule places units ballots coalition others roll lots (row ∷ rows) last members k over is moved counted solid
    running left
    (subst (λ (m : ℕ). k * quota_of roll.seats m + over ≤ length coalition * scale places)
    (total rule places units ballots roll lots row rows last is counted) enough)

pub promises :
    CoalitionsAreSeated → FirstVotesAreThoseHeard → HeardCoalitionsAreSeated → SheetsHaveTheForm → FormSaysItsValues
    → PromisesHold
promises whole total heard forms says rule units ballots coalition others roll lots text v members k is moved =
    let rows = is.sheet.0 in
    let last = is.sheet.1 in
    subst (λ (w : SheetList).
    All (IsSolid (length w.names) roll.withdrawn members) coalition
    → k ≤ running_members (length w.names) roll.withdrawn members
    → k * promised_quota w + slack w.rows ≤ length coalition * scale 9
    → k ≤ elected_members (length w.names) members w.last)
    (sym (values_are forms says rule units ballots roll lots text v is))
    (λ solid running enough.
    seated_by_heard whole total heard rule 9 units ballots coalition others roll lots rows last members k (slack rows)
    is.election moved is.sheet.2 solid running
    (slack_covers rule (scale 9) ballots lots (opening (scale 9) units roll.seats roll.withdrawn) rows last
    members is.sheet.2) enough)

-- The quota of a first total is that of the ballots that rank somebody who runs.
of_total :
    FirstVotesAreThoseHeard
    → (rule : Rule) (places omega : ℕ) (ballots : List (List ℕ)) (roll : RollList) (lots : List ℕ) (rows : List Row) (last : List State)
    → IsElection places omega ballots roll lots → IsCountUnder rule places omega ballots roll lots rows last → rows ≢ []
    → quota_of roll.seats (votes_heard (scale places) (length ballots) rows)
    ≡ whole_quota (scale places) roll.seats (heard_count roll.withdrawn ballots)
of_total total rule places units ballots roll lots [] last is counted some = absurd (some refl)
of_total total rule places units ballots roll lots (row ∷ rows) last is counted some =
    ap (quota_of roll.seats) (total rule places units ballots roll lots row rows last is counted)

pub quota_heard : FirstVotesAreThoseHeard → SheetsHaveTheForm → FormSaysItsValues → QuotaIsOfThoseHeard
quota_heard total forms says rule units ballots roll lots text v is =
    subst (λ (w : SheetList). w.rows ≢ [] → promised_quota w ≡ whole_quota (scale 9) w.seats (heard_count roll.withdrawn ballots))
    (sym (values_are forms says rule units ballots roll lots text v is))
    (of_total total rule 9 units ballots roll lots is.sheet.0 is.sheet.1 is.election is.sheet.2)

pub covers : SlackCoversAll
covers rule places units ballots roll lots rows last members counted =
    slack_covers rule (scale places) ballots lots (opening (scale places) units roll.seats roll.withdrawn)
    rows last members counted

pub no_lot_no_tie : NoLotMeansNoTie
no_lot_no_tie text v form = (says_none (length v.names) v form.in_range.rows, none_said v)

pub other_lots : LotsBreakTiesAlone → SheetsHaveTheForm → FormSaysItsValues → OtherLotsSameSheet
other_lots ties forms says rule units ballots roll lots other text v is none order long =
    let rows = is.sheet.0 in
    let last = is.sheet.1 in
    let calm : All HasNoTie v.rows = says_none (length v.names) v is.values.in_range.rows none in
    let here : All HasNoTie rows =
    subst (λ (w : SheetList). All HasNoTie w.rows)
    (values_are forms says rule units ballots roll lots text v is) calm in
    (rows, last, ties rule 9 units ballots roll lots other rows last is.election order long is.sheet.2 here, is.sheet.3)
