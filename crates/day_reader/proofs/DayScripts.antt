-- What the scripts of a day are.
use Rattle.std.proofs.Common.{◌≡◌, ◌≤◌, ℕ, List, length, map, All, sym, subst, arith, Ok, Err}
use Rattle.std.specs.Prelude.{Result, IfOk, Option, Some, None, count_by}
use Rattle.std.proofs.lemmas.List.{get_or-map, length-map}
use Rattle.std.proofs.lemmas.List.Sorted.{All-permutation, sum_by-IsPermutation}
use Rattle.batch_core.specs.declared.change.Change.TheVariants.{Enter, Correct, Withdraw}
use Rattle.batch_core.specs.declared.call.Call.{Call}
use Rattle.batch_core.specs.declared.call.Call.TheVariants.{Change, Freeze, Strike}
use Rattle.input_text.specs.declared.input_stop.InputStop.{InputStop}
use Rattle.input_text.specs.Token.{Item, Scan}
use Rattle.input_text.specs.Refusal.{items_of}
use Rattle.day_reader.specs.declared.script.Script.{Script}
use Rattle.day_reader.specs.declared.day.Day.{Day}
use Rattle.day_reader.specs.Call.{IsCall, is_freeze}
use Rattle.day_reader.specs.Day.{AreDifferent, MayBeScale, Scale, scale_of, by_number, IsDay}
use Rattle.day_reader.specs.Said.{said_by, IsAnswerable, AreScripts, AcceptsDays}
use Rattle.day_reader.specs.Reads.{SaysDay}
use Rattle.day_reader.proofs.TeamLists.{team_of}
use Rattle.day_reader.proofs.ByNumber.{is_moved, is_rising}
use Rattle.day_reader.proofs.DaySteps.{says_day}

answerable : (candidates : ℕ) (call : Call) → IsCall candidates call → IsAnswerable candidates call
answerable candidates (Change (Enter batch all)) is = ((is.0.least, is.0.most), (is.1.candidates_are, is.1.lines.bounded))
answerable candidates (Change (Correct batch revision all)) is =
    ((is.0.least, is.0.most), (is.1.least, is.1.most), (is.2.candidates_are, is.2.lines.bounded))
answerable candidates (Change (Withdraw batch revision)) is = ((is.0.least, is.0.most), (is.1.least, is.1.most))
answerable candidates Freeze is = tt
answerable candidates (Strike candidate) is = (is.least, is.most)

numbers_in :
    (teams : List Script) → AreDifferent 16 (map team_of teams)
    → All (λ script. (1 ≤ script.team) × (script.team ≤ 16)) teams
numbers_in teams are k d inside =
    let is = are.in_range k 0 (omega (arith, inside, length-map teams team_of)) in
    let same = get_or-map team_of teams k d 0 inside in
    (omega (arith, is.least, same), omega (arith, is.most, same))

scripts_are : (items : List Item) (day : Day) → IsDay items day → AreScripts (length day.roll.names) day.scripts
scripts_are items day is =
    let teams = is.teams in
    let are = is.teams_are in
    let moved = is_moved teams are.numbers in
    let candidates = length day.roll.names in
    subst (AreScripts candidates) (sym is.scripts) (record {
      numbers =
          All-permutation (λ (s : Script). (1 ≤ s.team) × (s.team ≤ 16)) teams (by_number teams) moved
          (numbers_in teams are.numbers);
      rising = is_rising teams are.numbers;
      calls =
          All-permutation (λ (s : Script). All (IsAnswerable candidates) s.calls) teams (by_number teams) moved
          (λ k d inside. λ i e there. answerable candidates _ (are.calls k d inside i e there));
      few_freezes =
          omega (
            arith,
            are.few_freezes,
            sum_by-IsPermutation (λ (s : Script). count_by is_freeze s.calls) teams (by_number teams)
                moved,
          );
    })

places_in :
    (scale : Option Scale) → MayBeScale scale → (6 ≤ (scale_of scale).places) × ((scale_of scale).places ≤ 9)
places_in (Some scale) is = (is.least_places, is.most_places)
places_in None is = (omega arith, omega arith)

module _ (law : AcceptsDays) (text : Scan) where
  -- what holds of each day that a text says, holds of an answer
  of_day :
      (P : Day → Type 0) → ((items : List Item) (day : Day) → IsDay items day → P day) → (result : Result Day InputStop)
      → SaysDay (said_by text) result → IfOk result P
  of_day P holds (Ok day) is = holds (items_of text.tokens) day (says_day law text (Ok day) is).file
  of_day P holds (Err why) is = tt

  pub has_scripts :
      (result : Result Day InputStop) → SaysDay (said_by text) result
      → IfOk result (λ day. AreScripts (length day.roll.names) day.scripts)
  has_scripts = of_day (λ day. AreScripts (length day.roll.names) day.scripts) scripts_are

  pub has_lots :
      (result : Result Day InputStop) → SaysDay (said_by text) result
      → IfOk result (λ day. length day.lots ≡ length day.roll.names)
  has_lots = of_day (λ day. length day.lots ≡ length day.roll.names) (λ items day is. is.lots.all)

  pub has_places :
      (result : Result Day InputStop) → SaysDay (said_by text) result
      → IfOk result (λ day. (6 ≤ day.places) × (day.places ≤ 9))
  has_places =
      of_day (λ day. (6 ≤ day.places) × (day.places ≤ 9))
      (λ items day is. subst (λ n. (6 ≤ n) × (n ≤ 9)) (sym is.places) (places_in is.scale is.scale_in))
