-- The table of teams accepts all teams, and each front part of teams can go on to their end.
use Rattle.std.proofs.Common.{◌≡◌, ◌≢◌, ℕ, ◌+◌, ◌<◌, ◌≤◌, Bool, true, false, not, List, [], ◌∷◌, ◌++◌, length}
use Rattle.std.proofs.Common.{map, All, AllPairs, refl, sym, ◌∙◌, ap, subst, arith, append_assoc, Ok}
use Rattle.std.specs.Prelude.{count_by}
use Rattle.std.specs.List.{flat_map}
use Rattle.std.proofs.lemmas.Bool.{lt-ltb}
use Rattle.std.proofs.lemmas.List.{append-nil, map-append, length-append, length-map, get_or_append_left}
use Rattle.std.proofs.lemmas.List.Elements.{All-head, All-tail}
use Rattle.std.proofs.lemmas.List.Sums.{sum_by-append, sum_by-cons}
use Rattle.batch_core.specs.declared.change.Change.TheVariants.{Enter, Correct, Withdraw}
use Rattle.batch_core.specs.declared.call.Call.{Call}
use Rattle.batch_core.specs.declared.call.Call.TheVariants.{Change, Freeze, Strike}
use Rattle.input_text.specs.Token.{Item, Number}
use Rattle.input_text.specs.Range.{IsIn}
use Rattle.blt_reader.specs.Blt.{ballots}
use Rattle.input_text.specs.Judged.{Judged, then_on, after, Progress, GoesOn, Ends, closed}
use Rattle.blt_reader.specs.Front.{begun}
use Rattle.blt_reader.specs.Said.{ExpectsLinesRightly}
use Rattle.input_text.proofs.Judgements.{to_range}
use Rattle.input_text.proofs.Tables.{in_parts, carried_is, place_of, carries}
use Rattle.input_text.proofs.Repeats.{not_before}
use Rattle.day_reader.specs.declared.keyword.Keyword.{Keyword}
use Rattle.day_reader.specs.declared.keyword.Keyword.TheVariants as key
use Rattle.day_reader.specs.declared.script.Script.{Script}
use Rattle.day_reader.specs.Keyword.{word}
use Rattle.day_reader.specs.Call.{call_items, IsCall, is_freeze, freezes}
use Rattle.day_reader.specs.Day.{AreDifferent, team_items, AreTeams}
use Rattle.day_reader.specs.CallTable.{is_between, InCall, EnterBatch, CorrectBatch, WithdrawBatch}
use Rattle.day_reader.specs.CallTable.{CorrectRevision, WithdrawRevision, EnterLines, CorrectLines}
use Rattle.day_reader.specs.CallTable.{StrikeCandidate, at_call}
use Rattle.day_reader.specs.TeamTable.{InTeams, TeamNumber, InTeam, WithinCall, stands, no_calls, with_call}
use Rattle.day_reader.specs.TeamTable.{and_team, in_team, at_teams}
use Rattle.day_reader.specs.Front.{begun_call, IsBegunCall, AreBegunTeams}
use Rattle.day_reader.proofs.Keywords.{reads_word}
use Rattle.day_reader.proofs.DifferentNumbers.{at_most, one_is_missing}
use Rattle.day_reader.proofs.TeamLists.{team_of, all_before, at_last, one_if, stands_number, freezes_push, freezes_call}
use Rattle.day_reader.proofs.CallCompleteness as call

-- a number that differs from all after it and before it
number_free :
    (before : List Script) (script : Script) → AreDifferent 16 (map team_of (and_team before script))
    → stands before script.team ≡ false
number_free before script are = sym (stands_number before script.team)
    ∙ not_before (map team_of before) [] script.team
    (subst (AllPairs (λ a b. a ≢ b)) (map-append team_of before (script ∷ [])) are.different)

module _ (rightly : ExpectsLinesRightly) (candidates : ℕ) where
  -- a front part of teams
  front_of_teams : (before behind : List Script) → AreTeams candidates (before ++ behind) → AreTeams candidates before
  front_of_teams before behind are =
      let different = subst (AreDifferent 16) (map-append team_of before behind) are.numbers in
      record {
        numbers = record {
          in_range = all_before (IsIn 16) (map team_of before) (map team_of behind) different.in_range;
          different =
              λ i j d first second same. different.different i j d first
              (omega (arith, second, length-append (map team_of before) (map team_of behind)))
              (get_or_append_left (map team_of before) (map team_of behind) d i (omega (arith, first, second)) ∙ same
              ∙ sym (get_or_append_left (map team_of before) (map team_of behind) d j second));
        };
        calls = all_before (λ (s : Script). All (IsCall candidates) s.calls) before behind are.calls;
        few_freezes =
            omega (
              arith,
              are.few_freezes,
              sum_by-append (λ (s : Script). count_by is_freeze s.calls) before behind,
            );
      }

  abbrev Table : Progress InTeams (List Script) → Item → Judged (Progress InTeams (List Script))
  Table = closed (at_teams candidates)

  abbrev pub ReadsTeams : InTeams → List Item → Progress InTeams (List Script) → Type 0
  ReadsTeams expected items next = after Table (GoesOn expected) items ≡ Ok next

  module _ (before : List Script) (script : Script) where
    pub word_read :
        (keyword : Keyword) (next : Progress InTeams (List Script)) (items : List Item)
        → in_team before script keyword ≡ Ok next
        → after Table (GoesOn (InTeam before script)) (word keyword ∷ items) ≡ after Table next items
    unfolding at_teams
    word_read keyword next items e =
        ap (λ (j : Judged Keyword). then_on (then_on j (in_team before script)) (λ n. after Table n items))
        (reads_word keyword)
        ∙ ap (λ (j : Judged (Progress InTeams (List Script))). then_on j (λ n. after Table n items)) e

    -- ---- a call

    in_call :
        (items : List Item) (start last : Progress InCall Call) → after (closed (at_call candidates)) start items ≡ Ok last
        → after Table (place_of (λ e. GoesOn (WithinCall before script e))
        (λ c. GoesOn (InTeam before (with_call script c))) start) items
        ≡ Ok (place_of (λ e. GoesOn (WithinCall before script e)) (λ c. GoesOn (InTeam before (with_call script c))) last)
    unfolding at_teams
    in_call items =
        carries (at_call candidates) Table (λ e. GoesOn (WithinCall before script e))
        (λ c. GoesOn (InTeam before (with_call script c)))
        (λ e item. carried_is (λ more. WithinCall before script more)
        (λ c. InTeam before (with_call script c)) (at_call candidates e item)) items

    begins :
        (keyword : Keyword) (first expected : InCall) (items : List Item)
        → in_team before script keyword ≡ Ok (GoesOn (WithinCall before script first))
        → call.ReadsCall rightly candidates first items (GoesOn expected)
        → ReadsTeams (InTeam before script) (word keyword ∷ items) (GoesOn (WithinCall before script expected))
    begins keyword first expected items e read =
        word_read keyword (GoesOn (WithinCall before script first)) items e
        ∙ in_call items (GoesOn first) (GoesOn expected) read

    whole :
        (keyword : Keyword) (first : InCall) (found : Call) (items : List Item)
        → in_team before script keyword ≡ Ok (GoesOn (WithinCall before script first))
        → call.ReadsCall rightly candidates first items (Ends found)
        → ReadsTeams (InTeam before script) (word keyword ∷ items) (GoesOn (InTeam before (with_call script found)))
    whole keyword first found items e read =
        word_read keyword (GoesOn (WithinCall before script first)) items e ∙ in_call items (GoesOn first) (Ends found) read

    pub reads_begun_call :
        (expected : InCall) → IsBegunCall candidates expected
        → ReadsTeams (InTeam before script) (begun_call expected) (GoesOn (WithinCall before script expected))
    reads_begun_call EnterBatch is = begins key.Enter EnterBatch EnterBatch [] refl refl
    reads_begun_call CorrectBatch is = begins key.Correct CorrectBatch CorrectBatch [] refl refl
    reads_begun_call WithdrawBatch is = begins key.Withdraw WithdrawBatch WithdrawBatch [] refl refl
    reads_begun_call (CorrectRevision batch) is =
        begins key.Correct CorrectBatch (CorrectRevision batch) (Number batch ∷ []) refl
        (call.reads_correct_batch rightly candidates batch is)
    reads_begun_call (WithdrawRevision batch) is =
        begins key.Withdraw WithdrawBatch (WithdrawRevision batch) (Number batch ∷ []) refl
        (call.reads_withdraw_batch rightly candidates batch is)
    reads_begun_call (EnterLines batch lines) is =
        begins key.Enter EnterBatch (EnterLines batch lines) (Number batch ∷ begun lines) refl
        (call.reads_enter_lines rightly candidates batch lines is)
    reads_begun_call (CorrectLines batch revision lines) is =
        begins key.Correct CorrectBatch (CorrectLines batch revision lines)
        (Number batch ∷ Number revision ∷ begun lines) refl
        (call.reads_correct_lines rightly candidates batch revision lines is)
    reads_begun_call StrikeCandidate is = begins key.Strike StrikeCandidate StrikeCandidate [] refl refl

    reads_freeze :
        freezes (and_team before script) < 8 → in_team before script key.Freeze
        ≡ Ok (GoesOn (InTeam before (with_call script Freeze)))
    reads_freeze few = rw (lt-ltb (freezes (and_team before script)) 8 few) refl

    reads_call :
        (found : Call) → IsCall candidates found → freezes (and_team before script) + one_if (is_freeze found) ≤ 8
        → ReadsTeams (InTeam before script) (call_items found) (GoesOn (InTeam before (with_call script found)))
    reads_call (Change (Enter batch all)) is few =
        whole key.Enter EnterBatch (Change (Enter batch all)) (Number batch ∷ ballots all.lines) refl
        (call.reads_enter rightly candidates batch all is.0 is.1)
    reads_call (Change (Correct batch revision all)) is few =
        whole key.Correct CorrectBatch (Change (Correct batch revision all))
        (Number batch ∷ Number revision ∷ ballots all.lines) refl
        (call.reads_correct rightly candidates batch revision all is.0 is.1 is.2)
    reads_call (Change (Withdraw batch revision)) is few =
        whole key.Withdraw WithdrawBatch (Change (Withdraw batch revision)) (Number batch ∷ Number revision ∷ []) refl
        (call.reads_withdraw rightly candidates batch revision is.0 is.1)
    reads_call Freeze is few =
        word_read key.Freeze (GoesOn (InTeam before (with_call script Freeze))) []
        (reads_freeze (omega (arith, few)))
    reads_call (Strike candidate) is few =
        whole key.Strike StrikeCandidate (Strike candidate) (Number candidate ∷ []) refl
        (call.reads_strike rightly candidates candidate is)

  -- ---- a team

  abbrev with_calls : Script → List Call → Script
  with_calls script calls = record script { calls = script.calls ++ calls }

  reads_calls :
      (more : List Call) (before : List Script) (script : Script) → All (IsCall candidates) more
      → freezes (and_team before script) + count_by is_freeze more ≤ 8
      → ReadsTeams (InTeam before script) (flat_map call_items more) (GoesOn (InTeam before (with_calls script more)))
  reads_calls [] before script each few =
      ap (λ (calls : List Call). Ok (GoesOn (InTeam before (record script { calls = calls }))))
      (sym (append-nil script.calls))
  reads_calls (one ∷ more) before script each few =
      let all = sum_by-cons (λ (c : Call). one_if (is_freeze c)) one more in
      in_parts Table (GoesOn (InTeam before script)) (GoesOn (InTeam before (with_call script one)))
      (call_items one) (flat_map call_items more)
      (reads_call before script one (All-head (IsCall candidates) one more each) (omega (arith, few, all)))
      ∙ reads_calls more before (with_call script one) (All-tail (IsCall candidates) one more each)
      (omega (arith, few, all, freezes_call before script one))
      ∙ ap (λ (calls : List Call). Ok (GoesOn (InTeam before (record script { calls = calls }))))
      (append_assoc script.calls (one ∷ []) more)

  -- a team after its word
  abbrev pub team_rest : Script → List Item
  team_rest script = Number script.team ∷ flat_map call_items script.calls

  reads_number :
      (before : List Script) (n : ℕ) (items : List Item) → is_between 1 16 n ≡ true → stands before n ≡ false
      → after Table (GoesOn (TeamNumber before)) (Number n ∷ items) ≡ after Table (GoesOn (InTeam before (no_calls n))) items
  unfolding at_teams
  reads_number before n items is free = rw (is, free) refl

  reads_team :
      (before : List Script) (script : Script) → AreTeams candidates (and_team before script)
      → ReadsTeams (TeamNumber before) (team_rest script) (GoesOn (InTeam before script))
  reads_team before script are =
      let in_it =
      at_last (IsIn 16) (map team_of before) script.team
      (subst (All (IsIn 16)) (map-append team_of before (script ∷ [])) are.numbers.in_range) in
      reads_number before script.team (flat_map call_items script.calls) (to_range 16 script.team in_it)
      (number_free before script are.numbers)
      ∙ reads_calls script.calls before (no_calls script.team)
      (at_last (λ (s : Script). All (IsCall candidates) s.calls) before script are.calls)
      (omega (arith, are.few_freezes, freezes_push before script, freezes_push before (no_calls script.team)))

  -- ---- all teams

  -- teams after the word of the first, up to the last
  abbrev pub teams_rest : List Script → Script → List Item
  teams_rest [] script = team_rest script
  teams_rest (first ∷ more) script = team_rest first ++ word key.Team ∷ teams_rest more script

  pub first_word :
      (more : List Script) (script : Script) → flat_map team_items more ++ team_items script
      ≡ word key.Team ∷ teams_rest more script
  first_word [] script = refl
  first_word (first ∷ more) script =
      append_assoc (team_items first) (flat_map team_items more) (team_items script)
      ∙ ap (λ (l : List Item). team_items first ++ l) (first_word more script)

  few_teams : (teams : List Script) → AreTeams candidates teams → length teams ≤ 16
  few_teams teams are = omega (arith, at_most 16 (map team_of teams) are.numbers, length-map teams team_of)

  next_team :
      (before : List Script) (script : Script) → length (and_team before script) < 16
      → in_team before script key.Team ≡ Ok (GoesOn (TeamNumber (and_team before script)))
  next_team before script few = rw (lt-ltb (length (and_team before script)) 16 few) refl

  pub reads_teams :
      (more before : List Script) (script : Script) → AreTeams candidates (before ++ (more ++ script ∷ []))
      → ReadsTeams (TeamNumber before) (teams_rest more script) (GoesOn (InTeam (before ++ more) script))
  reads_teams [] before script are =
      reads_team before script are
      ∙ ap (λ (teams : List Script). Ok (GoesOn (InTeam teams script))) (sym (append-nil before))
  reads_teams (first ∷ more) before script are =
      let regrouped = append_assoc before (first ∷ []) (more ++ script ∷ []) in
      let all = subst (AreTeams candidates) (sym regrouped) are in
      let few : length (and_team before first) < 16 =
      omega (
        arith,
        few_teams _ all,
        length-append (and_team before first) (more ++ script ∷ []),
        length-append more (script ∷ []),
      ) in
      in_parts Table (GoesOn (TeamNumber before)) (GoesOn (InTeam before first)) (team_rest first)
      (word key.Team ∷ teams_rest more script)
      (reads_team before first (front_of_teams (and_team before first) (more ++ script ∷ []) all))
      ∙ word_read before first key.Team (GoesOn (TeamNumber (and_team before first))) (teams_rest more script)
      (next_team before first few)
      ∙ reads_teams more (and_team before first) script all
      ∙ ap (λ (teams : List Script). Ok (GoesOn (InTeam teams script))) (append_assoc before (first ∷ []) more)

  -- after the last team the next one may begin
  pub reads_next :
      (before : List Script) (script : Script) → length (and_team before script) < 16
      → ReadsTeams (InTeam before script) (word key.Team ∷ []) (GoesOn (TeamNumber (and_team before script)))
  reads_next before script few =
      word_read before script key.Team (GoesOn (TeamNumber (and_team before script))) []
      (next_team before script few)

  -- ---- teams that can go on

  abbrev pub CanEnd : InTeams → Type 0
  CanEnd expected = (more : List Item) × (teams : List Script) × ReadsTeams expected more (Ends teams)

  pub team_can_end :
      (before : List Script) (script : Script) → ReadsTeams (InTeam before script) (word key.End ∷ [])
      (Ends (and_team before script))
  team_can_end before script = word_read before script key.End (Ends (and_team before script)) [] refl

  pub teams_can_end : (expected : InTeams) → AreBegunTeams candidates expected → 1 ≤ candidates → CanEnd expected
  teams_can_end (TeamNumber before) is some =
      let free = one_is_missing 16 (map team_of before) (omega (arith, is.1, length-map before team_of)) in (
        Number free.0 ∷ word key.End ∷ [],
        and_team before (no_calls free.0),
        reads_number before free.0 (word key.End ∷ []) (to_range 16 free.0 free.1)
            (sym (stands_number before free.0) ∙ free.2)
            ∙ team_can_end before (no_calls free.0),
      )
  teams_can_end (InTeam before script) is some = (word key.End ∷ [], and_team before script, team_can_end before script)
  teams_can_end (WithinCall before script expected) is some =
      let rest = call.call_can_end rightly candidates expected some in (
        rest.0 ++ word key.End ∷ [],
        and_team before (with_call script rest.1),
        in_parts Table (GoesOn (WithinCall before script expected)) (GoesOn (InTeam before (with_call script rest.1))) rest.0
            (word key.End ∷ []) (in_call before script rest.0 (GoesOn expected) (Ends rest.1) rest.2)
            ∙ team_can_end before (with_call script rest.1),
      )
