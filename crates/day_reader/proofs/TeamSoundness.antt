-- What the table of teams accepts so far is a front part of teams.
use Rattle.std.proofs.Common.{◌≡◌, ℕ, List, [], ◌∷◌, ◌++◌, length, Bool, true, false, not, ◌&&◌, refl, sym}
use Rattle.std.proofs.Common.{◌∙◌, ap, subst, arith, append_assoc, nat_lt, Ok, Err}
use Rattle.std.specs.List.{flat_map}
use Rattle.std.proofs.lemmas.Bool.{ltb-true, and_parts, true≢false}
use Rattle.batch_core.specs.declared.call.Call.{Call}
use Rattle.batch_core.specs.declared.call.Call.TheVariants as call
use Rattle.input_text.specs.declared.fault_kind.FaultKind.TheVariants.{BadTeam, TooManyFreezes}
use Rattle.input_text.specs.Token.{Item, Number}
use Rattle.input_text.specs.Judged.{Judged, then_on, Progress, GoesOn, Ends, carried}
use Rattle.blt_reader.specs.Said.{ExpectsLinesRightly}
use Rattle.input_text.proofs.Judgements.{refused, same_value, passed, in_range}
use Rattle.day_reader.specs.declared.keyword.Keyword.{Keyword}
use Rattle.day_reader.specs.declared.keyword.Keyword.TheVariants as key
use Rattle.day_reader.specs.declared.script.Script.{Script}
use Rattle.day_reader.specs.Keyword.{word, as_keyword}
use Rattle.day_reader.specs.Call.{is_freeze, freezes}
use Rattle.day_reader.specs.Day.{team_items, AreTeams}
use Rattle.day_reader.specs.CallTable.{is_between, InCall, EnterBatch, CorrectBatch, WithdrawBatch, StrikeCandidate, at_call}
use Rattle.day_reader.specs.TeamTable.{InTeams, TeamNumber, InTeam, WithinCall, stands, no_calls, with_call}
use Rattle.day_reader.specs.TeamTable.{and_team, in_team, at_teams}
use Rattle.day_reader.specs.Front.{begun_call, IsBegunCall, begun_teams, AreBegunTeams}
use Rattle.day_reader.proofs.Keywords.{item_is}
use Rattle.day_reader.proofs.TeamLists.{one_if, one_team_more, one_call_more, items_push, items_call}
use Rattle.day_reader.proofs.CallSoundness.{number_goes_on, call_goes_on}

-- a word that leads somewhere
module _ {S V : Type 0} (P : Progress S V → List Item → Type 0) (before : List Item) where
  by_word :
      (x : Item) (next : Progress S V) (f : Keyword → Judged (Progress S V)) (judged : Judged Keyword)
      → as_keyword x ≡ judged
      → then_on judged f ≡ Ok next → ((keyword : Keyword) → f keyword ≡ Ok next → P next (before ++ word keyword ∷ []))
      → P next (before ++ x ∷ [])
  by_word x next f (Ok keyword) is e goes =
      subst (λ (i : Item). P next (before ++ i ∷ [])) (sym (item_is x keyword is)) (goes keyword e)
  by_word x next f (Err kind) is e goes = absurd (refused e)

  pub word_goes_on :
      (x : Item) (next : Progress S V) (f : Keyword → Judged (Progress S V)) → then_on (as_keyword x) f ≡ Ok next
      → ((keyword : Keyword) → f keyword ≡ Ok next → P next (before ++ word keyword ∷ [])) → P next (before ++ x ∷ [])
  word_goes_on x next f e goes = by_word x next f (as_keyword x) refl e goes

abbrev pub teamed : Progress InTeams (List Script) → List Item
teamed (GoesOn expected) = begun_teams expected
teamed (Ends teams) = flat_map team_items teams ++ word key.End ∷ []

not_taken : (b : Bool) → not b ≡ true → b ≡ false
not_taken true e = absurd (true≢false (sym e))
not_taken false e = refl

module _ (candidates : ℕ) where
  abbrev pub AreTeamed : Progress InTeams (List Script) → Type 0
  AreTeamed (GoesOn expected) = AreBegunTeams candidates expected
  AreTeamed (Ends teams) = AreTeams candidates teams

  abbrev pub IsTeamsFront : Progress InTeams (List Script) → List Item → Type 0
  IsTeamsFront read items = AreTeamed read × (teamed read ≡ items)

module _ (rightly : ExpectsLinesRightly) (candidates : ℕ) where
  abbrev IsFront : Progress InTeams (List Script) → List Item → Type 0
  IsFront = IsTeamsFront candidates

  module _ (before : List Script) (script : Script) where
    abbrev so_far : List Item
    so_far = begun_teams (InTeam before script)

    call_begins :
        (expected : InCall) (keyword : Keyword) (next : Progress InTeams (List Script))
        → AreTeams candidates (and_team before script) → IsBegunCall candidates expected
        → begun_call expected ≡ word keyword ∷ []
        → ◌≡◌ {A = Judged (Progress InTeams (List Script))} (Ok (GoesOn (WithinCall before script expected))) (Ok next)
        → IsFront next (so_far ++ word keyword ∷ [])
    call_begins expected keyword next are begun spelled e =
        subst (λ p. IsFront p (so_far ++ word keyword ∷ [])) (same_value e) (
          (are, begun),
          ap (λ (l : List Item). flat_map team_items before ++ (team_items script ++ l)) spelled
              ∙ sym (append_assoc (flat_map team_items before) (team_items script) (word keyword ∷ [])),
        )

    team_goes_on :
        (next : Progress InTeams (List Script)) (keyword : Keyword) → AreTeams candidates (and_team before script)
        → in_team before script keyword ≡ Ok next → IsFront next (so_far ++ word keyword ∷ [])
    team_goes_on next key.Enter are e = call_begins EnterBatch key.Enter next are tt refl e
    team_goes_on next key.Correct are e = call_begins CorrectBatch key.Correct next are tt refl e
    team_goes_on next key.Withdraw are e = call_begins WithdrawBatch key.Withdraw next are tt refl e
    team_goes_on next key.Strike are e = call_begins StrikeCandidate key.Strike next are tt refl e
    team_goes_on next key.Freeze are e =
        let ok = passed (nat_lt (freezes (and_team before script)) 8) _ next TooManyFreezes e in
        let few = ltb-true (freezes (and_team before script)) 8 ok.0 in
        subst (λ p. IsFront p (so_far ++ word key.Freeze ∷ [])) ok.1 (
          one_call_more candidates before script call.Freeze are tt (omega (arith, few)),
          ap (λ (l : List Item). flat_map team_items before ++ l) (items_call script call.Freeze)
              ∙ sym (append_assoc (flat_map team_items before) (team_items script) (word key.Freeze ∷ [])),
        )
    team_goes_on next key.Team are e =
        let ok = passed (nat_lt (length (and_team before script)) 16) _ next BadTeam e in
        subst (λ p. IsFront p (so_far ++ word key.Team ∷ [])) ok.1 (
          (are, ltb-true (length (and_team before script)) 16 ok.0),
          ap (λ (l : List Item). l ++ word key.Team ∷ []) (items_push before script),
        )
    team_goes_on next key.End are e =
        subst (λ p. IsFront p (so_far ++ word key.End ∷ [])) (same_value e)
        (are, ap (λ (l : List Item). l ++ word key.End ∷ []) (items_push before script))
    team_goes_on next keyword are e = absurd (refused e)

    within_goes_on :
        (expected : InCall) (next : Progress InTeams (List Script)) (x : Item) (judged : Judged (Progress InCall Call))
        → AreTeams candidates (and_team before script) → IsBegunCall candidates expected
        → at_call candidates expected x ≡ judged
        → carried (λ more. WithinCall before script more) (λ call. InTeam before (with_call script call)) judged ≡ Ok next
        → IsFront next (begun_teams (WithinCall before script expected) ++ x ∷ [])
    within_goes_on expected next x (Ok (GoesOn more)) are is judged e =
        let one = call_goes_on rightly candidates expected (GoesOn more) x is judged in
        subst (λ p. IsFront p (begun_teams (WithinCall before script expected) ++ x ∷ [])) (same_value e) (
          (are, one.0),
          ap (λ (l : List Item). flat_map team_items before ++ (team_items script ++ l)) one.1
              ∙ ap (λ (l : List Item). flat_map team_items before ++ l)
              (sym (append_assoc (team_items script) (begun_call expected) (x ∷ [])))
              ∙ sym (append_assoc (flat_map team_items before) (team_items script ++ begun_call expected) (x ∷ [])),
        )
    within_goes_on expected next x (Ok (Ends found)) are is judged e =
        let one = call_goes_on rightly candidates expected (Ends found) x is judged in
        let none : one_if (is_freeze found) ≡ 0 = ap one_if one.0.1 in
        subst (λ p. IsFront p (begun_teams (WithinCall before script expected) ++ x ∷ [])) (same_value e) (
          one_call_more candidates before script found are one.0.0 (omega (arith, none, are.few_freezes)),
          ap (λ (l : List Item). flat_map team_items before ++ l)
              (items_call script found ∙ ap (λ (l : List Item). team_items script ++ l) one.1
              ∙ sym (append_assoc (team_items script) (begun_call expected) (x ∷ [])))
              ∙ sym (append_assoc (flat_map team_items before) (team_items script ++ begun_call expected) (x ∷ [])),
        )
    within_goes_on expected next x (Err kind) are is judged e = absurd (refused e)

  pub teams_go_on :
      (expected : InTeams) (next : Progress InTeams (List Script)) (x : Item) → AreBegunTeams candidates expected
      → at_teams candidates expected x ≡ Ok next → IsFront next (begun_teams expected ++ x ∷ [])
  unfolding at_teams
  teams_go_on (TeamNumber before) next x is e =
      number_goes_on IsFront (begun_teams (TeamNumber before))
      (λ n. is_between 1 16 n && not (stands before n)) BadTeam x next
      (λ n. GoesOn (InTeam before (no_calls n))) e (λ n ok.
      let both = and_parts (is_between 1 16 n) (not (stands before n)) ok in (
        one_team_more candidates before n is.0 (in_range 16 n both.0) (not_taken (stands before n) both.1),
        sym (append_assoc (flat_map team_items before) (word key.Team ∷ []) (Number n ∷ [])),
      ))
  teams_go_on (InTeam before script) next x are e =
      word_goes_on IsFront (begun_teams (InTeam before script)) x next (in_team before script) e
      (λ keyword judged. team_goes_on before script next keyword are judged)
  teams_go_on (WithinCall before script expected) next x is e =
      within_goes_on before script expected next x _ is.0 is.1 refl e
