-- The words and calls of a team, one after another.
use Rattle.std.proofs.Common.{◌≡◌, ℕ, ◌+◌, ◌<◌, ◌≤◌, List, length, true, false, refl, sym, ◌∙◌, ap, subst, Ok, Err}
use Rattle.std.specs.Prelude.{Result, IfOk, IfErr}
use Rattle.std.proofs.lemmas.Bool.{lt-ltb, le-ltb}
use Rattle.batch_core.specs.declared.call.Call.{Call}
use Rattle.batch_core.specs.declared.call.Call.TheVariants as call
use Rattle.input_text.specs.declared.fault_kind.FaultKind.TheVariants.{WordExpected, BadTeam, TooManyFreezes}
use Rattle.input_text.specs.declared.input_fault.InputFault.{InputFault}
use Rattle.input_text.specs.declared.input_stop.InputStop.{InputStop}
use Rattle.input_text.specs.declared.input_stop.InputStop.TheVariants as stop
use Rattle.input_text.specs.Token.{Scan, with_front}
use Rattle.input_text.specs.Judged.{GoesOn, Ends, reads}
use Rattle.input_text.specs.Reads.{Stops, Accepts, Reads}
use Rattle.input_text.proofs.Reading.{inner_read, inner_stopped}
use Rattle.day_reader.specs.declared.keyword.Keyword.{Keyword}
use Rattle.day_reader.specs.declared.keyword.Keyword.TheVariants as key
use Rattle.day_reader.specs.declared.script.Script.{Script}
use Rattle.day_reader.specs.Keyword.{word, as_keyword}
use Rattle.day_reader.specs.Call.{freezes}
use Rattle.day_reader.specs.CallTable.{InCall, at_call}
use Rattle.day_reader.specs.TeamTable.{TeamNumber, InTeam, WithinCall, as_team, no_calls, with_call, and_team}
use Rattle.day_reader.specs.TeamTable.{in_team, at_teams}
use Rattle.day_reader.specs.Reads.{LeadsOrWants, EndsTeam, next_team}
use Rattle.day_reader.proofs.Steps.{judged_read, judged_stops, word_leads, word_refused}

module _ (candidates : ℕ) (before : List Script) where
  -- ---- the number of a team

  pub number_stops :
      (old new : Scan) (fault : InputFault) → Stops (as_team before) old fault new
      → reads (at_teams candidates) (TeamNumber before) old ≡ Err (record { fault = fault; rest = new })
  unfolding at_teams
  number_stops old new fault is =
      judged_stops (at_teams candidates) (TeamNumber before) (as_team before) (λ n. Ok (GoesOn (InTeam before (no_calls n))))
      (λ item. refl) old new fault is

  pub number_read :
      (old new : Scan) (n : ℕ) → Accepts (as_team before) old n new
      → reads (at_teams candidates) (TeamNumber before) old ≡ reads (at_teams candidates) (InTeam before (no_calls n)) new
  unfolding at_teams
  number_read old new n is =
      judged_read (at_teams candidates) (TeamNumber before) (as_team before) (λ n. Ok (GoesOn (InTeam before (no_calls n))))
      (λ item. refl) old new n (GoesOn (InTeam before (no_calls n))) is refl

  module _ (script : Script) where
    pub team_stops :
        (old new : Scan) (fault : InputFault) → Stops as_keyword old fault new
        → reads (at_teams candidates) (InTeam before script) old ≡ Err (record { fault = fault; rest = new })
    unfolding at_teams
    team_stops old new fault is =
        judged_stops (at_teams candidates) (InTeam before script) as_keyword (in_team before script)
        (λ item. refl) old new fault is

    module _ (old new : Scan) (keyword : Keyword) (at : ℕ)
        (given : old ≡ with_front (record { at = at; item = word keyword }) new) where
      -- ---- the words

      pub next_team_word :
          keyword ≡ key.Team → length (and_team before script) < 16
          → reads (at_teams candidates) (InTeam before script) old ≡ next_team candidates (and_team before script) true new
      unfolding at_teams
      next_team_word is few =
          word_leads (at_teams candidates) (InTeam before script) (in_team before script) old new keyword at refl given
          (GoesOn (TeamNumber (and_team before script)))
          (ap (in_team before script) is ∙ rw (lt-ltb (length (and_team before script)) 16 few) refl)

      pub team_too_many :
          keyword ≡ key.Team → 16 ≤ length (and_team before script)
          → reads (at_teams candidates) (InTeam before script) old
          ≡ Err (record { fault = record { kind = BadTeam; at = at }; rest = new })
      unfolding at_teams
      team_too_many is many =
          word_refused (at_teams candidates) (InTeam before script) (in_team before script) old new keyword at
          refl given BadTeam
          (ap (in_team before script) is ∙ rw (le-ltb (length (and_team before script)) 16 many) refl)

      pub end_word :
          keyword ≡ key.End → reads (at_teams candidates) (InTeam before script) old
          ≡ next_team candidates (and_team before script) false new
      unfolding at_teams
      end_word is =
          word_leads (at_teams candidates) (InTeam before script) (in_team before script) old new keyword at refl given
          (Ends (and_team before script)) (ap (in_team before script) is)

      -- ---- the calls

      pub call_read :
          (rest : Scan) (first : InCall) (result : Result Call InputStop)
          → in_team before script keyword ≡ Ok (GoesOn (WithinCall before script first))
          → Reads (at_call candidates) first (λ (c : Call). c) new result rest
          → LeadsOrWants (reads (at_teams candidates) (InTeam before script) old) result
          (λ c. reads (at_teams candidates) (InTeam before (with_call script c)) rest) rest
      unfolding at_teams
      call_read rest first (Ok found) leads is =
          word_leads (at_teams candidates) (InTeam before script) (in_team before script) old new keyword at refl given
          (GoesOn (WithinCall before script first)) leads
          ∙ inner_read (at_call candidates) (at_teams candidates) (λ e. WithinCall before script e)
          (λ c. InTeam before (with_call script c)) (λ e item. refl) first new found rest is
      call_read rest first (Err (stop.Fault fault)) leads is =
          word_leads (at_teams candidates) (InTeam before script) (in_team before script) old new keyword at refl given
          (GoesOn (WithinCall before script first)) leads
          ∙ inner_stopped (at_call candidates) (at_teams candidates) (λ e. WithinCall before script e)
          (λ c. InTeam before (with_call script c)) (λ e item. refl) first new (record { fault = fault; rest = rest }) is
      call_read rest first (Err stop.NoMemory) leads is = tt

      freezes_now :
          freezes (and_team before script) < 8 → in_team before script key.Freeze
          ≡ Ok (GoesOn (InTeam before (with_call script call.Freeze)))
      freezes_now few = rw (lt-ltb (freezes (and_team before script)) 8 few) refl

      freezes_no_more : 8 ≤ freezes (and_team before script) → in_team before script key.Freeze ≡ Err TooManyFreezes
      freezes_no_more many = rw (le-ltb (freezes (and_team before script)) 8 many) refl

      pub freeze_read :
          (count more : ℕ) (result : Result Call InputStop) → keyword ≡ key.Freeze → freezes (and_team before script) ≡ count
          → IfOk result (λ c. (c ≡ call.Freeze) × (count < 8) × (more ≡ count + 1))
          → IfErr result (λ why. (8 ≤ count) × (why ≡ stop.Fault (record { kind = TooManyFreezes; at = at })))
          → LeadsOrWants (reads (at_teams candidates) (InTeam before script) old) result
          (λ c. reads (at_teams candidates) (InTeam before (with_call script c)) new) new
      unfolding at_teams
      freeze_read count more (Ok found) is counts frozen full =
          word_leads (at_teams candidates) (InTeam before script) (in_team before script) old new keyword at refl given
          (GoesOn (InTeam before (with_call script call.Freeze)))
          (ap (in_team before script) is ∙ freezes_now (subst (λ n. n < 8) (sym counts) frozen.1))
          ∙ ap (λ (c : Call). reads (at_teams candidates) (InTeam before (with_call script c)) new) (sym frozen.0)
      freeze_read count more (Err why) is counts frozen full =
          subst (λ (w : InputStop). LeadsOrWants (reads (at_teams candidates) (InTeam before script) old) (Err w)
          (λ c. reads (at_teams candidates) (InTeam before (with_call script c)) new) new) (sym full.1)
          (word_refused (at_teams candidates) (InTeam before script)
          (in_team before script) old new keyword at refl given TooManyFreezes
          (ap (in_team before script) is ∙ freezes_no_more (subst (λ n. 8 ≤ n) (sym counts) full.0)))

      no_call :
          (k : Keyword) → (k ≡ key.Enter → ⊥) → (k ≡ key.Correct → ⊥) → (k ≡ key.Withdraw → ⊥) → (k ≡ key.Strike → ⊥)
          → (k ≡ key.Freeze → ⊥) → (EndsTeam k → ⊥) → in_team before script k ≡ Err WordExpected
      no_call key.Enter enter correct withdraw strike freeze ends = absurd (enter refl)
      no_call key.Correct enter correct withdraw strike freeze ends = absurd (correct refl)
      no_call key.Withdraw enter correct withdraw strike freeze ends = absurd (withdraw refl)
      no_call key.Strike enter correct withdraw strike freeze ends = absurd (strike refl)
      no_call key.Freeze enter correct withdraw strike freeze ends = absurd (freeze refl)
      no_call key.Team enter correct withdraw strike freeze ends = absurd (ends tt)
      no_call key.End enter correct withdraw strike freeze ends = absurd (ends tt)
      no_call k enter correct withdraw strike freeze ends = refl

      pub no_word :
          (keyword ≡ key.Enter → ⊥) → (keyword ≡ key.Correct → ⊥) → (keyword ≡ key.Withdraw → ⊥) → (keyword ≡ key.Strike → ⊥)
          → (keyword ≡ key.Freeze → ⊥) → (EndsTeam keyword → ⊥)
          → reads (at_teams candidates) (InTeam before script) old
          ≡ Err (record { fault = record { kind = WordExpected; at = at }; rest = new })
      unfolding at_teams
      no_word enter correct withdraw strike freeze ends =
          word_refused (at_teams candidates) (InTeam before script)
          (in_team before script) old new keyword at refl given WordExpected
          (no_call keyword enter correct withdraw strike freeze ends)
