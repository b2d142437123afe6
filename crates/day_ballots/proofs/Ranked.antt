-- The calls of a history of a day file's teams are those of the file.
use Rattle.std.proofs.Common.{◌≡◌, ℕ, ◌==◌, Bool, true, false, cond, List, [], ◌∷◌}
use Rattle.std.proofs.Common.{filter}
use Rattle.std.proofs.Common.{refl, ap, subst}
use Rattle.std.specs.Prelude.{All, slice_index_or}
use Rattle.std.specs.List.{range_with_len}
use Rattle.std.proofs.lemmas.Bool.{eq-eqb}
use Rattle.std.proofs.lemmas.List.Elements.{All-nil, All-cons, All-head, All-tail}
use Rattle.std.proofs.lemmas.List.Elements.{All-filter}
use Rattle.batch_core.specs.declared.limits.TheConstants.{MOST_TEAMS}
use Rattle.batch_core.specs.declared.call.Call.{Call}
use Rattle.batch_core.specs.declared.entry.Entry.{Entry}
use Rattle.batch_core.specs.Histories.{own_calls}
use Rattle.day_reader.specs.declared.script.Script.{Script}
use Rattle.day_reader.specs.Call.{IsCall}
use Rattle.day_reader.specs.Day.{by_number}
use Rattle.day_reader.proofs.CallRankings.{all_flat}
use Rattle.day_lines.specs.DayHistory.{calls_of, calls_in}

-- ---- the calls of a history

module _ (candidates : ℕ) where
  abbrev Are : List Call → Type 0
  Are calls = All (IsCall candidates) calls

  -- Where the calls of each caller are calls of so many candidates, all are.
  pub all_calls :
      (history : List Entry) → ((caller : ℕ) → Are (calls_of (own_calls caller history)))
      → All (λ e. IsCall candidates e.call) history
  all_calls [] each = All-nil (λ (e : Entry). IsCall candidates e.call)
  all_calls (e ∷ es) each =
      All-cons (λ (e : Entry). IsCall candidates e.call) e es
      (All-head (IsCall candidates) e.call (calls_of (own_calls e.caller es)) (subst Are (ap calls_of own) (each e.caller)))
      (all_calls es (λ caller. behind caller (e.caller == caller) (each caller)))
    where
      own : own_calls e.caller (e ∷ es) ≡ e ∷ own_calls e.caller es
      own = ap (λ (b : Bool). cond b (e ∷ own_calls e.caller es) (own_calls e.caller es)) (eq-eqb e.caller e.caller refl)

      behind :
          (caller : ℕ) (b : Bool) → Are (calls_of (cond b (e ∷ own_calls caller es) (own_calls caller es)))
          → Are (calls_of (own_calls caller es))
      behind caller true are = All-tail (IsCall candidates) e.call (calls_of (own_calls caller es)) are
      behind caller false are = are

  -- scripts by rising number are the same scripts
  numbered : (teams : List Script) → All (λ s. Are s.calls) teams → All (λ s. Are s.calls) (by_number teams)
  unfolding by_number
  numbered teams are =
      all_flat (λ (s : Script). Are s.calls) (λ number. filter (λ (s : Script). s.team == number) teams)
      (range_with_len 1 MOST_TEAMS)
      (λ k d inside. All-filter (λ (s : Script). s.team == slice_index_or (range_with_len 1 MOST_TEAMS) k d)
      (λ (s : Script). Are s.calls) teams are)

  pub in_scripts : (teams : List Script) (team : ℕ) → All (λ s. Are s.calls) teams → Are (calls_in (by_number teams) team)
  in_scripts teams team are =
      let own = filter (λ (s : Script). s.team == team) (by_number teams) in
      all_flat (IsCall candidates) (λ (s : Script). s.calls) own
      (All-filter (λ (s : Script). s.team == team) (λ (s : Script). Are s.calls) (by_number teams) (numbered teams are))
