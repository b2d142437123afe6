-- Every call in a history of scripts is the clerk's freeze or a call of a script.
use Rattle.std.proofs.Common.{◌≡◌, ℕ, zero, suc, ◌==◌, Bool, true, false, cond, List, [], ◌∷◌, ◌++◌, filter}
use Rattle.std.proofs.Common.{All, refl, sym, ap, ◌∙◌, subst, arith}
use Rattle.std.specs.List.{flat_map}
use Rattle.std.proofs.lemmas.Bool.{eq-eqb}
use Rattle.std.proofs.lemmas.Bool.Decides.{eqb_tells}
use Rattle.std.proofs.Common.{⊎_elim, ◌≢◌}
use Rattle.std.proofs.lemmas.List.Elements.{All-nil, All-cons, All-head, All-tail, All-append, filter-append}
use Rattle.batch_core.specs.declared.call.Call.{Call}
use Rattle.batch_core.specs.declared.call.Call.TheVariants.{Freeze}
use Rattle.batch_core.specs.declared.entry.Entry.{Entry}
use Rattle.batch_core.specs.Histories.{own_calls}
use Rattle.day_reader.specs.declared.script.Script.{Script}
use Rattle.day_lines.specs.DayHistory.{calls_of, calls_in, clerk_freeze, EndsWithTheClerk, IsHistoryOf}

-- a property of callers and their calls
module _ (P : ℕ → Call → Type 0) where
  own_rest :
      (caller : ℕ) (own : Bool) (e : Entry) (rest : List Entry) → All (P caller) (calls_of (cond own (e ∷ rest) rest))
      → All (P caller) (calls_of rest)
  own_rest caller true e rest all = All-tail (P caller) e.call (calls_of rest) all
  own_rest caller false e rest all = all

  -- a property of the calls of each caller is one of all calls
  pub all_callers :
      (history : List Entry) → ((caller : ℕ) → All (P caller) (calls_of (own_calls caller history)))
      → All (λ e. P e.caller e.call) history
  all_callers [] each = All-nil (λ (e : Entry). P e.caller e.call)
  all_callers (e ∷ es) each =
      let own = own_calls e.caller es in
      let here : All (P e.caller) (e.call ∷ calls_of own) =
      subst (λ (b : Bool). All (P e.caller) (calls_of (cond b (e ∷ own) own))) (eq-eqb e.caller e.caller refl)
      (each e.caller) in
      All-cons (λ (x : Entry). P x.caller x.call) e es (All-head (P e.caller) e.call (calls_of own) here)
      (all_callers es (λ caller. own_rest caller (e.caller == caller) e (own_calls caller es) (each caller)))

  taken_if : (team : ℕ) (taken : Bool) (s : Script) (rest : List Script) → (taken ≡ true → All (P team) s.calls)
      → All (P team) (flat_map (λ s. s.calls) rest)
      → All (P team) (flat_map (λ s. s.calls) (cond taken (s ∷ rest) rest))
  taken_if team true s rest here others =
      All-append (P team) s.calls (flat_map (λ (s : Script). s.calls) rest) (here refl) others
  taken_if team false s rest here others = others

  of_team : (s : Script) (team : ℕ) → All (P s.team) s.calls → (s.team == team) ≡ true → All (P team) s.calls
  of_team s team all is =
      ⊎_elim
      (λ (same : ((s.team == team) ≡ true) × (s.team ≡ team)). subst (λ (n : ℕ). All (P n) s.calls) same.1 all)
      (λ (other : ((s.team == team) ≡ false) × (s.team ≢ team)). absurd (cc))
      (eqb_tells s.team team)

  -- a property of the calls of all scripts is one of the calls of each team
  one_script :
      (scripts : List Script) (team : ℕ) → All (λ s. All (P s.team) s.calls) scripts
      → All (P team) (calls_in scripts team)
  one_script [] team all = All-nil (P team)
  one_script (s ∷ ss) team all =
      taken_if team (s.team == team) s (filter (λ (s : Script). s.team == team) ss)
      (of_team s team (All-head (λ (s : Script). All (P s.team) s.calls) s ss all))
      (one_script ss team (All-tail (λ (s : Script). All (P s.team) s.calls) s ss all))

-- the clerk's only call is the freeze
pub clerks_own : (history : List Entry) → EndsWithTheClerk history → own_calls 0 history ≡ clerk_freeze ∷ []
clerks_own history ends =
    ap (own_calls 0) ends.last
    ∙ (filter-append (λ (e : Entry). e.caller == 0) ends.before (clerk_freeze ∷ [])
    ∙ ap (λ (front : List Entry). front ++ clerk_freeze ∷ []) ends.no_other)

-- a property of the calls of all scripts and of the clerk's freeze is one of the calls of each caller
pub each_caller :
    (P : ℕ → Call → Type 0) (scripts : List Script) (history : List Entry) → IsHistoryOf scripts history
    → All (λ s. All (P s.team) s.calls) scripts → P 0 Freeze
    → (caller : ℕ) → All (P caller) (calls_of (own_calls caller history))
each_caller P scripts history is all freeze zero =
    subst (λ (l : List Entry). All (P 0) (calls_of l)) (sym (clerks_own history is.ends))
    (All-cons (P 0) Freeze [] freeze (All-nil (P 0)))
each_caller P scripts history is all freeze (suc caller) =
    subst (All (P (suc caller))) (sym (is.whole (suc caller) (omega arith))) (one_script P scripts (suc caller) all)

-- each caller has the same calls in all histories of the scripts
pub same_calls :
    (scripts : List Script) (one other : List Entry) → IsHistoryOf scripts one → IsHistoryOf scripts other
    → (caller : ℕ) → calls_of (own_calls caller one) ≡ calls_of (own_calls caller other)
same_calls scripts one other is too zero = ap calls_of (clerks_own one is.ends ∙ sym (clerks_own other too.ends))
same_calls scripts one other is too (suc caller) =
    is.whole (suc caller) (omega arith) ∙ sym (too.whole (suc caller) (omega arith))
