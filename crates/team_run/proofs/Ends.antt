-- Each team's calls in the history of a day are its script.
use Rattle.std.proofs.Common.{◌≡◌, ◌≢◌, ℕ, ◌<◌, ◌≤◌, ◌==◌, ◌||◌, Bool, false, cond, List, [], ◌∷◌, ◌++◌, map}
use Rattle.std.proofs.Common.{filter, length, All, ⊎_elim, refl, sym, ap, subst, ◌∙◌, arith, append-nil}
use Rattle.std.proofs.Common.{length-append}
use Rattle.std.specs.List.{flat_map}
use Rattle.std.proofs.lemmas.Bool.{ne_eqb, eq-eqb, cases_eq}
use Rattle.std.proofs.lemmas.List.Elements.{All-nil, All-cons, All-head, All-tail, All-weaker, filter-append}
use Rattle.turn_lock.specs.Numbers.{has}
use Rattle.batch_core.specs.declared.call.Call.{Call}
use Rattle.batch_core.specs.declared.entry.Entry.{Entry}
use Rattle.batch_core.specs.Histories.{own_calls}
use Rattle.call_register.specs.Weaving.{freeze_entry}
use Rattle.day_reader.specs.declared.script.Script.{Script}
use Rattle.shard_office.specs.Passes.{PassState}
use Rattle.shard_office.specs.Clerk.{ClerkState, callers_of}
use Rattle.shard_office.specs.Closing.{FitsHistory, IsClosed}
use Rattle.day_lines.specs.DayHistory.{calls_of, calls_in}
use Rattle.team_run.specs.Teams.{script_of, RisesFrom}
use Rattle.team_run.proofs.Lists.{all_got}

-- a number that isn't that of any pass
pub none_has : (p : ℕ) (taken : List PassState) → All (λ pass. pass.caller ≢ p) taken → has p (callers_of taken) ≡ false
none_has p [] others = refl
none_has p (pass ∷ passes) others =
    let not : (p == pass.caller) ≡ false =
    ne_eqb p pass.caller
    (λ same. All-head (λ (q : PassState). q.caller ≢ p) pass passes others (sym same)) in
    ap (λ (b : Bool). b || has p (callers_of passes)) not
    ∙ none_has p passes (All-tail (λ (q : PassState). q.caller ≢ p) pass passes others)

pub all_fit :
    (clerk : ClerkState) (history : List Entry) → IsClosed clerk history
    → All (λ pass. FitsHistory pass history) clerk.taken
all_fit clerk history closed = all_got (λ (pass : PassState). FitsHistory pass history) clerk.taken closed.passes

above : (n : ℕ) (scripts : List Script) → RisesFrom n scripts → All (λ s. n < s.team) scripts
above n [] rises = All-nil (λ (s : Script). n < s.team)
above n (s ∷ ss) rises =
    All-cons (λ (s : Script). n < s.team) s ss rises.0
    (All-weaker (λ (t : Script). s.team < t.team) (λ (t : Script). n < t.team)
    (λ t h. (let a = rises.0 in omega (arith, a, h))) ss (above s.team ss rises.1))

none_of : (team : ℕ) (scripts : List Script) → All (λ s. s.team ≢ team) scripts → calls_in scripts team ≡ []
none_of team [] others = refl
none_of team (s ∷ ss) others =
    let no : (s.team == team) ≡ false = ne_eqb s.team team (All-head (λ (s : Script). s.team ≢ team) s ss others) in
    ap (λ (b : Bool). flat_map (λ (s : Script). s.calls) (cond b
    (s ∷ filter (λ (s : Script). s.team == team) ss) (filter (λ (s : Script). s.team == team) ss)))
    no
    ∙ none_of team ss (All-tail (λ (s : Script). s.team ≢ team) s ss others)

of_team : (H : ℕ → List Call) (n : ℕ) (scripts : List Script) → RisesFrom n scripts → All (λ s. s.calls ≡ H s.team) scripts
    → (team : ℕ) → (All (λ s. s.team ≢ team) scripts → H team ≡ []) → H team ≡ calls_in scripts team
of_team H n [] rises are team none = none (All-nil (λ (s : Script). s.team ≢ team))
of_team H n (s ∷ ss) rises are team none =
    let kept =
    λ (b : Bool). flat_map (λ (s : Script). s.calls) (cond b
    (s ∷ filter (λ (s : Script). s.team == team) ss)
    (filter (λ (s : Script). s.team == team) ss)) in
    ⊎_elim
    (λ (e : s.team ≡ team).
    let others : All (λ s. s.team ≢ team) ss =
    All-weaker (λ (t : Script). s.team < t.team) (λ (t : Script). t.team ≢ team)
    (λ t h same. absurd (omega (arith, h, same, e))) ss (above s.team ss rises.1) in
    let here : calls_in (s ∷ ss) team ≡ s.calls ++ calls_in ss team = ap kept (eq-eqb s.team team e) in
    ap H (sym e)
    ∙ (sym (All-head (λ (s : Script). s.calls ≡ H s.team) s ss are)
    ∙ (sym (append-nil s.calls)
    ∙ (ap (λ (l : List Call). s.calls ++ l) (sym (none_of team ss others)) ∙ sym here))))
    (λ (n' : s.team ≡ team → ⊥).
    let here : calls_in (s ∷ ss) team ≡ calls_in ss team = ap kept (ne_eqb s.team team n') in
    of_team H s.team ss rises.1 (All-tail (λ (s : Script). s.calls ≡ H s.team) s ss are) team
    (λ others. none (All-cons (λ (s : Script). s.team ≢ team) s ss n' others)) ∙ sym here)
    (cases_eq s.team team)

scripts_are : (history : List Entry) (taken : List PassState) → All (λ pass. FitsHistory pass history) taken
    → All (λ s. s.calls ≡ calls_of (own_calls s.team history)) (map script_of taken)
scripts_are history [] fit = All-nil (λ (s : Script). s.calls ≡ calls_of (own_calls s.team history))
scripts_are history (pass ∷ passes) fit =
    All-cons (λ (s : Script). s.calls ≡ calls_of (own_calls s.team history)) (script_of pass) (map script_of passes)
    (ap calls_of (sym (All-head (λ (q : PassState). FitsHistory q history) pass passes fit).own_are))
    (scripts_are history passes (All-tail (λ (q : PassState). FitsHistory q history) pass passes fit))

others_are :
    (team : ℕ) (taken : List PassState) → All (λ s. s.team ≢ team) (map script_of taken)
    → All (λ pass. pass.caller ≢ team) taken
others_are team [] others = All-nil (λ (pass : PassState). pass.caller ≢ team)
others_are team (pass ∷ passes) others =
    All-cons (λ (pass : PassState). pass.caller ≢ team) pass passes
    (All-head (λ (s : Script). s.team ≢ team) (script_of pass) (map script_of passes) others)
    (others_are team passes (All-tail (λ (s : Script). s.team ≢ team) (script_of pass) (map script_of passes) others))

pub teams_have_their_scripts :
    (clerk : ClerkState) (history : List Entry) (scripts : List Script) → map script_of clerk.taken ≡ scripts
    → RisesFrom 0 scripts
    → IsClosed clerk history → (team : ℕ) → 1 ≤ team → calls_of (own_calls team history) ≡ calls_in scripts team
teams_have_their_scripts clerk history scripts are rises closed team least =
    subst (λ (l : List Script). calls_of (own_calls team history) ≡ calls_in l team) are
    (of_team (λ t. calls_of (own_calls t history)) 0 (map script_of clerk.taken) (subst (RisesFrom 0) (sym are) rises)
    (scripts_are history clerk.taken (all_fit clerk history closed)) team
    (λ others. ap calls_of (closed.others team least (none_has team clerk.taken (others_are team clerk.taken others)))))

-- ---- the clerk

shorter : (xs ys : List Entry) (e : Entry) → xs ++ ys ≡ e ∷ [] → length ys ≡ 1 → xs ≡ []
shorter [] ys e is one = refl
shorter (x ∷ xs) ys e is one =
    let long = ap length is in
    let parts = length-append (x ∷ xs) ys in
    absurd (omega (arith, long, parts, one))

pub no_other_of_clerk :
    (front : List Entry) → own_calls 0 (front ++ freeze_entry 0 ∷ []) ≡ freeze_entry 0 ∷ []
    → own_calls 0 front ≡ []
no_other_of_clerk front is =
    shorter (own_calls 0 front) (own_calls 0 (freeze_entry 0 ∷ [])) (freeze_entry 0)
    (sym (filter-append (λ (e : Entry). e.caller == 0) front (freeze_entry 0 ∷ [])) ∙ is) refl
