-- The places of the freezes in the history of a day.
use Rattle.std.proofs.Common.{◌≡◌, ◌≢◌, ◌⊎◌, ℕ, zero, suc, ◌+◌, ◌<◌, ◌≤◌, ◌==◌, Bool, true, false, cond, List}
use Rattle.std.proofs.Common.{[], ◌∷◌, map, filter, length, count_by, All, inl, inr, ⊎_elim, refl, sym, ap}
use Rattle.std.proofs.Common.{subst, ◌∙◌, arith}
use Rattle.std.specs.Prelude.{slice_get, Some}
use Rattle.std.specs.List.{enumerate_from, sum_by}
use Rattle.std.proofs.lemmas.Bool.{ne_eqb, eq-eqb, cases_eq}
use Rattle.std.proofs.lemmas.List.Sums.{sum_by-append}
use Rattle.std.proofs.lemmas.List.Elements.{All-nil, All-cons, All-head, All-tail}
use Rattle.batch_core.specs.declared.call.Call.{Call}
use Rattle.batch_core.specs.declared.entry.Entry.{Entry}
use Rattle.batch_core.specs.Histories.{own_calls}
use Rattle.call_register.specs.Weaving.{freeze_entry}
use Rattle.day_reader.specs.declared.script.Script.{Script}
use Rattle.day_reader.specs.Call.{is_freeze, freezes}
use Rattle.shard_office.specs.Passes.{PassState, own}
use Rattle.shard_office.specs.Clerk.{ClerkState}
use Rattle.shard_office.specs.Closing.{FitsHistory, IsClosed}
use Rattle.day_lines.specs.DayHistory.{calls_of}
use Rattle.team_run.specs.Teams.{script_of, RisesFrom}
use Rattle.team_run.specs.Endings.{freezes_from}
use Rattle.team_run.proofs.Ends.{none_has, all_fit}
use Rattle.team_run.proofs.Rising.{Rise, StandsAmong, StandAmong, above, lower, within}

places_if :
    (b : Bool) (place : ℕ) (e : Entry) (rest : List (ℕ × Entry))
    → map (λ (x : ℕ × Entry). x.0) (cond b ((place, e) ∷ rest) rest)
    ≡ cond b (place ∷ map (λ (x : ℕ × Entry). x.0) rest) (map (λ (x : ℕ × Entry). x.0) rest)
places_if true place e rest = refl
places_if false place e rest = refl

rise_if : (b : Bool) (n : ℕ) (rest : List ℕ) → Rise (n + 1) rest → Rise n (cond b (n ∷ rest) rest)
rise_if true n rest rise = (omega arith, rise)
rise_if false n rest rise = lower n (n + 1) rest (omega arith) rise

places_cons :
    (n : ℕ) (e : Entry) (es : List Entry)
    → freezes_from n (e ∷ es)
    ≡ cond (is_freeze e.call) (n ∷ freezes_from (n + 1) es) (freezes_from (n + 1) es)
places_cons n e es =
    places_if (is_freeze e.call) n e
    (filter (λ (x : ℕ × Entry). is_freeze x.1.call) (enumerate_from (n + 1) es))

places_rise : (n : ℕ) (history : List Entry) → Rise n (freezes_from n history)
places_rise n [] = tt
places_rise n (e ∷ es) =
    subst (Rise n) (sym (places_cons n e es))
    (rise_if (is_freeze e.call) n (freezes_from (n + 1) es) (places_rise (n + 1) es))

count_cons :
    (call : Call) (calls : List Call)
    → count_by is_freeze (call ∷ calls) ≡ 0 + cond (is_freeze call) 1 0 + count_by is_freeze calls
count_cons call calls = sum_by-append (λ (c : Call). cond (is_freeze c) 1 0) (call ∷ []) calls

length_if : (b : Bool) (n : ℕ) (rest : List ℕ) → length (cond b (n ∷ rest) rest) ≡ cond b 1 0 + length rest
length_if true n rest = omega arith
length_if false n rest = omega arith

places_are : (n : ℕ) (history : List Entry) → length (freezes_from n history) ≡ count_by is_freeze (calls_of history)
places_are n [] = refl
places_are n (e ∷ es) =
    let rest = places_are (n + 1) es in
    let here = count_cons e.call (calls_of es) in
    let one : length (freezes_from n (e ∷ es)) ≡ cond (is_freeze e.call) 1 0 + length (freezes_from (n + 1) es) =
    ap length (places_cons n e es) ∙ length_if (is_freeze e.call) n (freezes_from (n + 1) es) in
    omega (arith, rest, here, one)

-- ---- the freezes of all callers

abbrev frozen_by : List Entry → ℕ → ℕ
frozen_by history p = count_by is_freeze (calls_of (own_calls p history))

abbrev frozen : List Entry → List ℕ → ℕ
frozen history callers = sum_by (frozen_by history) callers

frozen_cons :
    (history : List Entry) (p : ℕ) (callers : List ℕ)
    → frozen history (p ∷ callers) ≡ 0 + frozen_by history p + frozen history callers
frozen_cons history p callers = sum_by-append (frozen_by history) (p ∷ []) callers

abbrev one_if : Bool → Call → ℕ
one_if b call = cond b (cond (is_freeze call) 1 0) 0

own_if :
    (b : Bool) (e : Entry) (rest : List Entry)
    → count_by is_freeze (calls_of (cond b (e ∷ rest) rest))
    ≡ one_if b e.call + count_by is_freeze (calls_of rest)
own_if true e rest = let c = count_cons e.call (calls_of rest) in omega (arith, c)
own_if false e rest = omega arith

-- an entry of nobody among these callers adds nothing
not_theirs :
    (e : Entry) (es : List Entry) (n : ℕ) (callers : List ℕ) → Rise n callers → e.caller < n
    → frozen (e ∷ es) callers ≡ frozen es callers
not_theirs e es n [] rise low = refl
not_theirs e es n (p ∷ ps) rise low =
    let r = rise.0 in
    let no : (e.caller == p) ≡ false = ne_eqb e.caller p (λ same. absurd (omega (arith, same, r, low))) in
    let mine = own_if (e.caller == p) e (own_calls p es) in
    let none : one_if (e.caller == p) e.call ≡ 0 = ap (λ (b : Bool). one_if b e.call) no in
    let rest = not_theirs e es (p + 1) ps rise.1 (omega (arith, r, low)) in
    let one = frozen_cons (e ∷ es) p ps in
    let other = frozen_cons es p ps in
    omega (arith, mine, none, rest, one, other)

theirs : (e : Entry) (es : List Entry) (n : ℕ) (callers : List ℕ) → Rise n callers → StandsAmong callers e.caller
    → frozen (e ∷ es) callers ≡ cond (is_freeze e.call) 1 0 + frozen es callers
theirs e es n [] rise in' = absurd in'
theirs e es n (p ∷ ps) rise in' =
    let mine = own_if (e.caller == p) e (own_calls p es) in
    let one = frozen_cons (e ∷ es) p ps in
    let other = frozen_cons es p ps in
    ⊎_elim
    (λ (same : e.caller ≡ p).
    let yes : one_if (e.caller == p) e.call ≡ one_if true e.call =
    ap (λ (b : Bool). one_if b e.call) (eq-eqb e.caller p same) in
    let rest = not_theirs e es (p + 1) ps rise.1 (omega (arith, same)) in
    omega (arith, mine, yes, rest, one, other))
    (λ (later : StandsAmong ps e.caller).
    let less = above (p + 1) ps e.caller rise.1 later in
    let no : (e.caller == p) ≡ false = ne_eqb e.caller p (λ same. absurd (omega (arith, same, less))) in
    let none : one_if (e.caller == p) e.call ≡ 0 = ap (λ (b : Bool). one_if b e.call) no in
    let rest = theirs e es (p + 1) ps rise.1 later in
    omega (arith, mine, none, rest, one, other))
    in'

none_frozen : (callers : List ℕ) → frozen [] callers ≡ 0
none_frozen [] = refl
none_frozen (p ∷ ps) = let one = frozen_cons [] p ps in let rest = none_frozen ps in omega (arith, one, rest)

all_frozen :
    (history : List Entry) (n : ℕ) (callers : List ℕ) → Rise n callers
    → All (λ e. StandsAmong callers e.caller) history
    → count_by is_freeze (calls_of history) ≡ frozen history callers
all_frozen [] n callers rise of = sym (none_frozen callers)
all_frozen (e ∷ es) n callers rise of =
    let P : Entry → Type 0 = λ e. StandsAmong callers e.caller in
    let here = count_cons e.call (calls_of es) in
    let rest = all_frozen es n callers rise (All-tail P e es of) in
    let one = theirs e es n callers rise (All-head P e es of) in
    omega (arith, here, rest, one)

-- ---- the scripts' freezes

abbrev numbers_of : List PassState → List ℕ
numbers_of taken = map (λ (pass : PassState). pass.caller) taken

callers_rise : (n m : ℕ) (taken : List PassState) → m ≤ n + 1 → RisesFrom n (map script_of taken) → Rise m (numbers_of taken)
callers_rise n m [] less rises = tt
callers_rise n m (pass ∷ passes) less rises =
    ((let a = rises.0 in omega (arith, a, less)), callers_rise pass.caller (pass.caller + 1) passes (omega arith) rises.1)

scripts_frozen : (history : List Entry) (taken : List PassState) → All (λ pass. FitsHistory pass history) taken
    → freezes (map script_of taken) ≡ frozen history (numbers_of taken)
scripts_frozen history [] fit = refl
scripts_frozen history (pass ∷ passes) fit =
    let F : PassState → Type 0 = λ q. FitsHistory q history in
    let head = sum_by-append (λ (s : Script). count_by is_freeze s.calls) (script_of pass ∷ []) (map script_of passes) in
    let other = frozen_cons history pass.caller (numbers_of passes) in
    let mine : count_by is_freeze (calls_of (own pass)) ≡ frozen_by history pass.caller =
    ap (λ (l : List Entry). count_by is_freeze (calls_of l)) (sym (All-head F pass passes fit).own_are) in
    let rest = scripts_frozen history passes (All-tail F pass passes fit) in
    omega (arith, head, other, mine, rest)

stands_or_not : (x : ℕ) (taken : List PassState) → StandsAmong (numbers_of taken) x ⊎ All (λ pass. pass.caller ≢ x) taken
stands_or_not x [] = inr (All-nil (λ (pass : PassState). pass.caller ≢ x))
stands_or_not x (pass ∷ passes) =
    ⊎_elim
    (λ (e : x ≡ pass.caller). inl (inl e))
    (λ (n : x ≡ pass.caller → ⊥). ⊎_elim
    (λ (later : StandsAmong (numbers_of passes) x). inl (inr later))
    (λ (others : All (λ p. p.caller ≢ x) passes). inr
    (All-cons (λ (p : PassState). p.caller ≢ x) pass passes (λ same. n (sym same)) others))
    (stands_or_not x passes))
    (cases_eq x pass.caller)

has_own : (e : Entry) (es : List Entry) → own_calls e.caller (e ∷ es) ≡ [] → ⊥
has_own e es none =
    let kept : own_calls e.caller (e ∷ es) ≡ e ∷ own_calls e.caller es =
    ap (λ (b : Bool). cond b (e ∷ own_calls e.caller es) (own_calls e.caller es))
    (eq-eqb e.caller e.caller refl) in
    let long : length (e ∷ own_calls e.caller es) ≡ 0 = ap length (sym kept ∙ none) in
    absurd (omega (arith, long))

own_less : (b : Bool) (e : Entry) (rest : List Entry) → cond b (e ∷ rest) rest ≡ [] → rest ≡ []
own_less true e rest none = let long : length (e ∷ rest) ≡ 0 = ap length none in absurd (omega (arith, long))
own_less false e rest none = none

all_theirs :
    (taken : List PassState) (history : List Entry)
    → ((p : ℕ) → 1 ≤ p → All (λ pass. pass.caller ≢ p) taken → own_calls p history ≡ [])
    → All (λ e. StandsAmong (0 ∷ numbers_of taken) e.caller) history
all_theirs taken [] others = All-nil (λ (e : Entry). StandsAmong (0 ∷ numbers_of taken) e.caller)
all_theirs taken (e ∷ es) others =
    All-cons (λ (e : Entry). StandsAmong (0 ∷ numbers_of taken) e.caller) e es
    (⊎_elim
    (λ (z : e.caller ≡ 0). inl z)
    (λ (n : e.caller ≡ 0 → ⊥). ⊎_elim
    (λ (in' : StandsAmong (numbers_of taken) e.caller). inr in')
    (λ (no : All (λ pass. pass.caller ≢ e.caller) taken). absurd (has_own e es (others e.caller (omega (arith, n)) no)))
    (stands_or_not e.caller taken))
    (cases_eq e.caller 0))
    (all_theirs taken es (λ p least no. own_less (e.caller == p) e (own_calls p es) (others p least no)))

pub all_placed :
    (clerk : ClerkState) (history : List Entry) (scripts : List Script) (places : List ℕ)
    → map script_of clerk.taken ≡ scripts → RisesFrom 0 scripts
    → IsClosed clerk history → clerk.desk.caller ≡ 0 → own clerk.desk ≡ freeze_entry 0 ∷ []
    → length places ≡ freezes scripts + 1
    → Rise 1 places → StandAmong (freezes_from 1 history) places → places ≡ freezes_from 1 history
all_placed clerk history scripts places are rises closed nobody_else own_is many rise in' =
    let teams = numbers_of clerk.taken in
    let rise_all : Rise 0 (0 ∷ teams) =
    (omega arith, callers_rise 0 1 clerk.taken (omega arith) (subst (RisesFrom 0) (sym are) rises)) in
    let all =
    all_frozen history 0 (0 ∷ teams) rise_all (all_theirs clerk.taken history
    (λ p least no. closed.others p least (none_has p clerk.taken no))) in
    let first = frozen_cons history 0 teams in
    let of_clerk : frozen_by history 0 ≡ 1 =
    ap (λ (l : List Entry). count_by is_freeze (calls_of l))
    (ap (λ (p : ℕ). own_calls p history) (sym nobody_else) ∙ (closed.desk.own_are ∙ own_is)) in
    let of_teams : freezes scripts ≡ frozen history teams =
    ap freezes (sym are) ∙ scripts_frozen history clerk.taken (all_fit clerk history closed) in
    let there = places_are 1 history in
    (within 1 (freezes_from 1 history) places rise (places_rise 1 history) in').1
    (omega (arith, all, first, of_clerk, of_teams, there, many))

-- ---- where a freeze stands is one of their places

kept_if : (b : Bool) (n x : ℕ) (rest : List ℕ) → StandsAmong rest x → StandsAmong (cond b (n ∷ rest) rest) x
kept_if true n x rest in' = inr in'
kept_if false n x rest in' = in'

first_if : (b : Bool) (n : ℕ) (rest : List ℕ) → b ≡ true → StandsAmong (cond b (n ∷ rest) rest) n
first_if b n rest is = subst (λ (c : Bool). StandsAmong (cond c (n ∷ rest) rest) n) (sym is) (inl refl)

pub stands_there :
    (n i : ℕ) (history : List Entry) (caller : ℕ) → slice_get history i ≡ Some (freeze_entry caller)
    → StandsAmong (freezes_from n history) (n + i)
stands_there n i [] caller is = absurd (cc)
stands_there n zero (e ∷ es) caller is =
    let freezes_here : is_freeze e.call ≡ true = cc in
    let place : n + 0 ≡ n = omega arith in
    subst (λ (p : ℕ). StandsAmong (freezes_from n (e ∷ es)) p) (sym place)
    (subst (λ (l : List ℕ). StandsAmong l n) (sym (places_cons n e es))
    (first_if (is_freeze e.call) n (freezes_from (n + 1) es) freezes_here))
stands_there n (suc i) (e ∷ es) caller is =
    let rest = stands_there (n + 1) i es caller is in
    let place : n + 1 + i ≡ n + suc i = omega arith in
    subst (λ (p : ℕ). StandsAmong (freezes_from n (e ∷ es)) p) place
    (subst (λ (l : List ℕ). StandsAmong l (n + 1 + i)) (sym (places_cons n e es))
    (kept_if (is_freeze e.call) n (n + 1 + i) (freezes_from (n + 1) es) rest))
