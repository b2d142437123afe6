-- A day under way, call by call.
use Rattle.std.proofs.Common.{◌≡◌, ◌⊎◌, inl, inr, ⊎_elim, ℕ, suc, ◌+◌, ◌==◌, ◌<◌, ◌≤◌, Bool, true, false, cond, List, [], ◌∷◌, ◌++◌, length}
use Rattle.std.proofs.Common.{refl, sym, ap, ◌∙◌, subst, arith}
use Rattle.std.specs.Prelude.{slice_get, Some, Option, unwrap_or}
use Rattle.std.proofs.lemmas.Bool.{cases_eq, cases_lt, eq-eqb, ne_eqb}
use Rattle.std.proofs.lemmas.List.{append_assoc, map-append, length-append}
use Rattle.batch_core.specs.declared.call.Call.{Call}
use Rattle.batch_core.specs.declared.call.Call.TheVariants.{Freeze}
use Rattle.batch_core.specs.declared.entry.Entry.{Entry}
use Rattle.batch_core.specs.Histories.{own_calls}
use Rattle.batch_core.specs.Laws.{GrowsByAnAnswer}
use Rattle.day_reader.specs.declared.script.Script.{Script}
use Rattle.day_lines.specs.DayHistory.{calls_of, calls_in, clerk_freeze, IsHistoryOf}
use Rattle.sheet_check.specs.Difference.{line_at, first_line, behind_line}
use Rattle.day_replay.specs.Calls.{left_of, IsTaken, IsUnderWay, HasCalled}
use Rattle.day_replay.specs.Replay.{answered}
use Rattle.day_replay.specs.Saying.{Says}
use Rattle.day_replay.specs.Nearest.{HasSaid}
use Rattle.day_replay.proofs.Lists.{inside, got_behind, got_ahead}
use Rattle.day_replay.proofs.Own.{own_append}

-- a caller's calls, with one more
own_more :
    (caller : ℕ) (history : List Entry) (e : Entry)
    → calls_of (own_calls caller (history ++ e ∷ [])) ≡ calls_of (own_calls caller history) ++ cond (e.caller == caller) (e.call ∷ []) []
own_more caller history e =
    ap calls_of (own_append caller history (e ∷ []))
    ∙ (map-append (λ (x : Entry). x.call) (own_calls caller history) (own_calls caller (e ∷ []))
    ∙ ap (λ (l : List Call). calls_of (own_calls caller history) ++ l) (one (e.caller == caller)))
  where
    one : (b : Bool) → calls_of (cond b (e ∷ []) []) ≡ cond b (e.call ∷ []) []
    one true = refl
    one false = refl

-- a team makes its next call
pub goes_on :
    (grows : GrowsByAnAnswer) (scripts : List Script) (left then : List (List Call)) (history : List Entry) (team : ℕ) (call : Call)
    → 1 ≤ team → IsTaken team call left then → IsUnderWay scripts left history
    → IsUnderWay scripts then (history ++ answered history team call ∷ [])
goes_on grows scripts left then history team call some taken way = record {
  legal = grows history e way.legal refl;
  no_clerk =
      own_append 0 history (e ∷ [])
      ∙ ((λ i. way.no_clerk i ++ cond (ne_eqb team 0 (λ is. absurd (omega (arith, some, is))) i) (e ∷ []) []));
  each = λ other from.
      ap (λ (l : List Call). l ++ left_of then other) (own_more other history e)
      ∙ (append_assoc (calls_of (own_calls other history)) (cond (team == other) (call ∷ []) []) (left_of then other)
      ∙ (ap (λ (l : List Call). calls_of (own_calls other history) ++ l) (rest other from) ∙ way.each other from));
}
  where
    e : Entry
    e = answered history team call

    rest : (other : ℕ) → 1 ≤ other → cond (team == other) (call ∷ []) [] ++ left_of then other ≡ left_of left other
    rest other from =
        ⊎_elim
        (λ same.
        ap (λ (b : Bool). cond b (call ∷ []) [] ++ left_of then other) (eq-eqb team other same)
        ∙ (ap (λ (k : ℕ). call ∷ left_of then k) (sym same) ∙ (sym taken.next ∙ ap (left_of left) same)))
        (λ differs.
        ap (λ (b : Bool). cond b (call ∷ []) [] ++ left_of then other) (ne_eqb team other differs)
        ∙ taken.others other from (λ is. differs (sym is)))
        (cases_eq team other)

-- nobody has called yet
pub begins : (scripts : List Script) (left : List (List Call)) → ((team : ℕ) → 1 ≤ team → left_of left team ≡ calls_in scripts team)
    → IsUnderWay scripts left []
begins scripts left all = record { legal = tt; no_clerk = refl; each = all }

-- the clerk's freeze ends it
pub ends :
    (grows : GrowsByAnAnswer) (scripts : List Script) (left : List (List Call)) (history : List Entry) → IsUnderWay scripts left history
    → ((team : ℕ) → 1 ≤ team → left_of left team ≡ []) → IsHistoryOf scripts (history ++ clerk_freeze ∷ [])
ends grows scripts left history way none = record {
  legal = grows history clerk_freeze way.legal refl;
  ends = record { before = history; last = refl; no_other = way.no_clerk };
  whole = λ team from.
      own_more team history clerk_freeze
      ∙ (ap (λ (b : Bool). calls_of (own_calls team history) ++ cond b (Freeze ∷ []) []) (ne_eqb 0 team (λ is. absurd (omega (arith, from, is))))
      ∙ (ap (λ (l : List Call). calls_of (own_calls team history) ++ l) (sym (none team from)) ∙ way.each team from));
}

-- ---- along the lines of a text

pub nobody_said : (text : List ℕ) → HasSaid text []
nobody_said text k e at = absurd (cc)

pub said_more :
    (text : List ℕ) (old new : List Entry) (team : ℕ) → HasSaid text old → 1 ≤ team → HasCalled team old new
    → Says (length old + 1) team (line_at (length old) text) → HasSaid text new
said_more text old new team said some called says k e at = by (cases_lt k (length old))
  where
    there : slice_get (old ++ called.0 ∷ []) k ≡ Some e
    there = subst (λ (l : List Entry). slice_get l k ≡ Some e) called.2 at

    by : (k < length old) ⊎ (length old ≤ k) → (1 ≤ e.caller) × Says (k + 1) e.caller (line_at k text)
    by (inl before) = said k e (sym (got_ahead old (called.0 ∷ []) k before) ∙ there)
    by (inr behind) =
        let within = inside (old ++ called.0 ∷ []) k e there in
        let here : k ≡ length old = omega (arith, behind, within, length-append old (called.0 ∷ [])) in
        let got : Some called.0 ≡ Some e =
        sym (got_behind old called.0 []) ∙ (ap (slice_get (old ++ called.0 ∷ [])) (sym here) ∙ there) in
        let caller : team ≡ e.caller = sym called.1 ∙ ap (λ (o : Option Entry). (unwrap_or o called.0).caller) got in (
          subst (λ (t : ℕ). 1 ≤ t) caller some,
          subst (λ (t : ℕ). Says (k + 1) t (line_at k text)) caller
              (subst (λ (n : ℕ). Says (n + 1) team (line_at n text)) (sym here) says),
        )

-- ---- the lines that are left

-- The line of the next call, and what is after it.
pub record IsNextLine (text line rest : List ℕ) (n : ℕ) : Type 0 where
  pub line_is : line ≡ line_at n text
  pub rest_is : (k : ℕ) → line_at k rest ≡ line_at (n + 1 + k) text

pub first_is_next : (text : List ℕ) → IsNextLine text (first_line text) (behind_line text) 0
first_is_next text = record { line_is = refl; rest_is = λ k. let e : suc k ≡ 0 + 1 + k = omega arith in ap (λ (n : ℕ). line_at n text) e }

pub next_is_next :
    (text line rest : List ℕ) (n m : ℕ) → IsNextLine text line rest n → m ≡ n + 1
    → IsNextLine text (first_line rest) (behind_line rest) m
next_is_next text line rest n m is one = record {
  line_is = is.rest_is 0 ∙ (let e : n + 1 + 0 ≡ m = omega (arith, one) in ap (λ (j : ℕ). line_at j text) e);
  rest_is = λ k. is.rest_is (suc k) ∙ (let e : n + 1 + suc k ≡ m + 1 + k = omega (arith, one) in ap (λ (j : ℕ). line_at j text) e);
}
