-- Teams, one more at a time, and one call more of the last.
use Rattle.std.proofs.Common.{◌≡◌, ℕ, ◌+◌, ◌≤◌, ◌==◌, ◌||◌, Bool, false, cond, List, [], ◌∷◌, ◌++◌, length}
use Rattle.std.proofs.Common.{map, All, refl, sym, ◌∙◌, ap, subst, arith}
use Rattle.std.specs.Prelude.{count_by}
use Rattle.std.specs.List.{flat_map, list_any}
use Rattle.std.proofs.lemmas.List.{append-nil, map-append, length-append, get_or_append_left, get_or_at}
use Rattle.std.proofs.lemmas.List.Elements.{All-nil, All-push}
use Rattle.std.proofs.lemmas.List.Sums.{sum_by_push}
use Rattle.std.proofs.lemmas.Grind.{flat_map-append}
use Rattle.batch_core.specs.declared.call.Call.{Call}
use Rattle.input_text.specs.Token.{Item}
use Rattle.input_text.specs.Range.{IsIn}
use Rattle.day_reader.specs.declared.script.Script.{Script}
use Rattle.day_reader.specs.Call.{call_items, IsCall, is_freeze, freezes}
use Rattle.day_reader.specs.Day.{AreDifferent, team_items, AreTeams}
use Rattle.day_reader.specs.TeamTable.{stands, no_calls, with_call, and_team}
use Rattle.day_reader.proofs.DifferentNumbers.{no_numbers, one_number_more}

abbrev pub team_of : Script → ℕ
team_of script = script.team

module _ {X : Type 0} (P : X → Type 0) (xs : List X) where
  pub all_before : (ys : List X) → All P (xs ++ ys) → All P xs
  all_before ys all k d inside =
      subst P (get_or_append_left xs ys d k inside) (all k d (omega (arith, inside, length-append xs ys)))

  pub at_last : (x : X) → All P (xs ++ x ∷ []) → P x
  at_last x all =
      subst P (get_or_at xs x [] x (length xs) refl)
      (all (length xs) x (omega (arith, length-append xs (x ∷ []))))

any_mapped : {X Y : Type 0} (p : Y → Bool) (f : X → Y) (xs : List X) → list_any p (map f xs) ≡ list_any (λ x. p (f x)) xs
any_mapped p f [] = refl
any_mapped p f (x ∷ xs) = ap (λ (b : Bool). p (f x) || b) (any_mapped p f xs)

pub stands_number : (teams : List Script) (n : ℕ) → list_any (λ c. c == n) (map team_of teams) ≡ stands teams n
stands_number teams n = any_mapped (λ c. c == n) team_of teams

-- ---- freezes

pub freezes_push :
    (before : List Script) (script : Script)
    → freezes (and_team before script) ≡ freezes before + count_by is_freeze script.calls
freezes_push before script = sum_by_push (λ (s : Script). count_by is_freeze s.calls) before script

abbrev pub one_if : Bool → ℕ
one_if b = cond b 1 0

pub freezes_call :
    (before : List Script) (script : Script) (call : Call)
    → freezes (and_team before (with_call script call)) ≡ freezes (and_team before script) + one_if (is_freeze call)
freezes_call before script call =
    let last : count_by is_freeze (script.calls ++ call ∷ []) ≡ count_by is_freeze script.calls + one_if (is_freeze call) =
    sum_by_push (λ (c : Call). one_if (is_freeze c)) script.calls call in
    omega (arith, freezes_push before script, freezes_push before (with_call script call), last)

-- ---- teams

pub numbers_push :
    (before : List Script) (script : Script) → AreDifferent 16 (map team_of before) → IsIn 16 script.team
    → stands before script.team ≡ false → AreDifferent 16 (map team_of (and_team before script))
numbers_push before script are is new =
    subst (AreDifferent 16) (sym (map-append team_of before (script ∷ [])))
    (one_number_more 16 (map team_of before) script.team are is (stands_number before script.team ∙ new))

module _ (candidates : ℕ) where
  abbrev AreCalls : Script → Type 0
  AreCalls script = All (IsCall candidates) script.calls

  pub no_teams : AreTeams candidates []
  no_teams = record { numbers = no_numbers 16; calls = All-nil AreCalls; few_freezes = omega arith }

  pub one_team_more :
      (before : List Script) (n : ℕ) → AreTeams candidates before → IsIn 16 n → stands before n ≡ false
      → AreTeams candidates (and_team before (no_calls n))
  one_team_more before n are is new = record {
    numbers = numbers_push before (no_calls n) are.numbers is new;
    calls = All-push AreCalls before (no_calls n) are.calls (All-nil (IsCall candidates));
    few_freezes = omega (arith, freezes_push before (no_calls n), are.few_freezes);
  }

  pub one_call_more :
      (before : List Script) (script : Script) (call : Call) → AreTeams candidates (and_team before script)
      → IsCall candidates call → freezes (and_team before script) + one_if (is_freeze call) ≤ 8
      → AreTeams candidates (and_team before (with_call script call))
  one_call_more before script call are is few = record {
    numbers =
        subst (AreDifferent 16) (map-append team_of before (script ∷ [])
        ∙ sym (map-append team_of before (with_call script call ∷ []))) are.numbers;
    calls =
        All-push AreCalls before (with_call script call) (all_before AreCalls before (script ∷ []) are.calls)
        (All-push (IsCall candidates) script.calls call (at_last AreCalls before script are.calls) is);
    few_freezes = omega (arith, freezes_call before script call, few);
  }

-- ---- their items

pub items_push :
    (before : List Script) (script : Script) → flat_map team_items (and_team before script)
    ≡ flat_map team_items before ++ team_items script
items_push before script =
    flat_map-append team_items before (script ∷ [])
    ∙ ap (λ (l : List Item). flat_map team_items before ++ l) (append-nil (team_items script))

pub items_call : (script : Script) (call : Call) → team_items (with_call script call) ≡ team_items script ++ call_items call
items_call script call =
    ap (λ (l : List Item). team_items (no_calls script.team) ++ l)
    (flat_map-append call_items script.calls (call ∷ [])
    ∙ ap (λ (l : List Item). flat_map call_items script.calls ++ l) (append-nil (call_items call)))
