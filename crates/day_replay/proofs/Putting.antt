-- The calls of a script are put before those that its team has.
use Rattle.std.proofs.Common.{◌≡◌, ⊎_elim, ℕ, ◌-◌, ◌==◌, ◌<◌, ◌≤◌, Bool, true, false, cond, List, [], ◌∷◌}
use Rattle.std.proofs.Common.{◌++◌, length, get_or, set, filter}
use Rattle.std.proofs.Common.{refl, sym, ap, ◌∙◌, arith}
use Rattle.std.specs.Prelude.{All, reverse}
use Rattle.std.specs.List.{flat_map}
use Rattle.std.proofs.lemmas.Bool.{cases_eq, eq-eqb, ne_eqb}
use Rattle.std.proofs.lemmas.List.{append-nil, append_assoc, length-set, get_or-set_same, get_or-set_other, get_or_default}
use Rattle.std.proofs.lemmas.List.Elements.{All-nil, All-head, All-tail, All-append, filter-append}
use Rattle.batch_core.specs.declared.call.Call.{Call}
use Rattle.day_reader.specs.declared.script.Script.{Script}
use Rattle.day_lines.specs.DayHistory.{calls_in}
use Rattle.day_replay.specs.Calls.{left_of}

calls_of_all : List Script → List Call
calls_of_all scripts = flat_map (λ (s : Script). s.calls) scripts

all_append :
    (xs ys : List Script)
    → flat_map (λ (s : Script). s.calls) (xs ++ ys)
    ≡ flat_map (λ (s : Script). s.calls) xs ++ flat_map (λ (s : Script). s.calls) ys
all_append [] ys = refl
all_append (x ∷ xs) ys =
    ap (λ (l : List Call). x.calls ++ l) (all_append xs ys)
    ∙ sym (append_assoc x.calls (flat_map (λ (s : Script). s.calls) xs) (flat_map (λ (s : Script). s.calls) ys))

-- the calls of a team, with those of one script more
calls_more :
    (scripts : List Script) (script : Script) (team : ℕ)
    → calls_in (scripts ++ script ∷ []) team ≡ calls_in scripts team ++ cond (script.team == team) script.calls []
calls_more scripts script team =
    ap (λ (l : List Script). flat_map (λ (s : Script). s.calls) l)
    (filter-append (λ (s : Script). s.team == team) scripts (script ∷ []))
    ∙ (all_append (filter (λ (s : Script). s.team == team) scripts) (cond (script.team == team) (script ∷ []) [])
    ∙ ap (λ (l : List Call). calls_in scripts team ++ l) (one (script.team == team)))
  where
    one : (b : Bool) → flat_map (λ (s : Script). s.calls) (cond b (script ∷ []) []) ≡ cond b script.calls []
    one true = append-nil script.calls
    one false = refl

module _ (all scripts rest : List Script) (script : Script) (left : List (List Call)) (list now : List Call)
    (teams : length left ≡ 16) (some : 1 ≤ script.team) (few : script.team ≤ 16) (parts : scripts ≡ rest ++ script ∷ [])
    (read : list ≡ get_or left (script.team - 1) list) (put : reverse now ≡ script.calls ++ reverse list)
    (before : (team : ℕ) → 1 ≤ team → calls_in scripts team ++ left_of left team ≡ calls_in all team) where
  below : script.team - 1 < length left
  below = omega (arith, some, few, teams)

  -- what each team has
  has :
      (team : ℕ) → 1 ≤ team
      → left_of (set left (script.team - 1) now) team
      ≡ cond (script.team == team) script.calls [] ++ left_of left team
  has team from =
      ⊎_elim
      (λ same. (
      ap (λ (k : ℕ). reverse (get_or (set left (script.team - 1) now) (k - 1) [])) (sym same)
      ∙ (ap reverse (get_or-set_same left (script.team - 1) now [] below)
      ∙ (put
      ∙ (ap (λ (l : List Call). script.calls ++ reverse l) (read
      ∙ (get_or_default left (script.team - 1) list [] below
      ∙ ap (λ (k : ℕ). get_or left (k - 1) []) same))
      ∙ ap (λ (b : Bool). cond b script.calls [] ++ left_of left team) (sym (eq-eqb script.team team same))))))
      )
      (λ other. (
      ap reverse (get_or-set_other left (script.team - 1) (team - 1) now []
      (λ equal. other (omega (arith, equal, from, some))))
      ∙ ap (λ (b : Bool). cond b script.calls [] ++ left_of left team) (sym (ne_eqb script.team team other))
      ))
      (cases_eq script.team team)

  pub put_on :
      (length (set left (script.team - 1) now) ≡ 16)
      × ((team : ℕ) → 1 ≤ team → calls_in rest team ++ left_of (set left (script.team - 1) now) team ≡ calls_in all team)
  put_on = (
    length-set left (script.team - 1) now ∙ teams,
    λ team from.
        ap (λ (l : List Call). calls_in rest team ++ l) (has team from)
        ∙ (sym (append_assoc (calls_in rest team) (cond (script.team == team) script.calls []) (left_of left team))
        ∙ (ap (λ (l : List Call). l ++ left_of left team)
        (sym (calls_more rest script team) ∙ ap (λ (l : List Script). calls_in l team) (sym parts))
        ∙ before team from)),
  )

-- ---- what an office can answer

module _ (P : Call → Type 0) where
  kept_if :
      (b : Bool) (script : Script) (rest : List Script) → All P script.calls
      → All P (flat_map (λ (s : Script). s.calls) rest)
      → All P (flat_map (λ (s : Script). s.calls) (cond b (script ∷ rest) rest))
  kept_if true script rest here others = All-append P script.calls (flat_map (λ (s : Script). s.calls) rest) here others
  kept_if false script rest here others = others

  -- what holds of the calls of all scripts holds of a team's
  pub of_a_team : (scripts : List Script) (team : ℕ) → All (λ s. All P s.calls) scripts → All P (calls_in scripts team)
  of_a_team [] team all = All-nil P
  of_a_team (script ∷ scripts) team all =
      kept_if (script.team == team) script (filter (λ (s : Script). s.team == team) scripts)
      (All-head (λ (s : Script). All P s.calls) script scripts all)
      (of_a_team scripts team (All-tail (λ (s : Script). All P s.calls) script scripts all))
