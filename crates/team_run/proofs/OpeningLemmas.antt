-- One pass after another.
use Rattle.std.proofs.Common.{◌≡◌, ℕ, List, [], ◌∷◌, ◌++◌, length, map, reverse, All, refl, sym, ap}
use Rattle.std.proofs.Common.{subst, ◌∙◌, length-append, arith}
use Rattle.std.proofs.lemmas.List.{map-append, reverse-append, reverse-reverse}
use Rattle.std.proofs.lemmas.List.Elements.{All-nil, All-push}
use Rattle.day_reader.specs.declared.script.Script.{Script}
use Rattle.day_reader.specs.Said.{IsAnswerable}
use Rattle.shard_office.specs.Office.{OfficeState}
use Rattle.shard_office.specs.Clerk.{ClerkState}
use Rattle.team_run.specs.declared.team.Team.{Team}
use Rattle.team_run.specs.Teams.{RisesFrom, MayRun, IsFresh}
use Rattle.team_run.specs.Runs.{asked, IsReady, HasGiven, IsOpening}
use Rattle.team_run.proofs.Lists.{next_of, All-reverse, All-split}

abbrev CanAnswer : OfficeState → Script → Type 0
CanAnswer office script = All (IsAnswerable office.candidates) script.calls

pub opening_none : (office : OfficeState) (old : ClerkState) (scripts left : List Script) (teams : List Team) → IsFresh old
    → MayRun office.candidates scripts → teams ≡ [] → left ≡ reverse scripts → IsOpening office old scripts left old teams
opening_none office old scripts left teams fresh may none is =
    let turned : reverse left ≡ scripts = ap reverse is ∙ reverse-reverse scripts in
    subst (IsOpening office old scripts left old) (sym none) (record {
      opened = record {
        desk = refl;
        taken = refl;
        open_teams = fresh.open_teams;
        ready = All-nil (IsReady office);
        left = scripts;
        first = refl;
      };
      whole = sym turned;
      rises =
          subst (λ (l : List Script). RisesFrom old.last_caller l) (sym turned)
          (subst (λ (n : ℕ). RisesFrom n scripts) (sym fresh.last_caller) may.numbers);
      answerable = subst (All (CanAnswer office)) (sym is) (All-reverse (CanAnswer office) scripts may.calls);
    })

turned_last : (left rest : List Script) (script : Script) → left ≡ rest ++ script ∷ [] → reverse left ≡ script ∷ reverse rest
turned_last left rest script is = ap reverse is ∙ reverse-append rest (script ∷ [])

next_rises :
    (office : OfficeState) (old new : ClerkState) (scripts left rest : List Script) (script : Script)
    (teams : List Team)
    → IsOpening office old scripts left new teams → left ≡ rest ++ script ∷ []
    → RisesFrom new.last_caller (script ∷ reverse rest)
next_rises office old new scripts left rest script teams o is =
    subst (RisesFrom new.last_caller) (turned_last left rest script is) o.rises

pub next_can :
    (office : OfficeState) (old new : ClerkState) (scripts left rest : List Script) (script : Script)
    (teams : List Team)
    → IsOpening office old scripts left new teams → left ≡ rest ++ script ∷ []
    → All (IsAnswerable office.candidates) script.calls
next_can office old new scripts left rest script teams o is =
    (All-split (CanAnswer office) rest script (subst (All (CanAnswer office)) is o.answerable)).1

pub opening_more :
    (office : OfficeState) (old now new : ClerkState) (scripts left rest : List Script) (script : Script)
    (teams more : List Team) (team : Team)
    → IsOpening office old scripts left now teams → left ≡ rest ++ script ∷ [] → HasGiven script.team now new
    → more ≡ teams ++ team ∷ [] → IsReady office team → asked team ≡ script → IsOpening office old scripts rest new more
opening_more office old now new scripts left rest script teams more team o is given added ready asks =
    let asked_more : map asked more ≡ map asked teams ++ script ∷ [] =
    ap (map asked) added ∙ (map-append asked teams (team ∷ []) ∙ ap (λ (s : Script). map asked teams ++ s ∷ []) asks) in
    let whole : scripts ≡ map asked more ++ reverse rest =
    o.whole
    ∙ (next_of (map asked teams) rest script left is
    ∙ ap (λ (l : List Script). l ++ reverse rest) (sym asked_more)) in
    record {
      opened = record {
        desk = given.desk ∙ o.opened.desk;
        taken = given.taken ∙ o.opened.taken;
        open_teams =
            let one = given.open_teams in
            let before = o.opened.open_teams in
            let long = ap length added in
            let parts = length-append teams (team ∷ []) in
            omega arith;
        ready = subst (All (IsReady office)) (sym added) (All-push (IsReady office) teams team o.opened.ready ready);
        left = reverse rest;
        first = whole;
      };
      whole = whole;
      rises =
          subst (λ (n : ℕ). RisesFrom n (reverse rest)) (sym given.last_caller)
          (next_rises office old now scripts left rest script teams o is).1;
      answerable = (All-split (CanAnswer office) rest script (subst (All (CanAnswer office)) is o.answerable)).0;
    }
