-- What all teams have made.
use Rattle.std.proofs.Common.{◌≡◌, ℕ, suc, ◌<◌, false, List, [], ◌∷◌, ◌++◌, length, map, slice_index_or, All}
use Rattle.std.proofs.Common.{refl, sym, ap, arith}
use Rattle.std.proofs.lemmas.List.Elements.{All-nil, All-cons, All-head, All-tail}
use Rattle.batch_core.specs.declared.entry.Entry.{Entry}
use Rattle.day_reader.specs.declared.script.Script.{Script}
use Rattle.shard_office.specs.Office.{OfficeState}
use Rattle.team_run.specs.declared.team.Team.{Team}
use Rattle.day_lines.specs.DayHistory.{calls_of}
use Rattle.team_run.specs.Teams.{script_of, HaveBegun}
use Rattle.team_run.specs.Runs.{asked, IsReady, IsAtWork, passes_of, HasRun, AreRun}

pub are_run : (office : OfficeState) (olds news : List Team) → length news ≡ length olds
    → ((i : ℕ) (d : Team) → i < length olds
    → HasRun office (slice_index_or olds i d) (slice_index_or news i d)) → AreRun office olds news
are_run office [] [] as_many run = tt
are_run office [] (new ∷ news) as_many run = absurd (omega arith)
are_run office (old ∷ olds) [] as_many run = absurd (omega arith)
are_run office (old ∷ olds) (new ∷ news) as_many run = (
  run 0 old (omega arith),
  are_run office olds news (omega arith) (λ i d below. run (suc i) d (omega arith)),
)

pub as_many : (office : OfficeState) (olds news : List Team) → AreRun office olds news → length news ≡ length olds
as_many office [] [] run = refl
as_many office [] (new ∷ news) run = absurd run
as_many office (old ∷ olds) [] run = absurd run
as_many office (old ∷ olds) (new ∷ news) run = ap suc (as_many office olds news run.1)

pub still_of :
    (office : OfficeState) (olds news : List Team) → AreRun office olds news
    → All (λ team. team.pass.office ≡ office) news
still_of office [] [] run = All-nil (λ (team : Team). team.pass.office ≡ office)
still_of office [] (new ∷ news) run = absurd run
still_of office (old ∷ olds) [] run = absurd run
still_of office (old ∷ olds) (new ∷ news) run =
    All-cons (λ (team : Team). team.pass.office ≡ office) new news run.0.office_is (still_of office olds news run.1)

same_script : (one other : Script) → one.team ≡ other.team → one.calls ≡ other.calls → one ≡ other
same_script one other team calls = λ i. record { team = team i; calls = calls i }

pub all_whole :
    (office : OfficeState) (olds news : List Team) → AreRun office olds news
    → All (λ team. team.refused ≡ false) news
    → map script_of (passes_of news) ≡ map asked olds
all_whole office [] [] run whole = refl
all_whole office [] (new ∷ news) run whole = absurd run
all_whole office (old ∷ olds) [] run whole = absurd run
all_whole office (old ∷ olds) (new ∷ news) run whole =
    let P : Team → Type 0 = λ team. team.refused ≡ false in
    let here : script_of new.pass ≡ asked old =
    same_script (script_of new.pass) (asked old) run.0.begun.number
    (run.0.whole (All-head P new news whole)) in
    λ i. here i ∷ all_whole office olds news run.1 (All-tail P new news whole) i

pub all_begun :
    (office : OfficeState) (olds news : List Team) → AreRun office olds news
    → HaveBegun (passes_of news) (map asked olds)
all_begun office [] [] run = tt
all_begun office [] (new ∷ news) run = absurd run
all_begun office (old ∷ olds) [] run = absurd run
all_begun office (old ∷ olds) (new ∷ news) run = (run.0.begun, all_begun office olds news run.1)

abbrev pub HasWork : Team → Type 0
HasWork team = IsAtWork team.pass team.versions.items

pub all_work : (office : OfficeState) (olds news : List Team) → AreRun office olds news → All HasWork news
all_work office [] [] run = All-nil HasWork
all_work office [] (new ∷ news) run = absurd run
all_work office (old ∷ olds) [] run = absurd run
all_work office (old ∷ olds) (new ∷ news) run = All-cons HasWork new news run.0.work (all_work office olds news run.1)

-- passes that have made no call yet
pub opened_begun :
    (office : OfficeState) (teams : List Team) (rest : List Script) → All (IsReady office) teams
    → HaveBegun (passes_of teams) (map asked teams ++ rest)
opened_begun office [] rest ready = tt
opened_begun office (team ∷ teams) rest ready = (
  record {
    number = refl;
    left = team.left;
    calls = sym (ap (λ (o : List Entry). calls_of o ++ team.left) (All-head (IsReady office) team teams ready).own_is);
  },
  opened_begun office teams rest (All-tail (IsReady office) team teams ready),
)
