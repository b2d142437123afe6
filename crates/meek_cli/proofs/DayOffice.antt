-- The history that a day's office closed with, and the versions of its freezes.
use Rattle.std.proofs.Common.{◌≡◌, ℕ, List, [], ◌∷◌, ◌++◌, All, Any, sym, ap, ◌∙◌, subst}
use Rattle.std.specs.Prelude.{slice_get, Some}
use Rattle.std.proofs.lemmas.List.Elements.{All-push, All-weaker}
use Rattle.batch_core.specs.declared.entry.Entry.{Entry}
use Rattle.day_reader.specs.declared.script.Script.{Script}
use Rattle.shard_office.specs.Office.{OfficeState}
use Rattle.shard_office.specs.Sight.{Sight}
use Rattle.shard_office.specs.Passes.{PassState}
use Rattle.shard_office.specs.Clerk.{IsTaken}
use Rattle.frozen_version.specs.Versions.{VersionState}
use Rattle.team_run.specs.Teams.{AreVersionsOf, IsFreezeOf}
use Rattle.team_run.specs.Endings.{HasEnded}
use Rattle.team_run.proofs.Lists.{got}
use Rattle.day_lines.specs.DayHistory.{IsHistoryOf}
use Rattle.day_sheets.specs.Frozen.{AreFrozen}

pub history_of_day :
    (scripts : List Script) (versions : List VersionState) (history : List Entry)
    → HasEnded scripts versions history → IsHistoryOf scripts history
history_of_day scripts versions history ended = record {
  legal = ended.legal;
  ends = record { before = ended.before; last = ended.last; no_other = ended.no_other };
  whole = ended.whole;
}

abbrev IsOf : ℕ → VersionState → Type 0
IsOf n version = version.candidates ≡ n

-- the versions of passes that were taken in are of the office's candidates
of_office :
    (o : OfficeState) (now : Sight) (taken : List PassState) (versions : List VersionState) → AreVersionsOf taken versions
    → ((k : ℕ) (pass : PassState) → slice_get taken k ≡ Some pass → IsTaken o now pass) → All (IsOf o.candidates) versions
of_office o now taken versions are is =
    All-weaker (λ (v : VersionState). Any (λ pass. IsFreezeOf pass v) taken) (IsOf o.candidates)
    (λ v any.
    let pass = any.1 in
    let at : slice_get taken any.0 ≡ Some pass = got taken any.0 pass any.2 ∙ ap Some any.3 in
    any.4.candidates ∙ ap (λ (office : OfficeState). office.candidates) (is any.0 pass at).office)
    versions are.each

pub frozen_of_day :
    (o : OfficeState) (now : Sight) (taken : List PassState) (n : ℕ) (scripts : List Script)
    (versions all : List VersionState) (last : VersionState) (history : List Entry)
    → HasEnded scripts (versions ++ last ∷ []) history → all ≡ versions ++ last ∷ [] → o.candidates ≡ n
    → last.candidates ≡ n → AreVersionsOf taken versions
    → ((k : ℕ) (pass : PassState) → slice_get taken k ≡ Some pass → IsTaken o now pass) → AreFrozen n history all
frozen_of_day o now taken n scripts versions all last history ended put office of_last are is =
    subst (AreFrozen n history) (sym put)
    (record {
      places = ended.places;
      stand = ended.stand;
      of_all =
          All-push (IsOf n) versions last
          (subst (λ (m : ℕ). All (IsOf m) versions) office (of_office o now taken versions are is)) of_last;
    })
