-- One call of a team after another.
use Rattle.std.proofs.Common.{◌≡◌, ℕ, ◌<◌, List, [], ◌∷◌, ◌++◌, reverse, count_by, All, refl, sym, ap, subst}
use Rattle.std.proofs.Common.{◌∙◌}
use Rattle.std.proofs.lemmas.List.{reverse-reverse}
use Rattle.std.proofs.lemmas.List.Elements.{All-nil}
use Rattle.batch_core.specs.declared.call.Call.{Call}
use Rattle.batch_core.specs.declared.entry.Entry.{Entry}
use Rattle.day_reader.specs.Call.{is_freeze}
use Rattle.day_reader.specs.Said.{IsAnswerable}
use Rattle.shard_office.specs.Office.{OfficeState}
use Rattle.shard_office.specs.Passes.{PassState, own}
use Rattle.frozen_version.specs.Versions.{VersionState}
use Rattle.day_lines.specs.DayHistory.{calls_of}
use Rattle.team_run.specs.Teams.{HasBegun, IsFreezeOf}
use Rattle.team_run.specs.Runs.{IsSamePass, IsAtWork, IsMaking}
use Rattle.team_run.proofs.Lists.{next_of, All-reverse, All-split, no_pairs}

no_work : (pass : PassState) (versions : List VersionState) → own pass ≡ [] → versions ≡ [] → IsAtWork pass versions
no_work pass versions none is =
    subst (IsAtWork pass) (sym is) (record {
      as_many = sym (ap (λ (l : List Entry). count_by is_freeze (calls_of l)) none);
      rising = no_pairs (λ v w. v.at < w.at);
      each = All-nil (IsFreezeOf pass);
    })

pub making_none :
    (office : OfficeState) (calls left : List Call) (pass : PassState) (versions : List VersionState)
    → pass.office ≡ office → own pass ≡ [] → versions ≡ []
    → All (IsAnswerable office.candidates) calls → left ≡ reverse calls
    → IsMaking office pass.caller calls left pass versions
making_none office calls left pass versions of none nothing answerable is = record {
  office_is = of;
  caller_is = refl;
  work = no_work pass versions none nothing;
  whole =
      let turned : reverse left ≡ calls = ap reverse is ∙ reverse-reverse calls in
      sym (ap (λ (o : List Entry). calls_of o ++ reverse left) none ∙ turned);
  answerable =
      subst (All (IsAnswerable office.candidates)) (sym is)
      (All-reverse (IsAnswerable office.candidates) calls answerable);
}

pub next_answerable :
    (office : OfficeState) (caller : ℕ) (calls left rest : List Call) (call : Call) (pass : PassState)
    (versions : List VersionState)
    → IsMaking office caller calls left pass versions → left ≡ rest ++ call ∷ [] → IsAnswerable office.candidates call
next_answerable office caller calls left rest call pass versions m is =
    (All-split (IsAnswerable office.candidates) rest call (subst (All (IsAnswerable office.candidates)) is m.answerable)).1

pub making_more :
    (office : OfficeState) (caller : ℕ) (calls left rest : List Call) (call : Call) (pass next : PassState)
    (versions then : List VersionState)
    → IsMaking office caller calls left pass versions → left ≡ rest ++ call ∷ [] → IsSamePass pass next → IsAtWork next then
    → calls_of (own next) ≡ calls_of (own pass) ++ call ∷ [] → IsMaking office caller calls rest next then
making_more office caller calls left rest call pass next versions then m is same work made = record {
  office_is = same.office ∙ m.office_is;
  caller_is = same.caller ∙ m.caller_is;
  work = work;
  whole = m.whole ∙ (next_of (calls_of (own pass)) rest call left is ∙ ap (λ (l : List Call). l ++ reverse rest) (sym made));
  answerable =
      (All-split (IsAnswerable office.candidates) rest call
      (subst (All (IsAnswerable office.candidates)) is m.answerable)).0;
}

-- the last call was refused: all before it were made
pub made_first :
    (office : OfficeState) (caller : ℕ) (calls left : List Call) (pass next : PassState)
    (versions : List VersionState)
    → IsMaking office caller calls left pass versions → IsSamePass pass next → own next ≡ own pass
    → HasBegun next (record { team = caller; calls = calls })
made_first office caller calls left pass next versions m same none = record {
  number = same.caller ∙ m.caller_is;
  left = reverse left;
  calls = m.whole ∙ ap (λ (o : List Entry). calls_of o ++ reverse left) (sym none);
}

pub begun_all :
    (office : OfficeState) (caller : ℕ) (calls left : List Call) (pass : PassState)
    (versions : List VersionState)
    → IsMaking office caller calls left pass versions → left ≡ [] → HasBegun pass (record { team = caller; calls = calls })
begun_all office caller calls left pass versions m is = record {
  number = m.caller_is;
  left = [];
  calls = m.whole ∙ ap (λ (l : List Call). calls_of (own pass) ++ reverse l) is;
}
