-- What a team has after each of its calls.
use Rattle.std.proofs.Common.{◌≡◌, ℕ, ◌+◌, ◌<◌, Bool, List, [], ◌∷◌, ◌++◌, count_by, cond, All, sym}
use Rattle.std.proofs.Common.{ap, subst, ◌∙◌, length-append, arith}
use Rattle.std.proofs.lemmas.List.{map-append}
use Rattle.std.proofs.lemmas.List.Sums.{sum_by-append}
use Rattle.std.proofs.lemmas.List.Elements.{All-nil, All-cons, All-push, All-weaker}
use Rattle.batch_core.specs.declared.call.Call.{Call}
use Rattle.batch_core.specs.declared.entry.Entry.{Entry}
use Rattle.day_reader.specs.Call.{is_freeze}
use Rattle.call_register.specs.Weaving.{freeze_entry}
use Rattle.shard_office.specs.Office.{OfficeState}
use Rattle.shard_office.specs.Passes.{PassState, own}
use Rattle.frozen_version.specs.Versions.{VersionState}
use Rattle.shard_office.specs.Versions.{IsFreeze}
use Rattle.shard_office.specs.Laws.{VersionsStay}
use Rattle.day_lines.specs.DayHistory.{calls_of}
use Rattle.team_run.specs.Teams.{FrozeAt, IsFreezeOf}
use Rattle.team_run.specs.Runs.{freezes_of, IsSamePass, IsAtWork}
use Rattle.team_run.proofs.Lists.{pairs_append, one_pair}
use Rattle.team_run.proofs.Sights.{freeze_stays, later, froze_last}

pub count_append : (xs ys : List Call) → count_by is_freeze (xs ++ ys) ≡ count_by is_freeze xs + count_by is_freeze ys
count_append xs ys = sum_by-append (λ (c : Call). cond (is_freeze c) 1 0) xs ys

pub one_call_more :
    (old new : PassState) (e : Entry) → own new ≡ own old ++ e ∷ []
    → calls_of (own new) ≡ calls_of (own old) ++ e.call ∷ []
one_call_more old new e is = ap calls_of is ∙ map-append (λ (x : Entry). x.call) (own old) (e ∷ [])

abbrev once : Bool → ℕ
once b = cond b 1 0

freezes_more :
    (old new : PassState) (call : Call) → calls_of (own new) ≡ calls_of (own old) ++ call ∷ []
    → freezes_of new ≡ freezes_of old + once (is_freeze call)
freezes_more old new call is =
    let both = ap (count_by is_freeze) is in
    let parts = count_append (calls_of (own old)) (call ∷ []) in
    omega (arith, both, parts)

pub still_at_work :
    VersionsStay → (old new : PassState) (versions : List VersionState) → IsSamePass old new
    → freezes_of new ≡ freezes_of old → IsAtWork old versions → IsAtWork new versions
still_at_work stay old new versions same none work = record {
  as_many = work.as_many ∙ sym none;
  rising = work.rising;
  each = All-weaker (IsFreezeOf old) (IsFreezeOf new) (λ v f. freeze_stays stay old new v same f) versions work.each;
}

-- a refused call
pub same_work :
    VersionsStay → (old new : PassState) (versions : List VersionState) → IsSamePass old new
    → own new ≡ own old → IsAtWork old versions → IsAtWork new versions
same_work stay old new versions same none work =
    still_at_work stay old new versions same (ap (λ (l : List Entry). count_by is_freeze (calls_of l)) none) work

pub at_work_with :
    VersionsStay
    → (office : OfficeState) (old new : PassState) (versions : List VersionState) (v : VersionState)
    → IsSamePass old new
    → own new ≡ own old ++ freeze_entry old.caller ∷ [] → IsFreeze office.shards old.caller v old.sight new.sight
    → v.candidates ≡ office.candidates → old.office ≡ office → IsAtWork old versions → IsAtWork new (versions ++ v ∷ [])
at_work_with stay office old new versions v same made frozen candidates of work = record {
  as_many =
      let more =
      freezes_more old new (freeze_entry old.caller).call
      (one_call_more old new (freeze_entry old.caller) made) in
      let long = length-append versions (v ∷ []) in
      let many = work.as_many in
      omega (arith, more, long, many);
  rising =
      pairs_append (λ (x y : VersionState). x.at < y.at) versions (v ∷ []) work.rising
      (one_pair (λ (x y : VersionState). x.at < y.at) v)
      (All-weaker (IsFreezeOf old) (λ x. All (λ y. x.at < y.at) (v ∷ []))
      (λ x f. All-cons (λ (y : VersionState). x.at < y.at) v [] (let seen =
      f.seen.seen in
      let after = later office.shards old.caller v old.sight new.sight frozen in omega arith)
      (All-nil (λ (y : VersionState). x.at < y.at)))
      versions work.each);
  each = All-push (IsFreezeOf new) versions v
      (All-weaker (IsFreezeOf old) (IsFreezeOf new) (λ x f. freeze_stays stay old new x same f) versions work.each)
      (record {
        seen = frozen.version_of;
        froze =
            subst (λ (p : ℕ). FrozeAt new.sight p v) (sym same.caller)
            (froze_last office.shards old.caller v old.sight new.sight frozen);
        candidates = candidates ∙ sym (ap (λ (o : OfficeState). o.candidates) (same.office ∙ of));
      });
}
