-- A day that has ended.
use Rattle.std.proofs.Common.{◌≡◌, ◌≢◌, ℕ, ◌+◌, ◌-◌, ◌<◌, ◌≤◌, List, [], ◌∷◌, ◌++◌, length, map, All}
use Rattle.std.proofs.Common.{AllPairs, Any, sym, ap, subst, ◌∙◌, arith, length-append}
use Rattle.std.specs.Prelude.{slice_get, Some}
use Rattle.std.proofs.lemmas.List.{length-map}
use Rattle.std.proofs.lemmas.List.Elements.{All-nil, All-cons, All-head, All-tail, All-push, All-weaker}
use Rattle.batch_core.specs.declared.entry.Entry.{Entry}
use Rattle.batch_core.specs.Histories.{own_calls}
use Rattle.call_register.specs.Weaving.{freeze_entry}
use Rattle.day_reader.specs.Call.{freezes}
use Rattle.shard_office.specs.Sight.{Sight, history_of}
use Rattle.shard_office.specs.Passes.{PassState}
use Rattle.shard_office.specs.Clerk.{ClerkState, IsTaken}
use Rattle.frozen_version.specs.Versions.{VersionState, StandsIn}
use Rattle.shard_office.specs.Versions.{IsFreeze}
use Rattle.shard_office.specs.Closing.{IsClosed}
use Rattle.shard_office.specs.Laws.{VersionsAreOfHistories, VersionsStandInHistories, TheClerkHasSeenAll}
use Rattle.team_run.specs.Teams.{IsFreezeOf}
use Rattle.team_run.specs.Runs.{place_of}
use Rattle.team_run.specs.Endings.{freezes_from, DaysEnd}
use Rattle.team_run.proofs.Lists.{got, pairs_head, pairs_tail, pairs_append, one_pair}
use Rattle.team_run.proofs.Sights.{froze_stays, one_caller, at_the_end, froze_last}
use Rattle.team_run.proofs.Ends.{teams_have_their_scripts, no_other_of_clerk}
use Rattle.team_run.proofs.Rising.{Rise, StandsAmong, StandAmong}
use Rattle.team_run.proofs.Freezes.{stands_there, all_placed}

abbrev IsBefore : VersionState → VersionState → Type 0
IsBefore v w = v.at < w.at

rises_up : (n : ℕ) (vs : List VersionState) → All (λ v. n ≤ v.at) vs → AllPairs IsBefore vs → Rise n (map place_of vs)
rises_up n [] least rising = tt
rises_up n (v ∷ vs) least rising = (
  All-head (λ (x : VersionState). n ≤ x.at) v vs least,
  rises_up (v.at + 1) vs (All-weaker (IsBefore v) (λ (x : VersionState). v.at + 1 ≤ x.at)
      (λ x h. omega (arith, h)) vs (pairs_head IsBefore v vs rising)) (pairs_tail IsBefore v vs rising),
)

among :
    (history : List Entry) (vs : List VersionState) → All (λ v. StandsIn v history) vs
    → StandAmong (freezes_from 1 history) (map place_of vs)
among history [] stand = tt
among history (v ∷ vs) stand =
    let here = All-head (λ (x : VersionState). StandsIn x history) v vs stand in
    let place : 1 + (v.at - 1) ≡ v.at = (let some = here.some in omega arith) in (
      subst (λ (p : ℕ). StandsAmong (freezes_from 1 history) p) place
          (stands_there 1 (v.at - 1) history here.freeze.0 here.freeze.1),
      among history vs (All-tail (λ (x : VersionState). StandsIn x history) v vs stand),
    )

abbrev AreTaken : ClerkState → Type 0
AreTaken clerk =
    (k : ℕ) (pass : PassState) → slice_get clerk.taken k ≡ Some pass
    → IsTaken clerk.desk.office clerk.desk.sight pass

-- a version of a pass that was taken in is before the clerk's
before_last :
    (clerk : ClerkState) (before : Sight) (last v : VersionState) → AreTaken clerk
    → IsFreeze clerk.desk.office.shards 0 last before clerk.desk.sight
    → Any (λ pass. IsFreezeOf pass v) clerk.taken → IsBefore v last
before_last clerk before last v taken frozen any =
    let pass = any.1 in
    let is : slice_get clerk.taken any.0 ≡ Some pass = got clerk.taken any.0 pass any.2 ∙ ap Some any.3 in
    let was = taken any.0 pass is in
    let here = froze_stays pass.sight clerk.desk.sight pass.caller v any.4.froze was.begins in
    let there = froze_last clerk.desk.office.shards 0 last before clerk.desk.sight frozen in
    let end = at_the_end clerk.desk.office.shards 0 last before clerk.desk.sight frozen in
    let differ : v.at ≢ last.at =
    λ same. (let nobody =
    one_caller clerk.desk.sight pass.caller 0 v last here there same in
    let some = was.some in absurd (omega (arith, nobody, some))) in
    let seen = any.4.seen.seen in
    let long = ap length was.begins.marks.1 ∙ length-append pass.sight.marks was.begins.marks.0 in
    omega (arith, differ, seen, long, end)

stands_of_one :
    VersionsAreOfHistories → VersionsStandInHistories
    → (clerk : ClerkState) (history : List Entry) (v : VersionState) → 1 ≤ clerk.desk.office.shards
    → IsClosed clerk history → Any (λ pass. IsFreezeOf pass v) clerk.taken → AreTaken clerk → StandsIn v history
stands_of_one histories stand clerk history v some closed any taken =
    let pass = any.1 in
    let is : slice_get clerk.taken any.0 ≡ Some pass = got clerk.taken any.0 pass any.2 ∙ ap Some any.3 in
    let least : 1 ≤ pass.office.shards = subst (λ o. 1 ≤ o.shards) (sym (taken any.0 pass is).office) some in
    stand pass.office.shards v history least closed.legal (histories v pass history any.4.seen (closed.passes any.0 pass is))

pub days_end : VersionsAreOfHistories → VersionsStandInHistories → TheClerkHasSeenAll → DaysEnd
days_end histories stand all scripts versions last clerk before history some zero rises are vs taken frozen own_is closed =
    let seen_all : history ≡ history_of clerk.desk.sight = all clerk history some zero closed taken frozen.whole in
    let ends : history ≡ frozen.last.0 ++ freeze_entry 0 ∷ [] = seen_all ∙ frozen.last.1 in
    let clerks : own_calls 0 history ≡ freeze_entry 0 ∷ [] =
    ap (λ (p : ℕ). own_calls p history) (sym zero) ∙ (closed.desk.own_are ∙ own_is) in
    let Of : VersionState → Type 0 = λ v. Any (λ pass. IsFreezeOf pass v) clerk.taken in
    let stands : All (λ v. StandsIn v history) (versions ++ last ∷ []) =
    All-push (λ (v : VersionState). StandsIn v history) versions last
    (All-weaker Of (λ (v : VersionState). StandsIn v history)
    (λ v any. stands_of_one histories stand clerk history v some closed any taken) versions vs.each)
    (stand clerk.desk.office.shards last history some closed.legal
    (histories last clerk.desk history frozen.version_of closed.desk)) in
    let rising : AllPairs IsBefore (versions ++ last ∷ []) =
    pairs_append IsBefore versions (last ∷ []) vs.rising (one_pair IsBefore last)
    (All-weaker Of (λ v. All (IsBefore v) (last ∷ []))
    (λ v any. All-cons (IsBefore v) last [] (before_last clerk before last v taken frozen any)
    (All-nil (IsBefore v))) versions vs.each) in
    let rise =
    rises_up 1 (versions ++ last ∷ []) (All-weaker (λ (v : VersionState). StandsIn v history)
    (λ (v : VersionState). 1 ≤ v.at) (λ v s. s.some) (versions ++ last ∷ []) stands) rising in
    let many : length (map place_of (versions ++ last ∷ [])) ≡ freezes scripts + 1 =
    (let long = length-map (versions ++ last ∷ []) place_of in
    let parts = length-append versions (last ∷ []) in
    let teams : length versions ≡ freezes scripts = vs.as_many ∙ ap freezes are in
    omega (arith, long, parts, teams)) in
    record {
      legal = closed.legal;
      before = frozen.last.0;
      last = ends;
      no_other = no_other_of_clerk frozen.last.0 (ap (own_calls 0) (sym ends) ∙ clerks);
      whole = teams_have_their_scripts clerk history scripts are rises closed;
      places =
          all_placed clerk history scripts (map place_of (versions ++ last ∷ [])) are rises closed zero own_is
          many rise (among history (versions ++ last ∷ []) stands);
      stand = stands;
    }
