use Rattle.std.proofs.Common.{◌≡◌, ◌+◌, ◌<◌, List, length, get_or, sym, ◌∙◌, ap, subst}
use Rattle.std.proofs.Common.{Vec, Global, sym, ◌∙◌, ap}
use Rattle.batch_core.specs.declared.entry.Entry.{Entry}
use Rattle.frozen_version.specs.Versions.{VersionState}
use Rattle.day_replay.proofs.Freezing.{AreSoFar, no_more, one_more}
use Rattle.day_replay.proofs.standing.versions_of.Goals.{then-is_freeze+in_ok-version+in_ok-push, else-is_freeze}
use Rattle.day_replay.proofs.standing.versions_of.Goals as goal

pub loop-place-preserved : goal.loop-place-preserved
loop-place-preserved g c =
    let n = c.args.candidates in
    let history = c.args.history.now in
    let k = c.loop-place.place in
    let e = c.entry-item.result in
    let all = c.items-entry-items.ensures ∙ c.entries.ensures in
    let inside : k < length history = subst (λ (l : List Entry). k < length l) all c.loop-place-test.true in
    let at : e ≡ get_or history k e = subst (λ (l : List Entry). e ≡ get_or l k e) all c.entry-item.is in
    let so_far = c.loop-place.invariant in
    elim c.if-is_freeze.branch [
      | then-is_freeze+in_ok-version+in_ok-push w ↦
          subst (AreSoFar n history (k + 1))
          (sym (ap (λ (v : Vec VersionState Global). v.items) w.versions-is ∙ w.in_ok-push.ensures.items))
          (one_more n history k e c.loop-place.versions.items inside at so_far w.in_ok-version.version
          (sym c.is_freeze.ensures ∙ w.if-is_freeze.true) w.in_ok-version.ensures.at w.in_ok-version.ensures.candidates
          w.in_ok-version.ensures.stands)
      | else-is_freeze w ↦
          subst (AreSoFar n history (k + 1)) (sym (ap (λ (v : Vec VersionState Global). v.items) w.versions-is))
          (no_more n history k e c.loop-place.versions.items inside at so_far
          (sym c.is_freeze.ensures ∙ w.if-is_freeze.false))
    ]
