use Rattle.std.proofs.Common.{Some, None, get_or, refl, sym, ◌∙◌}
use Rattle.ballot_marks.specs.declared.mark.Mark.{Mark}
use Rattle.ballot_marks.specs.declared.says.Says.TheVariants.{One}
use Rattle.ballot_marks.specs.declared.way.Way.TheVariants.{Cut, Refused}
use Rattle.ballot_marks.specs.Ballot.{judged}
use Rattle.ballot_marks.proofs.SoFarLemmas.{IsEnd, so_far_begun, so_far_on, behind-candidates, way_at}
use Rattle.ballot_marks.proofs.SoFarLemmas.{ended_at, ended_behind_all, ranked_in_end, refused_in_end}
use Rattle.ballot_marks.proofs.SoFarLemmas.{only_memory}
use Rattle.ballot_marks.proofs.treating.treat.Goals as goal

-- no mark is looked for past the last
abbrev none : Mark
none = record { skipped = 0; says = One 0 }

pub loop-place-init : goal.loop-place-init
loop-place-init c =
    rw c.new-so_far.ensures (record {
      candidates = refl;
      so_far = so_far_begun c.args.treatment.now c.args.marks.now c.args.candidates;
    })

pub returns-in-Cut-clause-stop : goal.returns-in-Cut-clause-stop
returns-in-Cut-clause-stop c =
    let t = c.args.treatment.now in
    let marks = c.args.marks.now in
    let p = c.loop-place.place in
    let s = c.loop-place.so_far in
    let is =
    way_at t marks p none s Cut c.loop-place.invariant.so_far (sym c.in-Cut.is ∙ c.judge.ensures.way) in
    let end : IsEnd s p (Some Cut) (judged t marks) =
    ended_at t marks p none s Cut refl refl c.loop-place-test.true c.loop-place.invariant.so_far is in
    only_memory t marks s.ranks c.treated.result (ranked_in_end t marks s p (Some Cut) end)
    c.treated.ensures.stop

pub returns-in-Refused-clause-stop : goal.returns-in-Refused-clause-stop
returns-in-Refused-clause-stop c =
    let t = c.args.treatment.now in
    let marks = c.args.marks.now in
    let p = c.loop-place.place in
    let s = c.loop-place.so_far in
    let w = Refused c.in-Refused.why in
    let is =
    way_at t marks p none s w c.loop-place.invariant.so_far (sym c.in-Refused.is ∙ c.judge.ensures.way) in
    refused_in_end t marks s p c.in-Refused.why
    (ended_at t marks p none s w refl refl c.loop-place-test.true c.loop-place.invariant.so_far is)

pub loop-place-preserved : goal.loop-place-preserved
loop-place-preserved c =
    let t = c.args.treatment.now in
    let marks = c.args.marks.now in
    let s = c.loop-place.so_far in
    let m : Mark = get_or marks c.loop-place.place none in
    rw c.judge.ensures.taken (record {
      candidates = behind-candidates s m c.judge.result ∙ c.loop-place.invariant.candidates;
      so_far =
          so_far_on t marks c.loop-place.place none s c.judge.result c.in-Ranked.is c.loop-place-test.true
          c.loop-place.invariant.so_far c.judge.ensures.way;
    })

pub returns-clause-stop : goal.returns-clause-stop
returns-clause-stop c =
    let t = c.args.treatment.now in
    let marks = c.args.marks.now in
    let p = c.loop-place.place in
    let s = c.loop-place.so_far in
    let end : IsEnd s p None (judged t marks) =
    ended_behind_all t marks p none s c.loop-place-test.false c.loop-place.invariant.so_far in
    only_memory t marks s.ranks c.treated-2.result (ranked_in_end t marks s p None end)
    c.treated-2.ensures.stop
