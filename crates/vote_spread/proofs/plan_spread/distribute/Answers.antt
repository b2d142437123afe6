use Rattle.std.proofs.Common.{◌≡◌, length, arith, ap, sym, ◌∙◌}
use Rattle.fixed_place.specs.Rounding.{scale, most}
use Rattle.fixed_place.proofs.RoundingLemmas.{scale_pos, most_votes}
use Rattle.vote_spread.proofs.LaneLemmas.{loaded_votes, loaded_votes-le, votes_of_places}
use Rattle.vote_spread.proofs.plan_spread.distribute.Goals as goal

pub gather-requires : goal.gather-requires
gather-requires g c =
    let s = scale g.row.P in
    let load = c.load.ensures in
    let ran = c.requires.runs.gives _ _ c.run.ensures in
    let many : length c.args.tally.now ≡ length c.args.keeps.now = c.requires.votes_of_all ∙ sym c.requires.keeps_of_all in
    let same : length c.args.keeps.now ≡ length c.run.new.arg2.keeps = sym (ap length (ran.same_keeps ∙ load.loaded)) in (
      omega arith,
      (
        many ∙ same,
        λ p lt.
            loaded_votes-le s (most g.row.P) c.args.keeps.now c.args.lanes.now c.load.new.self c.run.new.arg2
            (scale_pos g.row.P) (most_votes g.row.P) c.requires.scale load ran p (omega arith),
      ),
    )

pub returns-clause-votes : goal.returns-clause-votes
returns-clause-votes g c =
    let s = scale g.row.P in
    let keeps = c.args.keeps.now in
    let load = c.load.ensures in
    let ran = c.requires.runs.gives _ _ c.run.ensures in
    let many : length c.args.tally.now ≡ length keeps = c.requires.votes_of_all ∙ sym c.requires.keeps_of_all in
    votes_of_places s keeps c.args.lanes.now.ballots c.gather.new.tally (length keeps) (c.gather.ensures.same_length ∙ many)
    (λ p lt. c.gather.ensures.sums p (omega arith)
    ∙ loaded_votes s keeps c.args.lanes.now c.load.new.self c.run.new.arg2 c.requires.scale load ran p lt)

pub returns-clause-same_scale : goal.returns-clause-same_scale
returns-clause-same_scale g c =
    let ran = c.requires.runs.gives _ _ c.run.ensures in
    ran.same_scale ∙ c.load.ensures.same_scale

pub returns-clause-same_ballots : goal.returns-clause-same_ballots
returns-clause-same_ballots g c =
    let ran = c.requires.runs.gives _ _ c.run.ensures in
    ran.same_ballots ∙ c.load.ensures.same_ballots

pub returns-clause-as_many : goal.returns-clause-as_many
returns-clause-as_many g c =
    let ran = c.requires.runs.gives _ _ c.run.ensures in
    ap length (ran.same_keeps ∙ c.load.ensures.loaded) ∙ c.requires.keeps_of_all
