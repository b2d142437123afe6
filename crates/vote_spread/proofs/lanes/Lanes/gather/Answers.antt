use Rattle.std.proofs.Common.{◌≡◌, ℕ, List, length, get_or, sum_by, arith, refl, ap, sym, ◌∙◌}
use Rattle.vote_spread.specs.LaneSeen.{LaneSeen, tallies_of}
use Rattle.vote_spread.specs.Lanes.{LanesSeen}
use Rattle.vote_spread.proofs.LaneLemmas.{sum_tallies}
use Rattle.vote_spread.proofs.lanes.Lanes.gather.Goals as goal

-- what the lanes have counted at a place
counted :
    (p : ℕ) (lanes list : List LaneSeen) (inside now : LanesSeen) → list ≡ lanes
    → inside.tallies ≡ tallies_of lanes → inside ≡ now
    → sum_by (λ (lane : LaneSeen). get_or lane.tally p 0) list
    ≡ sum_by (λ (tally : List ℕ). get_or tally p 0) now.tallies
counted p lanes list inside now same seen is =
    ap (sum_by (λ (lane : LaneSeen). get_or lane.tally p 0)) same
    ∙ (sym (sum_tallies p lanes)
    ∙ (ap (sum_by (λ (tally : List ℕ). get_or tally p 0)) (sym seen)
    ∙ ap (λ (l : LanesSeen). sum_by (λ (tally : List ℕ). get_or tally p 0) l.tallies) is))

pub gather-requires : goal.gather-requires
gather-requires g c = (
  omega arith,
  (
    rw c.as_slice.ensures.value (λ k d lt. c.self.invariant.0.of_all k d lt
        ∙ (ap (λ (l : LanesSeen). length l.keeps) c.self.view_is ∙ sym c.requires.votes_of_all)),
    λ p lt. omega (
      arith,
      counted p c.self.inside.lanes.items c.as_slice.result.now _ c.args.self.now c.as_slice.ensures.value
          refl c.self.view_is,
      c.requires.room p lt,
    ),
  ),
)

pub returns-clause-sums : goal.returns-clause-sums
returns-clause-sums g c =
    λ p lt. c.gather.ensures.sums p lt
    ∙ counted p c.self.inside.lanes.items c.as_slice.result.now _ c.args.self.now c.as_slice.ensures.value
    refl c.self.view_is
