-- Lanes that workers began, each at the place of its plans.
use Rattle.std.proofs.Common.{◌≡◌, ℕ, suc, ◌<◌, ◌≤◌, List, [], ◌∷◌, ◌++◌, Option, Some, IfSome, length, map, All}
use Rattle.std.proofs.Common.{take, drop, slice_index_or, refl, sym, ap, ◌∙◌, subst, arith}
use Rattle.std.specs.List.{AllZip}
use Rattle.std.proofs.lemmas.List.{take_at}
use Rattle.std.proofs.lemmas.List.Elements.{All-nil, All-head, All-tail, All-cons}
use Rattle.plain_ballots.specs.declared.limits.TheConstants.{MOST_BALLOTS}
use Rattle.frozen_plan.specs.Plan.{PlanRows, all_ballots}
use Rattle.vote_spread.specs.Lanes.{LanesSeen}
use Rattle.lane_sheet.specs.Begun.{AreLanesOf}
use Rattle.lane_sheet.specs.Plans.{CanBeCounted}

-- what came of each list of plans are lanes of them
pub are_lanes :
    (R : List PlanRows → LanesSeen → Type 0) (s n : ℕ)
    → ((plans : List PlanRows) (lanes : LanesSeen) → R plans lanes → AreLanesOf s n plans lanes)
    → (lists : List (List PlanRows)) (begun : List LanesSeen) → AllZip R lists begun → AllZip (AreLanesOf s n) lists begun
are_lanes R s n each [] [] zip = tt
are_lanes R s n each [] (l ∷ ls) zip = absurd zip
are_lanes R s n each (p ∷ ps) [] zip = absurd zip
are_lanes R s n each (p ∷ ps) (l ∷ ls) (here, rest) = (each p l here, are_lanes R s n each ps ls rest)

-- ---- what lanes of plans are seen as

-- lanes of so many candidates, and of no more ballots than an election has
pub record AreWhole (scale candidates : ℕ) (lanes : LanesSeen) : Type 0 where
  pub scaled : lanes.scale ≡ scale
  pub of_all : length lanes.keeps ≡ candidates
  pub few : length lanes.ballots ≤ MOST_BALLOTS

abbrev pub lanes_ballots : LanesSeen → List (List ℕ)
lanes_ballots lanes = lanes.ballots

pub all_whole :
    (s n : ℕ) (lists : List (List PlanRows)) (begun : List LanesSeen) → AllZip (AreLanesOf s n) lists begun
    → All (CanBeCounted n) lists → All (AreWhole s n) begun
all_whole s n [] [] zip all = All-nil (AreWhole s n)
all_whole s n [] (b ∷ bs) zip all = absurd zip
all_whole s n (l ∷ ls) [] zip all = absurd zip
all_whole s n (l ∷ ls) (b ∷ bs) (of, rest) all =
    let few = (All-head (CanBeCounted n) l ls all).few_ballots in
    All-cons (AreWhole s n) b bs
    (record {
      scaled = of.scaled;
      of_all = of.of_all;
      few = subst (λ (r : List (List ℕ)). length r ≤ MOST_BALLOTS) (sym of.of_ballots) few;
    })
    (all_whole s n ls bs rest (All-tail (CanBeCounted n) l ls all))

pub same_ballots :
    (s n : ℕ) (lists : List (List PlanRows)) (begun : List LanesSeen) → AllZip (AreLanesOf s n) lists begun
    → map lanes_ballots begun ≡ map all_ballots lists
same_ballots s n [] [] zip = refl
same_ballots s n [] (b ∷ bs) zip = absurd zip
same_ballots s n (l ∷ ls) [] zip = absurd zip
same_ballots s n (l ∷ ls) (b ∷ bs) (of, rest) =
    λ i. of.of_ballots i ∷ same_ballots s n ls bs rest i
