-- How distributions are made of lanes that were begun, one after another.
use Rattle.std.proofs.Common.{◌≡◌, ℕ, ◌^◌, ◌≤◌, List, [], ◌∷◌, ◌++◌, length, map, All, sym, ap, ◌∙◌, subst}
use Rattle.std.specs.List.{AllZip}
use Rattle.std.proofs.lemmas.List.{append-nil, append_assoc, map-append}
use Rattle.std.proofs.lemmas.List.Elements.{All-nil, All-head, All-tail, All-push}
use denote.Ref.{MutBor}
use denote.Param.Members.{Shared}
use Rattle.plain_ballots.specs.declared.limits.TheConstants.{MOST_BALLOTS}
use Rattle.vote_spread.specs.declared.lanes.Lanes.{Lanes}
use Rattle.vote_spread.specs.declared.plan_spread.PlanSpread.{PlanSpread}
use Rattle.vote_spread.specs.Runs.{RunsLanes, CanSpread}
use Rattle.frozen_plan.specs.Plan.{PlanRows, all_ballots}
use Rattle.vote_spread.specs.Lanes.{LanesSeen}
use Rattle.lane_sheet.specs.Begun.{AreLanesOf}
use Rattle.lane_sheet.specs.Plans.{CanBeCounted}
use Rattle.lane_sheet.proofs.BegunLanes.{AreWhole, lanes_ballots, all_whole, same_ballots}

-- a distribution of so many candidates' ballots that this runs
pub record IsBegunBy {P : ℕ} {F : Type 0} (candidates : ℕ) (run : F) (s : PlanSpread P F) : Type 0 where
  pub run_is : s.run ≡ run
  pub candidates_are : s.candidates ≡ candidates
  pub scaled : s.lanes.scale ≡ 10 ^ P
  pub of_all : length s.lanes.keeps ≡ candidates
  pub counted : s.total ≡ length s.lanes.ballots
  pub few : length s.lanes.ballots ≤ MOST_BALLOTS

abbrev pub spread_ballots : {P : ℕ} {F : Type 0} → PlanSpread P F → List (List ℕ)
spread_ballots s = s.lanes.ballots

-- a distribution that was begun can distribute
pub can_spread :
    {P : ℕ} {F : Type 0} (calls : Shared F (MutBor Lanes × Unit {0}) (Unit {0} × (MutBor Lanes × Unit {0})))
    (candidates : ℕ) (run : F) (s : PlanSpread P F)
    → RunsLanes calls (10 ^ P) run → IsBegunBy candidates run s → CanSpread calls (10 ^ P) s.candidates s.total s.lanes s.run
can_spread {P} calls candidates run s runs begun = record {
  scaled = begun.scaled;
  of_all = begun.of_all ∙ sym begun.candidates_are;
  counted = begun.counted;
  runs = subst (RunsLanes calls (10 ^ P)) (sym begun.run_is) runs;
}

-- these distributions are begun, and these lanes are left, of all ballots of these lists of plans together
pub record AreBegunBy {P : ℕ} {F : Type 0} (candidates : ℕ) (run : F) (lists : List (List PlanRows))
    (spreads : List (PlanSpread P F)) (left : List LanesSeen) : Type 0 where
  pub whole : map spread_ballots spreads ++ map lanes_ballots left ≡ map all_ballots lists
  pub each : All (IsBegunBy candidates run) spreads
  pub left_whole : All (AreWhole (10 ^ P) candidates) left

pub begun_none :
    {P : ℕ} {F : Type 0} (candidates : ℕ) (run : F) (lists : List (List PlanRows))
    (spreads : List (PlanSpread P F)) (lanes left : List LanesSeen)
    → spreads ≡ [] → left ≡ lanes → AllZip (AreLanesOf (10 ^ P) candidates) lists lanes
    → All (CanBeCounted candidates) lists → AreBegunBy candidates run lists spreads left
begun_none {P} candidates run lists spreads lanes left none is of all = record {
  whole =
      (λ i. map spread_ballots (none i) ++ map lanes_ballots (is i)) ∙ same_ballots (10 ^ P) candidates lists lanes of;
  each = subst (All (IsBegunBy candidates run)) (sym none) (All-nil (IsBegunBy candidates run));
  left_whole = subst (All (AreWhole (10 ^ P) candidates)) (sym is) (all_whole (10 ^ P) candidates lists lanes of all);
}

pub begun_more :
    {P : ℕ} {F : Type 0} (candidates : ℕ) (run : F) (lists : List (List PlanRows))
    (spreads spreads' : List (PlanSpread P F)) (left rest : List LanesSeen)
    (lanes : LanesSeen) (s : PlanSpread P F) → AreBegunBy candidates run lists spreads left → left ≡ lanes ∷ rest
    → spreads' ≡ spreads ++ s ∷ [] → s.lanes.ballots ≡ lanes.ballots → IsBegunBy candidates run s
    → AreBegunBy candidates run lists spreads' rest
begun_more {P} candidates run lists spreads spreads' left rest lanes s so_far is put ballots begun =
    record {
      whole =
          ap (λ (l : List (PlanSpread _ _)). map spread_ballots l ++ map lanes_ballots rest) put
          ∙ (ap (λ (l : List (List (List ℕ))). l ++ map lanes_ballots rest) (map-append spread_ballots spreads (s ∷ []))
          ∙ (append_assoc (map spread_ballots spreads) (s.lanes.ballots ∷ []) (map lanes_ballots rest)
          ∙ (ap (λ (b : List (List ℕ)). map spread_ballots spreads ++ b ∷ map lanes_ballots rest) ballots
          ∙ (ap (λ (l : List LanesSeen). map spread_ballots spreads ++ map lanes_ballots l) (sym is) ∙ so_far.whole))));
      each =
          subst (All (IsBegunBy candidates run)) (sym put)
          (All-push (IsBegunBy candidates run) spreads s so_far.each begun);
      left_whole =
          All-tail (AreWhole (10 ^ P) candidates) lanes rest
          (subst (All (AreWhole (10 ^ P) candidates)) is so_far.left_whole);
    }

pub next_left :
    {P : ℕ} {F : Type 0} (candidates : ℕ) (run : F) (lists : List (List PlanRows)) (spreads : List (PlanSpread P F))
    (left rest : List LanesSeen) (lanes : LanesSeen) → AreBegunBy candidates run lists spreads left
    → left ≡ lanes ∷ rest → AreWhole (10 ^ P) candidates lanes
next_left {P} candidates run lists spreads left rest lanes so_far is =
    All-head (AreWhole (10 ^ P) candidates) lanes rest
    (subst (All (AreWhole (10 ^ P) candidates)) is so_far.left_whole)

pub begun_all :
    {P : ℕ} {F : Type 0} (candidates : ℕ) (run : F) (lists : List (List PlanRows))
    (spreads : List (PlanSpread P F)) (left : List LanesSeen)
    → AreBegunBy candidates run lists spreads left → left ≡ [] → map spread_ballots spreads ≡ map all_ballots lists
begun_all candidates run lists spreads left begun none =
    sym (append-nil (map spread_ballots spreads))
    ∙ (ap (λ (l : List LanesSeen). map spread_ballots spreads ++ map lanes_ballots l) (sym none)
    ∙ begun.whole)
