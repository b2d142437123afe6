-- The ballots that stood at a freeze.
use Rattle.std.proofs.Common.{◌≡◌, ℕ, ◌≤◌, List, length, take, Option, sym, ap, ◌∙◌, subst, arith}
use Rattle.std.specs.Prelude.{All}
use Rattle.std.specs.List.Sorted.{IsPermutation}
use Rattle.std.proofs.lemmas.List.Elements.{All-take}
use Rattle.std.proofs.lemmas.List.Sorted.{IsPermutation-trans, length_permutation}
use Rattle.plain_ballots.specs.declared.ballot_line.BallotLine.{BallotLine}
use Rattle.plain_ballots.specs.declared.limits.TheConstants.{MOST_CANDIDATES}
use Rattle.plain_ballots.specs.Ballots.{plain}
use Rattle.plain_ballots.proofs.PlainLemmas.{length-plain}
use Rattle.batch_core.specs.declared.limits.TheConstants.{MOST_STANDING}
use Rattle.batch_core.specs.declared.entry.Entry.{Entry}
use Rattle.batch_core.specs.Book.{empty, standing}
use Rattle.batch_core.specs.Histories.{after_all}
use Rattle.frozen_plan.specs.Plan.{PlanRows, all_ballots}
use Rattle.day_reader.specs.Said.{IsAnswerable}
use Rattle.day_replay.specs.Places.{ArePlaces, placed_lines}
use Rattle.day_replay.proofs.PlaceLemmas.{placed_stand}
use Rattle.day_replay.proofs.Stands.{few_stand, struck_in_range}

module _ (m : ℕ) (most : m ≤ MOST_CANDIDATES) (history items : List Entry) (n : ℕ) (all : items ≡ history)
    (answerable : All (λ e. IsAnswerable m e.call) history) where
  pub front_answerable : All (λ e. IsAnswerable m e.call) (take n items)
  front_answerable =
      subst (λ (l : List Entry). All (λ (e : Entry). IsAnswerable m e.call) (take n l)) (sym all)
      (All-take (λ (e : Entry). IsAnswerable m e.call) n history answerable)

  -- who was struck
  pub struck_are :
      (struck : List ℕ) → struck ≡ (after_all empty (take n items)).struck
      → All (λ (c : ℕ). (1 ≤ c) × (c ≤ m)) struck
  struck_are struck is =
      subst (All (λ (c : ℕ). (1 ≤ c) × (c ≤ m))) (sym is) (struck_in_range m (take n items) front_answerable)

  module _ (places of : List (Option ℕ)) (are : ArePlaces (take n items) places) (same : of ≡ places)
      (packed : List BallotLine) (lines : IsPermutation (plain packed) (plain (placed_lines (take n items) of)))
      (plans : List PlanRows) (ballots : IsPermutation (all_ballots plans) (plain packed)) where
    here : IsPermutation (all_ballots plans) (plain (standing (after_all empty (take n items))))
    here =
        subst (λ (l : List BallotLine). IsPermutation (all_ballots plans) (plain l))
        (ap (placed_lines (take n items)) same ∙ placed_stand (take n items) places are)
        (IsPermutation-trans (all_ballots plans) (plain packed) (plain (placed_lines (take n items) of)) ballots lines)

    pub stood : IsPermutation (all_ballots plans) (plain (standing (after_all empty (take n history))))
    stood =
        subst (λ (l : List Entry). IsPermutation (all_ballots plans) (plain (standing (after_all empty (take n l))))) all here

    pub few_stood : length (all_ballots plans) ≤ MOST_STANDING
    few_stood =
        let lines = standing (after_all empty (take n items)) in
        omega (
          arith,
          length_permutation (all_ballots plans) (plain lines) here,
          length-plain lines,
          few_stand m (take n items) most front_answerable,
        )
