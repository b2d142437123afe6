-- The sheet of a count that was just begun, over ballots in another order than those of the election.
use Rattle.std.proofs.Common.{◌≡◌, ℕ, List, subst}
use Rattle.std.specs.Prelude.{Option, Result, Ok, Err, OnOk, OnErr, IsPermutation}
use Rattle.byte_edge.specs.Faults.{CountsFault}
use Rattle.candidate_roll.specs.Roll.{RollList}
use Rattle.meek_rule.specs.Rule.{Rule}
use Rattle.meek_count.specs.Progress.{Progress}
use Rattle.sheet_text.specs.Laws.{OrderOfBallotsLeavesTheSheet}
use Rattle.sheet_text.specs.Sheet.{IsSheetUnder, IsSheetOf, AppendsSheet, AppendsFrontOfSheet}
use Rattle.lane_sheet.specs.Due.{WritesSome}

-- the count is of these single ballots, this roll and these lots, with this omega
pub record IsCountOf (omega : ℕ) (ballots : List (List ℕ)) (roll : RollList) (lots : List ℕ)
    (count : Progress) : Type 0 where
  pub omega_is : count.situation.omega ≡ omega
  pub ballots_are : count.ballots ≡ ballots
  pub roll_is : count.roll ≡ roll
  pub lots_are : count.lots ≡ lots

sheet_of :
    (rule : Rule) (places omega : ℕ) (ballots : List (List ℕ)) (roll : RollList) (lots : List ℕ) (count : Progress)
    (text : List ℕ) → IsCountOf omega ballots roll lots count → IsSheetOf rule places count text
    → IsSheetUnder rule places omega ballots roll lots text
sheet_of rule places omega ballots roll lots count text of is =
    subst (λ (n : ℕ). IsSheetUnder rule places n ballots roll lots text) of.omega_is
    (subst (λ (b : List (List ℕ)). IsSheetUnder rule places count.situation.omega b roll lots text) of.ballots_are
    (subst (λ (r : RollList). IsSheetUnder rule places count.situation.omega count.ballots r lots text) of.roll_is
    (subst (λ (l : List ℕ). IsSheetUnder rule places count.situation.omega count.ballots count.roll l text) of.lots_are is)))

-- it was written, or a front of it
pub wrote_sheet :
    {S T E : Type 0} (w : S → Option (List ℕ)) (f : S → ℕ) (a b : S) (rule : Rule) (places omega : ℕ)
    (ballots other : List (List ℕ)) (roll : RollList) (lots : List ℕ) (count : Progress) (r : Result T E)
    → IsCountOf omega ballots roll lots count → OrderOfBallotsLeavesTheSheet → IsPermutation ballots other
    → OnOk r (AppendsSheet rule places count (w a) (w b)) → OnErr r (AppendsFrontOfSheet rule places count (w a) (w b))
    → CountsFault (f a) (f b) r → WritesSome (IsSheetUnder rule places omega other roll lots) w f a b r
wrote_sheet w f a b rule places omega ballots other roll lots count (Ok done) of leaves moved
    (text, is, whole) front calm = (
      text,
      (leaves rule places omega ballots other roll lots text moved).0
          (sheet_of rule places omega ballots roll lots count text of is),
      record { whole = whole; calm = calm },
    )
wrote_sheet w f a b rule places omega ballots other roll lots count (Err stop) of leaves moved whole
    (text, is, part) rose = (
      text,
      (leaves rule places omega ballots other roll lots text moved).0
          (sheet_of rule places omega ballots roll lots count text of is),
      record { part = part; rose = rose },
    )
