-- What the count of a ballot file comes to.
use Rattle.std.proofs.Common.{◌≡◌, ℕ, ◌≤◌, List, length, subst, inl, inr}
use Rattle.std.specs.Prelude.{Option, Result, Ok, Err, OnOk, OnErr, IsPermutation}
use Rattle.fixed_place.specs.declared.omega.TheConstants.{USUAL_OMEGA}
use Rattle.byte_edge.specs.Faults.{CountsFault}
use Rattle.candidate_roll.specs.Roll.{RollList}
use Rattle.plain_ballots.specs.Ballots.{plain}
use Rattle.input_text.specs.declared.input_fault.InputFault.{InputFault}
use Rattle.blt_reader.specs.Poll.{Poll}
use Rattle.meek_rule.specs.Rule.{Warren}
use Rattle.meek_count.specs.Progress.{Progress}
use Rattle.sheet_text.specs.Laws.{OrderOfBallotsLeavesTheSheet}
use Rattle.sheet_text.specs.Sheet.{IsSheetUnder, IsSheetOf, AppendsSheet, AppendsFrontOfSheet}
use Rattle.tool_edge.specs.declared.end.End.{End}
use Rattle.tool_edge.specs.declared.end.End.TheVariants.{Done}
use Rattle.tool_edge.specs.Streams.{Writing, writing}
use Rattle.tool_edge.specs.Contest.{SaysContest}
use Rattle.tool_edge.specs.Finishing.{FinishesOwed, Wrote}
use Rattle.tool_edge.specs.Tool.{IsOwedFor, no_history}
use Rattle.tool_edge.specs.declared.opening.TheConstants.{FILE_LIMIT}
use Rattle.tool_edge.specs.Tools.{over_contests}
use Rattle.warren_cli.specs.Owed.{OwesWarren, IsSheetOwed}

-- the count is of these single ballots, this roll and these lots, with the tool's omega
pub record IsCountOf (roll : RollList) (lots : List ℕ) (ballots : List (List ℕ)) (count : Progress) : Type 0 where
  pub omega_is : count.situation.omega ≡ USUAL_OMEGA
  pub ballots_are : count.ballots ≡ ballots
  pub roll_is : count.roll ≡ roll
  pub lots_are : count.lots ≡ lots

sheet_of :
    (roll : RollList) (lots : List ℕ) (ballots : List (List ℕ)) (count : Progress) (text : List ℕ)
    → IsCountOf roll lots ballots count → IsSheetOf Warren 9 count text → IsSheetUnder Warren 9 USUAL_OMEGA ballots roll lots text
sheet_of roll lots ballots count text of is =
    subst (λ (omega : ℕ). IsSheetUnder Warren 9 omega ballots roll lots text) of.omega_is
    (subst (λ (b : List (List ℕ)). IsSheetUnder Warren 9 count.situation.omega b roll lots text) of.ballots_are
    (subst (λ (r : RollList). IsSheetUnder Warren 9 count.situation.omega count.ballots r lots text) of.roll_is
    (subst (λ (l : List ℕ). IsSheetUnder Warren 9 count.situation.omega count.ballots count.roll l text) of.lots_are is)))

-- the sheet was written, or a front of it
pub wrote_sheet :
    {K T E : Type 0} (written : K → Option (List ℕ)) (faults : K → ℕ) (old new : K) (roll : RollList) (lots : List ℕ)
    (ballots : List (List ℕ)) (count : Progress) (r : Result T E) → IsCountOf roll lots ballots count
    → OnOk r (AppendsSheet Warren 9 count (written old) (written new))
    → OnErr r (AppendsFrontOfSheet Warren 9 count (written old) (written new)) → CountsFault (faults old) (faults new) r
    → (text : List ℕ) × IsSheetOwed ballots roll lots Done text × Wrote text r (writing written faults old new)
wrote_sheet written faults old new roll lots ballots count (Ok done) of (text, is, whole) front calm =
    (text, sheet_of roll lots ballots count text of is, (calm, whole))
wrote_sheet written faults old new roll lots ballots count (Err stop) of whole (text, is, front) rose =
    (text, sheet_of roll lots ballots count text of is, (rose, front))

-- The sheet of the plan's ballots is what is owed for the file.
owed_for_file :
    (lots input : List ℕ) (poll : Poll) (ballots : List (List ℕ)) (due : End InputFault) (bytes : List ℕ)
    → length input ≤ FILE_LIMIT
    → SaysContest lots input poll → OrderOfBallotsLeavesTheSheet → IsPermutation ballots (plain poll.lines)
    → IsSheetOwed ballots poll.roll lots due bytes → IsOwedFor (over_contests OwesWarren) lots input no_history due bytes
owed_for_file lots input poll ballots Done bytes short says leaves same owed =
    (short, (poll, says, (leaves Warren 9 USUAL_OMEGA ballots (plain poll.lines) poll.roll lots bytes same).0 owed))
owed_for_file lots input poll ballots due bytes short says leaves same owed = absurd owed

pub counted :
    (lots input : List ℕ) (poll : Poll) (ballots : List (List ℕ)) (end : End InputFault) (sink : Writing)
    → length input ≤ FILE_LIMIT
    → SaysContest lots input poll → OrderOfBallotsLeavesTheSheet → IsPermutation ballots (plain poll.lines)
    → FinishesOwed (IsSheetOwed ballots poll.roll lots) end sink
    → FinishesOwed (IsOwedFor (over_contests OwesWarren) lots input no_history) end sink
counted lots input poll ballots end sink short says leaves same (inl nothing) = inl nothing
counted lots input poll ballots end sink short says leaves same (inr (due, bytes, owed, finishes)) =
    inr (due, bytes, owed_for_file lots input poll ballots due bytes short says leaves same owed, finishes)
