-- What is owed for a ballot file and an order of lots.
use Rattle.std.specs.Prelude.{ℕ, List}
use Rattle.fixed_place.specs.declared.omega.TheConstants.{USUAL_OMEGA}
use Rattle.candidate_roll.specs.Roll.{RollList}
use Rattle.plain_ballots.specs.Ballots.{plain}
use Rattle.input_text.specs.declared.input_fault.InputFault.{InputFault}
use Rattle.blt_reader.specs.Poll.{Poll}
use Rattle.meek_rule.specs.Rule.{Warren}
use Rattle.sheet_text.specs.Sheet.{IsSheetUnder}
use Rattle.tool_edge.specs.declared.end.End.{End}
use Rattle.tool_edge.specs.declared.end.End.TheVariants.{Done}
use Rattle.tool_edge.specs.Contest.{SaysContest}

-- the sheet by Warren's rule of what the file says, at nine places with the usual omega
abbrev pub OwesWarren : (lots input bytes : List ℕ) → Type 0
OwesWarren lots input bytes =
    (poll : Poll) × SaysContest lots input poll × IsSheetUnder Warren 9 USUAL_OMEGA (plain poll.lines) poll.roll lots bytes

-- the sheet by Warren's rule of these ballots, and nothing else
abbrev pub IsSheetOwed : (ballots : List (List ℕ)) → RollList → (lots : List ℕ) → End InputFault → (bytes : List ℕ) → Type 0
IsSheetOwed ballots roll lots Done bytes = IsSheetUnder Warren 9 USUAL_OMEGA ballots roll lots bytes
IsSheetOwed ballots roll lots other bytes = ⊥
