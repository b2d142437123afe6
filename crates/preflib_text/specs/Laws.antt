-- What holds of every text.
use Rattle.std.specs.Prelude.{◌≡◌, ◌↔◌, ◌==◌, false, ℕ, List, map, filter, length, All, Some, None}
use Rattle.ballot_marks.specs.Ballot.{is_closed}
use Rattle.ballot_marks.specs.declared.choice.Treat.{Treat}
use Rattle.ballot_marks.specs.declared.choice.Treat.TheVariants.{Refuse}
use Rattle.preflib_text.specs.declared.tally.Tally.{Tally}
use Rattle.preflib_text.specs.Asked.{Asked}
use Rattle.preflib_text.specs.Ballots.{metadata, order_lines, entries, with_room, orders, ballots, treating}
use Rattle.preflib_text.specs.Faults.{Line}
use Rattle.preflib_text.specs.Head.{candidates}
use Rattle.preflib_text.specs.Items.{Order, order_of}
use Rattle.preflib_text.specs.Refusals.{metadata_faults, behind_metadata, parts_fault, total_fault, fault_of_text}
use Rattle.preflib_text.specs.Tallies.{tally}

-- A text says these ballots: metadata, and orders of their candidates, all without a fault, and as many ballots
-- as there are voters.
pub record SaysBallots (asked : Asked) (bytes : List ℕ) (rankings : List (List ℕ)) : Type 0 where
  pub metadata_sound : All (λ fault. fault ≡ None) (metadata_faults asked (metadata bytes))
  pub whole_sound : behind_metadata asked bytes ≡ None
  pub orders_sound :
      All (λ fault. fault ≡ None)
      (map (λ line. parts_fault line.0 (candidates (entries bytes)) line.1) (with_room (order_lines bytes)))
  pub total_sound : total_fault bytes ≡ None
  pub ranked : ballots asked.equal (orders bytes) ≡ Some rankings

-- There is a fault, or the text says ballots, and not both.
abbrev pub FaultOrBallots : Type 0
FaultOrBallots =
    (asked : Asked) (bytes : List ℕ)
    → (fault_of_text asked bytes ≡ None) ↔ ((rankings : List (List ℕ)) × SaysBallots asked bytes rankings)

-- the same, but that equal ranks are refused
abbrev pub refusing : Asked → Asked
refusing asked = record asked { equal = Refuse }

-- What is accepted where equal ranks are refused says the same ballots whatever becomes of them.
abbrev pub TreatmentsOnlyMend : Type 0
TreatmentsOnlyMend =
    (asked : Asked) (bytes : List ℕ) (rankings : List (List ℕ))
    → SaysBallots (refusing asked) bytes rankings → SaysBallots asked bytes rankings

-- a tally counts these ballots: all of them, and those that rank nobody
pub record IsTallyOf (numbers : Tally) (rankings : List (List ℕ)) : Type 0 where
  pub ballots_are : numbers.ballots ≡ length rankings
  pub empty_are : numbers.empty ≡ length (filter (λ ranks. length ranks == 0) rankings)

-- The tally of orders counts their ballots.
abbrev pub TalliesCountBallots : Type 0
TalliesCountBallots =
    (equal : Treat) (orders : List Order) (rankings : List (List ℕ)) → ballots equal orders ≡ Some rankings
    → IsTallyOf (tally equal orders) rankings

-- No line has skipped ranks, so none of its ballots is closed.
abbrev pub NoOrderIsClosed : Type 0
NoOrderIsClosed = (equal : Treat) (line : Line) → is_closed (treating equal) (order_of line).marks ≡ false
