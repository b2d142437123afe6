-- What holds of every bag of ballots and its text.
use Rattle.std.specs.Prelude.{◌≡◌, ℕ, ◌≤◌, List, length, false, All, IsPermutation}
use Rattle.plain_ballots.specs.declared.limits.TheConstants.{MOST_BALLOTS}
use Rattle.candidate_roll.specs.declared.limits.TheConstants.{MOST_NAME_BYTES, MOST_TITLE_BYTES}
use Rattle.candidate_roll.specs.Name.{IsName}
use Rattle.candidate_roll.specs.Roll.{RollList, IsRoll}
use Rattle.plain_ballots.specs.Ballots.{plain}
use Rattle.plain_ballots.specs.Ranking.{IsRanking}
use Rattle.input_text.specs.Scan.{scan}
use Rattle.blt_reader.specs.Poll.{Poll}
use Rattle.blt_reader.specs.Blt.{IsBlt}
use Rattle.input_text.specs.Refusal.{IsAccepted}
use Rattle.blt_writer.specs.Text.{IsBltText}

-- a roll with names and a title that can be printed
pub record IsNamedRoll (roll : RollList) : Type 0 where
  pub roll_is : IsRoll roll
  pub names : All (IsName MOST_NAME_BYTES) roll.names
  pub title : IsName MOST_TITLE_BYTES roll.title

-- rankings of a roll's candidates, not too many
pub record AreBallotsOf (roll : RollList) (ballots : List (List ℕ)) : Type 0 where
  pub rankings : All (IsRanking (length roll.names)) ballots
  pub few : length ballots ≤ MOST_BALLOTS

-- The text says this roll, and these ballots in some order.
pub record SaysBallots (roll : RollList) (ballots : List (List ℕ)) (text : List ℕ) : Type 0 where
  pub poll : Poll
  pub file : IsAccepted (IsBlt MOST_BALLOTS) (scan text false) poll
  pub roll_is : poll.roll ≡ roll
  pub ballots_are : IsPermutation (plain poll.lines) ballots

-- The text of a bag of ballots is a ballot file of its roll and of these ballots.
abbrev pub TextsAreRead : Type 0
TextsAreRead =
    (roll : RollList) (ballots : List (List ℕ)) (text : List ℕ) → IsNamedRoll roll → AreBallotsOf roll ballots
    → IsBltText ballots roll text → SaysBallots roll ballots text

-- A bag of ballots, in whatever order they are listed, has one text.
abbrev pub OneBagHasOneText : Type 0
OneBagHasOneText =
    (roll : RollList) (one other : List (List ℕ)) (text text_of_other : List ℕ) → IsPermutation one other
    → IsBltText one roll text → IsBltText other roll text_of_other → text ≡ text_of_other

-- Every bag of ballots has a text.
abbrev pub EveryBagHasAText : Type 0
EveryBagHasAText = (roll : RollList) (ballots : List (List ℕ)) → (text : List ℕ) × IsBltText ballots roll text
