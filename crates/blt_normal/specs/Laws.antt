-- What holds of canonical texts.
use Rattle.std.specs.Prelude.{ℕ, List}
use Rattle.candidate_roll.specs.Roll.{RollList}
use Rattle.blt_writer.specs.Laws.{IsNamedRoll, AreBallotsOf}
use Rattle.blt_writer.specs.Text.{IsBltText}
use Rattle.blt_normal.specs.Owed.{OwesText}

-- What is owed for a canonical text is that text.
abbrev pub TextsStay : Type 0
TextsStay =
    (roll : RollList) (ballots : List (List ℕ)) (text : List ℕ) → IsNamedRoll roll → AreBallotsOf roll ballots
    → IsBltText ballots roll text → OwesText text text
