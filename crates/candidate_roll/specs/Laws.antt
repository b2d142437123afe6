-- What holds of all names and rolls.
use Rattle.std.specs.Prelude.{◌≡◌, ℕ, List}
use Rattle.candidate_roll.specs.declared.name_stop.NameStop.{NameStop}
use Rattle.candidate_roll.specs.declared.roll_stop.RollStop.{RollStop}
use Rattle.candidate_roll.specs.Name.{IsNameStop}
use Rattle.candidate_roll.specs.Roll.{IsRollStop}

-- There is one answer at most: bytes can't be refused for two reasons, nor at two places.
abbrev pub NameHasOneRefusal : Type 0
NameHasOneRefusal =
    (most : ℕ) (bytes : List ℕ) (one other : NameStop)
    → IsNameStop most bytes one → IsNameStop most bytes other → one ≡ other

-- nor so many seats and candidates
abbrev pub RollHasOneRefusal : Type 0
RollHasOneRefusal =
    (seats candidates : ℕ) (one other : RollStop)
    → IsRollStop seats candidates one → IsRollStop seats candidates other → one ≡ other
